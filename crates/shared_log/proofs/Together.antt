-- What two publishers that meet are told, by what their passes together were.
use Rattle.std.proofs.Common.{◌≡◌, ◌⊎◌, inl, inr, ℕ, ◌+◌, ◌-◌, ◌*◌, ◌/◌, ◌%◌, ◌≤◌, max, sym, refl, ap, ◌∙◌, subst, ⊎_elim, lt_of_not-le, mul-le-mul_right, arith}
use mathlib.Core.Logic.{dite}
use native.Mathlib.Decide.{dec_le, ℕ_discrete}
use Rattle.theory.specs.Bytes.{Identity}
use Rattle.theory.specs.Placed.{Among}
use Rattle.theory.proofs.Lists.{among_left, among_right}
use Rattle.publication.specs.declared.pass.Controls.{Controls}
use Rattle.publication.specs.declared.pass.Pass.{Pass}
use Rattle.publication.specs.Controls.{with_tail}
use Rattle.publication.specs.Steps.{term_of}
use Rattle.shared_log.specs.Steps.Handles.{PublisherValue}
use Rattle.publication.specs.Orders.{claim_end}
use Rattle.log_rule.specs.Meetings.{Steady, meeting, unnoted, was_shown}
use Rattle.log_rule.specs.Numbers.{is_number}
use Rattle.log_rule.proofs.Claimed.Totals.{total_append}
use Rattle.shared_log.specs.Steps.Meets.{IsBack, Meets, NeverFalls, SawAsMuch, SeesTails, Shows}

-- ---- the three together

third : (k : ℕ) → (k % 3 ≡ 0) ⊎ ((k % 3 ≡ 1) ⊎ (k % 3 ≡ 2))
third k = dite (ℕ_discrete (k % 3) 0) (λ e. inl e) (λ a. dite (ℕ_discrete (k % 3) 1) (λ e. inr (inl e)) (λ c. inr (inr (let e : k % 3 ≡ 2 = omega (arith, a, c) in e))))

-- each position that is shown lies below the greatest
of_third : (k n x y z : ℕ) (top : ℕ) → top ≡ max (max x y) z → (k % 3 ≡ 0 → n ≤ x) → (k % 3 ≡ 1 → n ≤ y) → (k % 3 ≡ 2 → n ≤ z) → n ≤ top
of_third k n x y z top e a c d = ⊎_elim (λ (p : k % 3 ≡ 0). (let le = a p in first n x y z top e le)) (λ (o : (k % 3 ≡ 1) ⊎ (k % 3 ≡ 2)). ⊎_elim (λ (p : k % 3 ≡ 1). (let le = c p in second n x y z top e le)) (λ (p : k % 3 ≡ 2). (let le = d p in last n x y z top e le)) o) (third k)
  where
    first : (n x y z top : ℕ) → top ≡ max (max x y) z → n ≤ x → n ≤ top
    first n x y z top e le = omega arith

    second : (n x y z top : ℕ) → top ≡ max (max x y) z → n ≤ y → n ≤ top
    second n x y z top e le = omega arith

    last : (n x y z top : ℕ) → top ≡ max (max x y) z → n ≤ z → n ≤ top
    last n x y z top e le = omega arith

pub sees_tails : (v : Pass) (none one two all : Controls) (x y z top : ℕ) → Shows v 0 none one x → Shows (was_shown x v) 1 one two y → Shows (was_shown y (was_shown x v)) 2 two all z → top ≡ max (max x y) z → SeesTails v none all top
sees_tails v none one two all x y z top a c d e = record {
  greatest = record {
    zeroth = a.word;
    first = c.word;
    second = d.word;
    loaded = (a.loaded, c.loaded, d.loaded);
    noted = d.noted ∙ ap (λ (k : Controls). with_tail k 2 d.word) (c.noted ∙ ap (λ (k : Controls). with_tail k 1 c.word) a.noted);
    is = e ∙ (λ i. max (max (a.is i) (c.is i)) (d.is i));
  };
  claims = λ r among. of_third (r.start / term_of v) (claim_end r) x y z top e (λ p. subst (λ (n : ℕ). claim_end r ≤ n) (sym a.is) (a.told.claims r among p)) (λ p. subst (λ (n : ℕ). claim_end r ≤ n) (sym c.is) (c.told.claims r among p)) (λ p. subst (λ (n : ℕ). claim_end r ≤ n) (sym d.is) (d.told.claims r among p));
  terms = λ k from le. of_third k (k * term_of v) x y z top e (λ p. subst (λ (n : ℕ). k * term_of v ≤ n) (sym a.is) (a.told.terms k from le p)) (λ p. subst (λ (n : ℕ). k * term_of v ≤ n) (sym c.is) (c.told.terms k from le p)) (λ p. subst (λ (n : ℕ). k * term_of v ≤ n) (sym d.is) (d.told.terms k from le p));
  shown = dite (dec_le v.seen.shown v.start)
      (λ low. (let from : v.start ≤ top = of_third (v.start / term_of v) v.start x y z top e (λ p. subst (λ (n : ℕ). v.start ≤ n) (sym a.is) (a.told.from p)) (λ p. subst (λ (n : ℕ). v.start ≤ n) (sym c.is) (c.told.from p)) (λ p. subst (λ (n : ℕ). v.start ≤ n) (sym d.is) (d.told.from p)) in under v.seen.shown v.start top low from))
      (λ no. (let above = lt_of_not-le no in let s : ℕ = v.seen.shown in
      of_third ((s - 1) / term_of v) s x y z top e (λ p. subst (λ (n : ℕ). s ≤ n) (sym a.is) (a.told.shown s (same s) above p)) (λ p. subst (λ (n : ℕ). s ≤ n) (sym c.is) (c.told.shown s (still s x) above p)) (λ p. subst (λ (n : ℕ). s ≤ n) (sym d.is) (d.told.shown s (twice s x y) above p))));
  single = a.told.single;
  apart = a.told.apart;
}
  where
    under : (a c d : ℕ) → a ≤ c → c ≤ d → a ≤ d
    under a c d x y = omega arith

    same : (n : ℕ) → n ≤ n
    same n = omega arith

    still : (n x : ℕ) → n ≤ max n x
    still n x = omega arith

    twice : (n x y : ℕ) → n ≤ max (max n x) y
    twice n x y = omega arith

-- and so the pass was shown the greatest
pub three_shown : (v u w s : Pass) (x y z top : ℕ) → top ≡ max (max x y) z → u ≡ was_shown x v → w ≡ was_shown y u → s ≡ was_shown z w → s ≡ was_shown top v
three_shown v u w s x y z top e a c d =
    d ∙ ap (was_shown z) (c ∙ ap (was_shown y) a) ∙ ap (λ (n : ℕ). record v { seen = record v.seen { shown = n } }) (all v.seen.shown x y z top e)
  where
    all : (s x y z top : ℕ) → top ≡ max (max x y) z → max (max (max s x) y) z ≡ max s top
    all s x y z top e = omega arith

-- what one seat was shown is the answer, where nothing that it was shown before is above that
pub shown_is : (v w : Pass) (position : ℕ) → w ≡ was_shown position v → v.seen.shown ≤ position → w.seen.shown ≡ position
shown_is v w position is le = let e = ap (λ (x : Pass). x.seen.shown) is in top v.seen.shown w.seen.shown position e le
  where
    top : (a n p : ℕ) → n ≡ max a p → a ≤ p → n ≡ p
    top a n p e le = omega arith

-- ---- of both

pub meets : (one other one' other' : PublisherValue) (v : Pass) (before after : Controls) (position : ℕ) → v ≡ meeting one.pass other.pass → before ≡ unnoted → one'.controls ≡ after → SeesTails v before after position → Steady one.pass → Steady other.pass → other.pass.identity ≡ one.pass.identity → other.pass.start ≡ one.pass.start → IsBack one one' position → IsBack other other' position → one'.seat ≡ one.seat → (one'.steps ≡ one.steps + 4) × (other'.steps ≡ 0) → Meets one other one' other' position
meets one other one' other' v before after position is new back_noted told so st same from back back' seat steps =
    let p : Pass = one.pass in let q : Pass = other.pass in let t : SeesTails (meeting p q) unnoted one'.controls position = subst (λ (x : Pass × Controls × Controls). SeesTails x.0 x.1 x.2 position) (λ i. (is i, new i, sym back_noted i)) told in
    let size : term_of q ≡ term_of p = ap (λ (i : Identity). i.geometry.term_length) same in
    let first : q.start / term_of q ≡ p.start / term_of p = λ i. from i / size i in
    -- of a term that either has seen
    let below : (k top : ℕ) → k ≤ top → p.start / term_of p ≤ top → top ≤ max p.seen.count (max p.seen.begun (max q.seen.begun (max q.seen.count q.seen.term))) → k * term_of p ≤ position = λ k top le low high. (let a = t.terms top low high in let c : k * term_of p ≤ top * term_of p = mul-le-mul_right (term_of p) le in through (k * term_of p) (top * term_of p) position c a) in
    let one_low = so.count in let other_low : p.start / term_of p ≤ q.seen.count = subst (λ (n : ℕ). n ≤ q.seen.count) first st.count in record {
      one_is = back;
      other_is = back';
      seat = seat;
      steps = steps;
      apart = λ c d here there. t.apart p.right.claims q.right.claims refl c d here there;
      numbers = λ n. subst (λ (m : ℕ). m ≤ 1) (total_append (is_number n) p.right.numbers q.right.numbers) (t.single n);
      greatest = record { zeroth = t.greatest.zeroth; first = t.greatest.first; second = t.greatest.second; loaded = t.greatest.loaded; noted = t.greatest.noted; is = t.greatest.is };
      claims = λ c either. t.claims c (⊎_elim (λ (a : Among c p.right.claims). among_left c p.right.claims q.right.claims a) (λ (a : Among c q.right.claims). among_right c p.right.claims q.right.claims a) either);
      seen = (
        (below p.seen.count p.seen.count (omega arith) one_low (omega arith), below p.seen.begun (max p.seen.count p.seen.begun) (omega arith) (omega arith) (omega arith), left_of p.seen.shown q.seen.shown position t.shown),
        subst (λ (n : ℕ). (q.seen.count * n ≤ position) × (q.seen.begun * n ≤ position) × (q.seen.shown ≤ position)) (sym size) (below q.seen.count q.seen.count (omega arith) other_low (omega arith), below q.seen.begun (max q.seen.count q.seen.begun) (omega arith) (omega arith) (omega arith), right_of p.seen.shown q.seen.shown position t.shown),
      );
    }
  where
    through : (a c d : ℕ) → a ≤ c → c ≤ d → a ≤ d
    through a c d x y = omega arith

    left_of : (a c n : ℕ) → max a c ≤ n → a ≤ n
    left_of a c n le = omega arith

    right_of : (a c n : ℕ) → max a c ≤ n → c ≤ n
    right_of a c n le = omega arith

-- ---- twice

pub never_falls : NeverFalls
never_falls one other one' other' position first again third again' third' later second either =
    let a = second.seen.0.2 in let c = second.seen.1.2 in
    let mine : position ≤ one'.pass.seen.shown = remembers one.pass one'.pass first.one_is.pass in let yours : position ≤ other'.pass.seen.shown = remembers other.pass other'.pass first.other_is.pass in
    ⊎_elim
    (⊎_elim (λ (le : SawAsMuch again one'). through position one'.pass.seen.shown again.pass.seen.shown later mine le a) (λ (le : SawAsMuch third one'). through position one'.pass.seen.shown third.pass.seen.shown later mine le c))
    (⊎_elim (λ (le : SawAsMuch again other'). through position other'.pass.seen.shown again.pass.seen.shown later yours le a) (λ (le : SawAsMuch third other'). through position other'.pass.seen.shown third.pass.seen.shown later yours le c))
    either
  where
    remembers : (v w : Pass) → w ≡ was_shown position v → position ≤ w.seen.shown
    remembers v w is = let e = ap (λ (x : Pass). x.seen.shown) is in top v.seen.shown w.seen.shown position e
      where
        top : (a n p : ℕ) → n ≡ max a p → p ≤ n
        top a n p e = omega arith

    through : (a c d e : ℕ) → a ≤ c → c ≤ d → d ≤ e → a ≤ e
    through a c d e x y z = omega arith
