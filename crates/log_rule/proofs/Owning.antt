-- Each number stays with one pass: over steps, and where seats are dealt, gathered, or meet.
use Rattle.std.proofs.Common.{◌≡◌, ◌≢◌, inl, inr, ℕ, zero, suc, ◌+◌, ◌*◌, ◌%◌, ◌<◌, ◌≤◌, cond, Bool, true, false, List, [], ◌∷◌, ◌++◌, map, set, sym, refl, ap, ◌∙◌, subst, ⊎_elim, lt_of_not-le, eq-eqb, ne_eqb, arith}
use mathlib.Core.Option.{some}
use mathlib.Core.Logic.{dite}
use native.Mathlib.Decide.{dec_le, ℕ_discrete}
use lib.IntN.{ℤ_discrete}
use lib.ListN.{get_elem?}
use Rattle.std.specs.List.{AllByRecursion}
use Rattle.std.specs.Prelude.{nat_eq}
use Rattle.atomic_table.proofs.Lists.{at_set, at_snoc}
use Rattle.theory.specs.Placed.{Among}
use Rattle.theory.specs.Position.{framed_length, id_of}
use Rattle.theory.specs.Refusal.{limit_in}
use Rattle.theory.specs.Words.{id_in, offset_in}
use Rattle.theory.proofs.Lists.{all_append, all_at, all_weaker, among_left, among_right}
use Rattle.publication.specs.declared.pass.ClaimRange.{ClaimRange}
use Rattle.publication.specs.declared.pass.Keeping.{Keeping}
use Rattle.publication.specs.declared.pass.Pass.{Pass}
use Rattle.publication.specs.declared.pass.Reading.{Reading}
use Rattle.publication.specs.declared.step.WordStep.TheVariants as steps
use Rattle.publication.specs.Frames.{CompletesFrame}
use Rattle.publication.specs.Steps.{Adds, Arms, Commits, Counts, ExchangesCount, HasWord, Nexts, Rotates, Sees, Stores, addition, count_in, disarmed, geometry_of, message_at, noted, opened, padding_at, tail_exchange, tail_step, term_of, with_armed, with_begun, with_count, with_full, with_limit}
use Rattle.log_rule.specs.Claims.Closing.{both, handed_over, owned_by}
use Rattle.log_rule.specs.Claims.Plays.{down}
use Rattle.log_rule.specs.Claims.Sums.{total}
use Rattle.log_rule.specs.Claims.Rule.{Bounds, ClaimsHold, Entitled, parts_of}
use Rattle.log_rule.specs.Numbers.{AreNumbered, ClaimsAs, Owns, is_number, numbers_as}
use Rattle.log_rule.proofs.Claimed.Begun.{split_total}
use Rattle.log_rule.proofs.Claimed.Totals.{both_at, total_at, total_set}

-- ---- over a step

pub record Goes (v w : Pass) : Type 0 where
  pub numbers : w.right.numbers ≡ v.right.numbers
  pub owns : Owns v → Owns w

-- it becomes this one
goes : (v w x : Pass) → x.right.numbers ≡ v.right.numbers → (Owns v → Owns x) → w ≡ x → Goes v w
goes v w x same owns e = record { numbers = ap (λ (y : Pass). y.right.numbers) e ∙ same; owns = λ o. subst Owns (sym e) (owns o) }

pub attends_goes : (v : Pass) (rs : List Reading) (k : Keeping) → Goes v (record v { reading = rs; keeping = k })
attends_goes v rs k = record { numbers = refl; owns = λ o. record { claims = o.claims; armed = o.armed } }

pub sees_goes : (v : Pass) (n : ℕ) (w : Pass) → Sees v n w → Goes v w
sees_goes v n w t = goes v w (noted (steps.Limit n) (with_limit v n)) refl (λ o. record { claims = o.claims; armed = o.armed }) t

pub counts_goes : (v : Pass) (n : ℕ) (w : Pass) → Counts v n w → Goes v w
counts_goes v n w t = goes v w (noted (steps.Count n) (with_count v n)) refl (λ o. record { claims = o.claims; armed = o.armed }) t.after

pub arms_goes : (v : Pass) → (v.right.parts < 1024 → Among v.number v.right.numbers) → (n : ℕ) (w : Pass) → Arms v n w → Goes v w
arms_goes v mine n w t = dite (ℤ_discrete (id_in n) (id_of (geometry_of v) v.seen.count))
    (λ named. dite (dec_le (term_of v) (offset_in n))
    (λ full. goes v w (noted (tail_step v n) (with_full v v.seen.count)) refl (λ o. record { claims = o.claims; armed = o.armed }) (t.used_up named full))
    (λ no. let room = lt_of_not-le no in dite (dec_le (limit_in v.right.limit) (v.seen.count * term_of v + offset_in n))
    (λ past. goes v w (noted (tail_step v n) v) refl (λ o. record { claims = o.claims; armed = o.armed }) (t.limited named room past))
    (λ not. goes v w (noted (tail_step v n) (with_armed v)) refl (λ o. record { claims = o.claims; armed = λ less _. mine less }) (t.below named room (lt_of_not-le not)))))
    (λ other. goes v w (noted (tail_step v n) v) refl (λ o. record { claims = o.claims; armed = o.armed }) (t.other other))

-- one claim more, under its number
owns_opened : (v : Pass) (c : ClaimRange) → v.right.armed ≡ 1 → c.owner ≡ v.number → Owns v → Owns (opened v c)
owns_opened v c one own o = record {
  claims = λ less. all_append (λ (d : ClaimRange). Among d.owner v.right.numbers) v.right.claims (c ∷ []) (o.claims less) (subst (λ (n : ℕ). Among n v.right.numbers) (sym own) (o.armed less one), tt);
  armed = λ less off. absurd (omega (arith, off));
}

pub adds_goes : (v : Pass) → v.right.armed ≡ 1 → (size n : ℕ) (w : Pass) → Adds v size n w → Goes v w
adds_goes v one size n w t = dite (dec_le (offset_in n + framed_length (geometry_of v) size) (term_of v))
    (λ fits. goes v w (noted (addition v size n) (opened v (message_at v n size))) refl (λ o. let x = owns_opened v (message_at v n size) one refl o in record { claims = x.claims; armed = x.armed }) (t.fits fits))
    (λ no. dite (dec_le (term_of v) (offset_in n))
    (λ full. goes v w (noted (addition v size n) (with_full (disarmed v) (count_in (geometry_of v) n))) refl (λ o. record { claims = o.claims; armed = λ less off. absurd (omega (arith, off)) }) (t.over full))
    (λ not. goes v w (noted (addition v size n) (with_full (opened v (padding_at v n)) (count_in (geometry_of v) n))) refl (λ o. let x = owns_opened v (padding_at v n) one refl o in record { claims = x.claims; armed = x.armed }) (t.trips (lt_of_not-le not) (lt_of_not-le no))))

pub nexts_goes : (v : Pass) (k n : ℕ) (w : Pass) → Nexts v k n w → Goes v w
nexts_goes v k n w t = dite (ℤ_discrete (id_in n) (id_of (geometry_of v) (k + 1)))
    (λ yes. goes v w (noted (steps.NextTail ((k + 1) % 3) n) (with_begun v (k + 1))) refl (λ o. record { claims = o.claims; armed = o.armed }) (t.begun yes))
    (λ no. goes v w (noted (steps.NextTail ((k + 1) % 3) n) v) refl (λ o. record { claims = o.claims; armed = o.armed }) (t.other no))

pub rotates_goes : (v : Pass) (k from n : ℕ) (w : Pass) → Rotates v k from n w → Goes v w
rotates_goes v k from n w t = dite (ℕ_discrete n from)
    (λ hit. goes v w (noted (tail_exchange v k from n) (with_begun v (k + 1))) refl (λ o. record { claims = o.claims; armed = o.armed }) (t.begun (inl hit)))
    (λ miss. dite (ℤ_discrete (id_in n) (id_of (geometry_of v) (k + 1)))
    (λ yes. goes v w (noted (tail_exchange v k from n) (with_begun v (k + 1))) refl (λ o. record { claims = o.claims; armed = o.armed }) (t.begun (inr yes)))
    (λ no. goes v w (noted (tail_exchange v k from n) v) refl (λ o. record { claims = o.claims; armed = o.armed }) (t.other miss no)))

pub exchanges_goes : (v : Pass) (k n : ℕ) (w : Pass) → ExchangesCount v k n w → Goes v w
exchanges_goes v k n w t = goes v w (noted (steps.CountExchange k n) v) refl (λ o. record { claims = o.claims; armed = o.armed }) t.after

pub stores_goes : (v : Pass) (p x : ℕ) (w : Pass) → HasWord v 1 p → Stores v p x w → Goes v w
stores_goes v p x w h t = goes v w _ refl (λ o. record { claims = o.claims; armed = o.armed }) (t h.front h.draft h.behind h.place h.parts h.above h.inside h.position)

pub commits_goes : (v : Pass) (p x : ℕ) (w : Pass) → CompletesFrame v p x → Commits v p x w → Goes v w
commits_goes v p x w h t = goes v w _ refl (λ o. record { claims = o.claims; armed = o.armed }) (t h.front h.draft h.behind h.parts h.inside h.position)

pub numbered_on : (ps : List Pass) (id : ℕ) (v w : Pass) → get_elem? ps id ≡ some v → Goes v w → AreNumbered ps → AreNumbered (set ps id w)
numbered_on ps id v w at g a = record {
  single = λ n. (let s = total_set (numbers_as n) ps id v w at in let e : numbers_as n w ≡ numbers_as n v = ap (total (is_number n)) g.numbers in let one = a.single n in
      same (total (numbers_as n) (set ps id w)) (numbers_as n v) (total (numbers_as n) ps) (numbers_as n w) s e one);
  each = λ i u e. ⊎_elim
      (λ (y : (i ≡ id) × (w ≡ u)). subst Owns y.1 (g.owns (a.each id v at)))
      (λ (y : (i ≢ id) × (get_elem? ps i ≡ some u)). a.each i u y.1)
      (at_set ps id i w u e);
}
  where
    same : (now v old w : ℕ) → now + v ≡ old + w → w ≡ v → old ≤ 1 → now ≤ 1
    same now v old w s e one = omega arith

-- ---- where seats are dealt

pub numbered_split : (ps : List Pass) (id : ℕ) (v l q : Pass) → get_elem? ps id ≡ some v → ((n : ℕ) → numbers_as n l + numbers_as n q ≡ numbers_as n v) → Owns l → Owns q → AreNumbered ps → AreNumbered (set ps id l ++ q ∷ [])
numbered_split ps id v l q at sum left right a = record {
  single = λ n. subst (λ (t : ℕ). t ≤ 1) (sym (split_total (numbers_as n) ps id v l q at (sum n))) (a.single n);
  each = λ i u e. ⊎_elim
      (λ (y : get_elem? (set ps id l) i ≡ some u). ⊎_elim
      (λ (z : (i ≡ id) × (l ≡ u)). subst Owns z.1 left)
      (λ (z : (i ≢ id) × (get_elem? ps i ≡ some u)). a.each i u z.1)
      (at_set ps id i l u y))
      (λ (y : q ≡ u). subst Owns y right)
      (at_snoc (set ps id l) q u i e);
}

-- ---- and where two become one

pub numbered_join : (ps : List Pass) (i j : ℕ) (v w l q : Pass) → get_elem? ps i ≡ some v → get_elem? (set ps i l) j ≡ some w → ((n : ℕ) → numbers_as n l + numbers_as n q ≡ numbers_as n v + numbers_as n w) → Owns l → Owns q → AreNumbered ps → AreNumbered (set (set ps i l) j q)
numbered_join ps i j v w l q at at' sum left right a = record {
  single = λ n. (let s = total_set (numbers_as n) ps i v l at in let t = total_set (numbers_as n) (set ps i l) j w q at' in let e = sum n in let one = a.single n in
      less (total (numbers_as n) (set (set ps i l) j q)) (total (numbers_as n) (set ps i l)) (total (numbers_as n) ps) (numbers_as n v) (numbers_as n w) (numbers_as n l) (numbers_as n q) s t e one);
  each = λ x u e. ⊎_elim
      (λ (y : (x ≡ j) × (q ≡ u)). subst Owns y.1 right)
      (λ (y : (x ≢ j) × (get_elem? (set ps i l) x ≡ some u)). ⊎_elim
      (λ (z : (x ≡ i) × (l ≡ u)). subst Owns z.1 left)
      (λ (z : (x ≢ i) × (get_elem? ps x ≡ some u)). a.each x u z.1)
      (at_set ps i x l u y.1))
      (at_set (set ps i l) j x q u e);
}
  where
    less : (now mid old v w l q : ℕ) → mid + v ≡ old + l → now + w ≡ mid + q → l + q ≡ v + w → old ≤ 1 → now ≤ 1
    less now mid old v w l q s t e one = omega arith

fewer_left : (a c : ℕ) → a + c < 1024 → a < 1024
fewer_left a c lt = omega arith

fewer_right : (a c : ℕ) → a + c < 1024 → c < 1024
fewer_right a c lt = omega arith

pub owns_both : (v w : Pass) → v.right.armed ≡ 0 → Owns v → Owns w → Owns (both v w)
owns_both v w off o p = record {
  claims = λ less. all_append (λ (c : ClaimRange). Among c.owner (v.right.numbers ++ w.right.numbers)) v.right.claims w.right.claims
      (all_weaker (λ (c : ClaimRange). Among c.owner v.right.numbers) (λ (c : ClaimRange). Among c.owner (v.right.numbers ++ w.right.numbers)) (λ c a. among_left c.owner v.right.numbers w.right.numbers a) v.right.claims (o.claims (fewer_left v.right.parts w.right.parts less)))
      (all_weaker (λ (c : ClaimRange). Among c.owner w.right.numbers) (λ (c : ClaimRange). Among c.owner (v.right.numbers ++ w.right.numbers)) (λ c a. among_right c.owner v.right.numbers w.right.numbers a) w.right.claims (p.claims (fewer_right v.right.parts w.right.parts less)));
  armed = λ less one. absurd (omega (arith, one, off));
}

all_under : (n : ℕ) (ms : List ℕ) → Among n ms → (cs : List ClaimRange) → AllByRecursion (λ (c : ClaimRange). Among c.owner ms) (map (owned_by n) cs)
all_under n ms a [] = tt
all_under n ms a (c ∷ cs) = (a, all_under n ms a cs)

-- what is handed over is under the number of who gets it
pub owns_handed : (v w : Pass) → v.right.armed ≡ 0 → (v.right.parts < 1024 → Among v.number v.right.numbers) → Owns v → Owns (handed_over v w)
owns_handed v w off mine o = record {
  claims = λ less. all_append (λ (c : ClaimRange). Among c.owner (v.right.numbers ++ w.right.numbers)) v.right.claims (map (owned_by v.number) w.right.claims)
      (all_weaker (λ (c : ClaimRange). Among c.owner v.right.numbers) (λ (c : ClaimRange). Among c.owner (v.right.numbers ++ w.right.numbers)) (λ c a. among_left c.owner v.right.numbers w.right.numbers a) v.right.claims (o.claims (fewer_left v.right.parts w.right.parts less)))
      (all_under v.number (v.right.numbers ++ w.right.numbers) (among_left v.number v.right.numbers w.right.numbers (mine (fewer_left v.right.parts w.right.parts less))) w.right.claims);
  armed = λ less one. absurd (omega (arith, one, off));
}

-- a pass that has claimed nothing, and isn't armed
pub owns_none : (v : Pass) → v.right.claims ≡ [] → v.right.armed ≡ 0 → Owns v
owns_none v none off = record { claims = λ less. subst (AllByRecursion (λ (c : ClaimRange). Among c.owner v.right.numbers)) (sym none) tt; armed = λ less one. absurd (omega (arith, one, off)) }

-- ---- the numbers of a log that opens

down_none : (n k m : ℕ) → k < n → total (is_number n) (down k m) ≡ 0
down_none n k zero lt = refl
down_none n zero (suc m) lt = ap (λ (b : Bool). cond b 1 0 + 0) (ne_eqb 0 n (λ e. omega (arith, e, lt)))
down_none n (suc k) (suc m) lt = let r = down_none n k m (omega (arith, lt)) in let z : is_number n (suc k) ≡ 0 = ap (λ (b : Bool). cond b 1 0) (ne_eqb (suc k) n (λ e. omega (arith, e, lt))) in omega (arith, r, z)

pub down_once : (n k m : ℕ) → total (is_number n) (down k m) ≤ 1
down_once n k zero = omega arith
down_once n zero (suc m) = little (nat_eq 0 n)
  where
    little : (b : Bool) → cond b 1 0 + 0 ≤ 1
    little true = omega arith
    little false = omega arith
down_once n (suc k) (suc m) = dite (ℕ_discrete (suc k) n)
    (λ same. let z : is_number n (suc k) ≡ 1 = ap (λ (b : Bool). cond b 1 0) (eq-eqb (suc k) n same) in let r = down_none n k m (omega (arith, same)) in omega (arith, z, r))
    (λ ne. let z : is_number n (suc k) ≡ 0 = ap (λ (b : Bool). cond b 1 0) (ne_eqb (suc k) n ne) in let r = down_once n k m in omega (arith, z, r))

-- ---- what the sums say

among_number : (n : ℕ) (ms : List ℕ) → Among n ms → 1 ≤ total (is_number n) ms
among_number n [] a = absurd a
among_number n (m ∷ ms) (inl e) = let z : is_number n m ≡ 1 = ap (λ (b : Bool). cond b 1 0) (eq-eqb m n (sym e)) in omega (arith, z)
among_number n (m ∷ ms) (inr a) = let r = among_number n ms a in omega (arith, r)

-- a pass has no number twice
pub single_at : (ps : List Pass) (id : ℕ) (v : Pass) → get_elem? ps id ≡ some v → AreNumbered ps → (n : ℕ) → numbers_as n v ≤ 1
single_at ps id v at a n = let le = total_at (numbers_as n) ps id v at in let one = a.single n in omega (arith, le, one)

own_number : (n : ℕ) (v : Pass) → Owns v → v.right.parts < 1024 → ClaimsAs n v → Among n v.right.numbers
own_number n v o less (inl c) = subst (λ (m : ℕ). Among m v.right.numbers) c.2 (all_at (λ (d : ClaimRange). Among d.owner v.right.numbers) c.0 v.right.claims (o.claims less) c.1)
own_number n v o less (inr c) = subst (λ (m : ℕ). Among m v.right.numbers) c.1 (o.armed less c.0)

-- who has no part of the right claims nothing
none_claims : (n : ℕ) (b : Bounds) (v : Pass) → Entitled b v.right → v.right.parts ≡ 0 → ClaimsAs n v → ⊥
none_claims n b v r zero_parts (inl c) = subst (Among c.0) (r.idle zero_parts) c.1
none_claims n b v r zero_parts (inr c) = let able = r.able in let one = c.0 in absurd (omega (arith, able, one, zero_parts))

pub one_claims : (b : Bounds) (ws : List ℕ) (ps : List Pass) → ClaimsHold b ws ps → AreNumbered ps → (n i j : ℕ) (v w : Pass) → get_elem? ps i ≡ some v → get_elem? ps j ≡ some w → ClaimsAs n v → ClaimsAs n w → i ≡ j
one_claims b ws ps r a n i j v w at at' c d = dite (ℕ_discrete i j) (λ same. same) (λ ne. absurd (two (λ e. ne (sym e))))
  where
    alone : (x y t : ℕ) → x + y ≤ t → t ≡ 1024 → 1024 ≤ x → y ≡ 0
    alone x y t le e big = omega arith

    alone_right : (x y t : ℕ) → x + y ≤ t → t ≡ 1024 → 1024 ≤ y → x ≡ 0
    alone_right x y t le e big = omega arith

    over : (x y t : ℕ) → x + y ≤ t → t ≤ 1 → 1 ≤ x → 1 ≤ y → ⊥
    over x y t le one p q = omega arith

    two : j ≢ i → ⊥
    two ne =
        let parts = both_at parts_of ps i j v w ne at at' in
        dite (dec_le 1024 v.right.parts)
        (λ big. none_claims n b w (r.each j w at').right (alone v.right.parts w.right.parts (total parts_of ps) parts r.parted big) d)
        (λ small. dite (dec_le 1024 w.right.parts)
        (λ big. none_claims n b v (r.each i v at).right (alone_right v.right.parts w.right.parts (total parts_of ps) parts r.parted big) c)
        (λ little. over (numbers_as n v) (numbers_as n w) (total (numbers_as n) ps) (both_at (numbers_as n) ps i j v w ne at at') (a.single n)
        (among_number n v.right.numbers (own_number n v (a.each i v at) (lt_of_not-le small) c)) (among_number n w.right.numbers (own_number n w (a.each j w at') (lt_of_not-le little) d))))
