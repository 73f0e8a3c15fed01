-- What a cleaning keeps of a stream.
use Rattle.std.proofs.Common.{◌≡◌, ◌∙◌, ℕ, ◌-◌, ◌%◌, ◌<◌, ◌≤◌, min, max, Bool, cond, List, [], ◌∷◌, length, refl, sym, ap, subst, lt_of_not-le, arith}
use mathlib.Core.Logic.{dite}
use native.Mathlib.Decide.{dec_le}
use Rattle.std.specs.Prelude.{fold, nat_le}
use Rattle.std.specs.List.{AllByRecursion}
use Rattle.std.proofs.lemmas.Bool.{lt-leb, le-leb}
use Rattle.theory.specs.Entry.{Entry}
use Rattle.theory.proofs.Lists.{all_weaker}
use Rattle.theory.proofs.Places.{power_unit}
use Rattle.one_hand.specs.Legal.{IsStream}
use Rattle.one_hand.specs.Stream.{Stream, clean_end, kept_from, least, lowest, standing, term_of}
use Rattle.one_hand.specs.Shown.{kept}

-- ---- entries

pub kept_twice : (z w : ℕ) → z ≤ w → (es : List Entry) → kept_from w (kept_from z es) ≡ kept_from w es
kept_twice z w le [] = refl
kept_twice z w le (e ∷ es) = dite (dec_le z e.start)
    (λ (low : z ≤ e.start). ap (λ (b : Bool). kept_from w (cond b (e ∷ kept_from z es) (kept_from z es))) (le-leb z e.start low) ∙ ap (λ (xs : List Entry). cond (nat_le w e.start) (e ∷ xs) xs) (kept_twice z w le es))
    (λ no'. let far = lt_of_not-le no' in ap (λ (b : Bool). kept_from w (cond b (e ∷ kept_from z es) (kept_from z es))) (lt-leb z e.start far) ∙ kept_twice z w le es
    ∙ ap (λ (b : Bool). cond b (e ∷ kept_from w es) (kept_from w es)) (sym (lt-leb w e.start (omega arith))))

-- ---- the least position

min_has : (P : ℕ → Type 0) (a b : ℕ) → P a → P b → P (min a b)
min_has P a b x y = dite (dec_le a b) (λ (le : a ≤ b). subst P (let e : a ≡ min a b = omega arith in e) x) (λ no'. let lt = lt_of_not-le no' in subst P (let e : b ≡ min a b = omega arith in e) y)

fold_has : (P : ℕ → Type 0) (a : ℕ) (xs : List ℕ) → P a → AllByRecursion P xs → P (fold min a xs)
fold_has P a [] x h = x
fold_has P a (y ∷ ys) x h = fold_has P (min a y) ys (min_has P a y x h.0) h.1

pub least_has : (P : ℕ → Type 0) (xs : List ℕ) → 0 < length xs → AllByRecursion P xs → P (least xs)
least_has P [] some h = absurd (omega arith)
least_has P (x ∷ xs) some h = fold_has P x (x ∷ xs) h.0 h

fold_low : (a : ℕ) (xs : List ℕ) → fold min a xs ≤ a
fold_low a [] = omega arith
fold_low a (x ∷ xs) = let h = fold_low (min a x) xs in omega arith

fold_under : (a : ℕ) (xs : List ℕ) → AllByRecursion (λ x. fold min a xs ≤ x) xs
fold_under a [] = tt
fold_under a (x ∷ xs) = ((let h = fold_low (min a x) xs in omega arith), fold_under (min a x) xs)

pub least_low : (xs : List ℕ) → AllByRecursion (λ x. least xs ≤ x) xs
least_low [] = tt
least_low (x ∷ xs) = fold_under x (x ∷ xs)

-- ---- streams

-- nothing is forgotten that was kept for a consumer
pub not_back : (l : Stream) → IsStream l → 0 < length (standing l.consumers) → l.cleaned ≤ clean_end l
not_back l is some = least_has (λ p. l.cleaned ≤ max l.start (p - term_of l)) (standing l.consumers) some is.readable

pub cleaned_is : (l : Stream) → IsStream l → 0 < length (standing l.consumers) → IsStream (record l { cleaned = clean_end l })
cleaned_is l is some =
    let u = least_has (λ p. p % 32 ≡ 0) (standing l.consumers) some is.consumer_units in let t = power_unit (term_of l) is.geometry.term.power is.geometry.term.least in let s = is.unit in record {
      geometry = is.geometry;
      identity = is.identity;
      unit = is.unit;
      below = is.below;
      from = is.from;
      to = is.to;
      last = is.last;
      first = is.first;
      tiles = is.tiles;
      entries = is.entries;
      eight = is.eight;
      shares = is.shares;
      numbers = is.numbers;
      claims = λ by o e. (let x = is.claims by o e in record { entry = x.entry; short = x.short });
      word = whole l.start (lowest l) (term_of l) s u t;
      consumer_units = is.consumer_units;
      readable = all_weaker (λ p. lowest l ≤ p) (λ p. clean_end l ≤ max l.start (p - term_of l)) (λ p h. lower l.start (lowest l) p (term_of l) h) (standing l.consumers) (least_low (standing l.consumers));
    }
  where
    whole : (s p t : ℕ) → s % 32 ≡ 0 → p % 32 ≡ 0 → t % 32 ≡ 0 → max s (p - t) % 8 ≡ 0
    whole s p t a b c = omega arith

    lower : (s a b t : ℕ) → a ≤ b → max s (a - t) ≤ max s (b - t)
    lower s a b t le = omega arith

-- the entries are those that a cleaning keeps
pub kept_cleaned : (l : Stream) → IsStream l → 0 < length (standing l.consumers) → kept (record l { cleaned = clean_end l }) ≡ record (kept l) { cleaned = clean_end l; entries = kept_from (clean_end l) (kept l).entries }
kept_cleaned l is some = λ j. record (kept l) { cleaned = clean_end l; entries = sym (kept_twice l.cleaned (clean_end l) (not_back l is some) l.entries) j }
