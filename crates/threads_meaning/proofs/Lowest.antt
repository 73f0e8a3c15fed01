-- What the keeper saw of consumers: the least position is below each reader, and a whole number of units.
use Rattle.std.proofs.Common.{◌≡◌, ◌≢◌, ℕ, zero, suc, ◌+◌, ◌%◌, ◌<◌, ◌≤◌, List, [], ◌∷◌, map, min, sym, refl, ap, ◌∙◌, subst, lt_of_not-le, arith}
use mathlib.Core.Option.{some}
use mathlib.Core.Logic.{dite}
use native.Mathlib.Decide.{dec_le}
use lib.ListN.{get_elem?}
use Rattle.std.specs.List.{AllByRecursion, fold}
use Rattle.std.specs.Prelude.{slice_index, slice_get, Option, None, Some}
use Rattle.std.proofs.lemmas.Option.{none-some, slice_get_within}
use Rattle.atomic_table.specs.Table.{State}
use Rattle.theory.specs.Consumer.{Consumer}
use Rattle.theory.specs.Numbered.{Each}
use Rattle.publication.specs.declared.pass.Pass.{Pass}
use Rattle.log_rule.specs.declared.claims.view.View.{View}
use Rattle.log_rule.specs.declared.rule.Key.{Key}
use Rattle.log_rule.specs.Claims.Packs.{limit_place}
use Rattle.log_rule.specs.Claims.Plays.{pass_in}
use Rattle.log_rule.specs.Keepings.{least_of, least_there, numbered}
use Rattle.log_rule.specs.Kept.{IsThere}
use Rattle.log_rule.specs.Table.{LogRuled}
use Rattle.log_rule.proofs.Keeping.{least_low, not_keeper}
use Rattle.model.specs.Log.{IsLowest, Log}
use Rattle.threads_meaning.specs.Modelled.{IsModelOf}

-- ---- lists

each_from : {X : Type 0} (P : X → Type 0) (seats : List (Option X)) → ((k : ℕ) (x : X) → slice_get seats k ≡ Some (Some x) → P x) → Each P seats
each_from P [] h = tt
each_from P (None ∷ seats) h = (tt, each_from P seats (λ k. h (suc k)))
each_from P (Some x ∷ seats) h = (h 0 x refl, each_from P seats (λ k. h (suc k)))

all_numbered : (P : ℕ → Type 0) (from : ℕ) (there : List ℕ) → ((j : ℕ) → 0 < slice_index there j → P (from + j)) → AllByRecursion P (numbered from there)
all_numbered P from [] h = tt
all_numbered P from (zero ∷ there) h = all_numbered P (suc from) there (λ j pos. subst P (let e : from + suc j ≡ suc from + j = omega arith in e) (h (suc j) pos))
all_numbered P from (suc n ∷ there) h = (
  subst P (let e : from + 0 ≡ from = omega arith in e) (h 0 (omega arith)),
  all_numbered P (suc from) there (λ j pos. subst P (let e : from + suc j ≡ suc from + j = omega arith in e) (h (suc j) pos)),
)

all_mapped : (P : ℕ → Type 0) (f : ℕ → ℕ) (xs : List ℕ) → AllByRecursion (λ x. P (f x)) xs → AllByRecursion P (map f xs)
all_mapped P f [] a = tt
all_mapped P f (x ∷ xs) a = (a.0, all_mapped P f xs a.1)

either_min : (P : ℕ → Type 0) (a b : ℕ) → P a → P b → P (min a b)
either_min P a b pa pb = dite (dec_le a b) (λ le. subst P (let e : a ≡ min a b = omega arith in e) pa) (λ no. subst P (let e : b ≡ min a b = omega arith in e) pb)

fold_min : (P : ℕ → Type 0) (a : ℕ) (xs : List ℕ) → P a → AllByRecursion P xs → P (fold min a xs)
fold_min P a [] pa h = pa
fold_min P a (x ∷ xs) pa h = fold_min P (min a x) xs (either_min P a x pa h.0) h.1

least_has : (P : ℕ → Type 0) (xs : List ℕ) → P 0 → AllByRecursion P xs → P (least_of xs)
least_has P [] none h = none
least_has P (x ∷ xs) none h = fold_min P x (x ∷ xs) h.0 h

-- what is so of each position that was seen, and of 0, is so of the least
pub least_is : (P : ℕ → Type 0) (there positions : List ℕ) → P 0 → ((j : ℕ) → 0 < slice_index there j → P (slice_index positions j)) → P (least_there there positions)
least_is P there positions none h = least_has P (map (slice_index positions) (numbered 0 there)) none (all_mapped P (slice_index positions) (numbered 0 there) (all_numbered (λ x. P (slice_index positions x)) 0 there (λ j pos. subst (λ (x : ℕ). P (slice_index positions x)) (let e : j ≡ 0 + j = omega arith in e) (h j pos))))

-- ---- the keeper

module _ (key : Key) (gone : List ℕ) (s : State (Unit {0}) View) (l : Log) (q : LogRuled key s) (k : IsModelOf key gone s l) (id : ℕ) (v : Pass) (at : get_elem? (map pass_in s.views) id ≡ some v) (right : v.keeping.right ≡ 1) where
  -- it knows the limit's word
  pub knows_limit : v.keeping.limit ≡ slice_index s.words limit_place
  knows_limit = (q.kept.each id v at).keeping.limit right

  pub knows_there : v.keeping.there ≡ q.there
  knows_there = (q.kept.each id v at).keeping.there right

  pub flagged : (j : ℕ) → 0 < slice_index v.keeping.there j → IsThere v.keeping.there j
  flagged j pos = let f = q.kept.flags j in let e : slice_index v.keeping.there j ≡ slice_index q.there j = ap (λ (x : List ℕ). slice_index x j) knows_there in one (slice_index v.keeping.there j) (slice_index q.there j) e f pos
    where
      one : (a c : ℕ) → a ≡ c → c ≤ 1 → 0 < a → a ≡ 1
      one a c e le pos = omega arith

  -- none else is the keeper
  pub alone_keeper : (i : ℕ) (u : Pass) → i ≢ id → get_elem? (map pass_in s.views) i ≡ some u → u.keeping.right ≡ 1 → ⊥
  alone_keeper i u ne there one = not_keeper (map pass_in s.views) id i v u at ne there right q.kept.keepers one

  -- a reader stands where it was seen, or further on
  seen_below : (j : ℕ) (c : Consumer) → slice_get l.readers j ≡ Some (Some c) → (slice_index v.keeping.positions j ≤ c.at) × (0 < slice_index v.keeping.there j)
  seen_below j c there =
      let low : j < 8 = subst (λ (x : ℕ). j < x) k.readers.eight (slice_get_within l.readers j (Some c) there) in
      let mine = k.readers.keeper id v at right in
      dite (dec_le 1 (slice_index v.keeping.there j))
      (λ pos. let is = flagged j pos in let swept = (q.kept.each id v at).keeping.swept right j (subst (λ (x : List ℕ). IsThere x j) knows_there is) in (subst (λ (x : ℕ). slice_index v.keeping.positions j ≤ x) (sym (k.readers.standing j c there).at) swept, pos))
      (λ none. absurd (none-some c (some_same (sym (mine.free j low (least (slice_index v.keeping.there j) (lt_of_not-le none))) ∙ there))))
    where
      least : (n : ℕ) → n < 1 → n ≡ 0
      least n lt = omega arith

      some_same : {X : Type 0} {a c : X} → Some a ≡ Some c → a ≡ c
      some_same e = cc

  pub lowest : IsLowest [] l (least_there v.keeping.there v.keeping.positions)
  lowest = record {
    others_above = tt;
    readers_above = each_from (λ r. least_there v.keeping.there v.keeping.positions ≤ r.at) l.readers (λ j c there. (let b = seen_below j c there in up (least_there v.keeping.there v.keeping.positions) (slice_index v.keeping.positions j) c.at (least_low v.keeping.there v.keeping.positions j b.1) b.0));
  }
    where
      up : (x y z : ℕ) → x ≤ y → y ≤ z → x ≤ z
      up x y z a c = omega arith

  pub whole_least : least_there v.keeping.there v.keeping.positions % 32 ≡ 0
  whole_least = least_is (λ x. x % 32 ≡ 0) v.keeping.there v.keeping.positions refl (λ j pos. ((q.kept.each id v at).keeping.seen right j (subst (λ (x : List ℕ). IsThere x j) knows_there (flagged j pos))).unit)
