-- Which of a pass's consumers has a number.
use Rattle.std.proofs.Common.{◌≡◌, ◌∙◌, ℕ, zero, suc, ◌+◌, ◌<◌, ◌≤◌, Bool, true, false, List, [], ◌∷◌, ◌++◌, map, length, take, drop, None, Some, refl, sym, ap, subst, arith}
use mathlib.Core.Option.{some}
use lib.ListN.{get_elem?}
use Rattle.std.specs.Prelude.{IfSome, Option, slice_get, slice_index, slice_index_or, slice_set}
use Rattle.std.specs.List.{AllByRecursion}
use Rattle.publication.specs.declared.pass.Reading.{Reading}
use Rattle.log_rule.specs.Keepings.{numbered}
use Rattle.shared_log.specs.Keepers.{flag_of}
use Rattle.one_hand.specs.Readers.{below}
use Rattle.one_hand.specs.Shown.{seated}
use Rattle.one_hand.specs.Stream.{standing}

abbrev numbers : List Reading → List ℕ
numbers rs = map (λ (r : Reading). r.number) rs

abbrev places : List Reading → List ℕ
places rs = map (λ (r : Reading). r.position) rs

-- the consumer at a place has this number and stands there
pub record At (rs : List Reading) (place number at : ℕ) : Type 0 where
  pub reader : Reading
  pub is : get_elem? rs place ≡ some reader
  pub number_is : reader.number ≡ number
  pub position_is : reader.position ≡ at

pub seat_at : (flags : List ℕ) (rs : List Reading) (from k at : ℕ) → map (λ (r : Reading). r.number) rs ≡ numbered from flags → slice_index_or (seated flags (map (λ (r : Reading). r.position) rs)) k None ≡ Some at → At rs (below flags k) (from + k) at
seat_at [] rs from k at e h = absurd (cc)
seat_at (zero ∷ fs) rs from zero at e h = absurd (cc)
seat_at (zero ∷ fs) rs from (suc k) at e h = let r = seat_at fs rs (suc from) k at e h in record { reader = r.reader; is = r.is; number_is = (let i = r.number_is in omega (arith, i)); position_is = r.position_is }
seat_at (suc f ∷ fs) [] from k at e h = absurd (cc)
seat_at (suc f ∷ fs) (r ∷ rs) from zero at e h = record { reader = r; is = refl; number_is = (let i : r.number ≡ from = ap (λ (xs : List ℕ). slice_index xs 0) e in omega (arith, i)); position_is = (let i : Some r.position ≡ Some at = h in cc) }
seat_at (suc f ∷ fs) (r ∷ rs) from (suc k) at e h = let q = seat_at fs rs (suc from) k at (ap (λ (xs : List ℕ). drop 1 xs) e) h in record { reader = q.reader; is = q.is; number_is = (let i = q.number_is in omega (arith, i)); position_is = q.position_is }

pub seat_low : (flags ps : List ℕ) (k at : ℕ) → slice_index_or (seated flags ps) k None ≡ Some at → k < length flags
seat_low [] ps k at h = absurd (cc)
seat_low (zero ∷ fs) ps zero at h = absurd (cc)
seat_low (zero ∷ fs) ps (suc k) at h = let r = seat_low fs ps k at h in omega (arith, r)
seat_low (suc f ∷ fs) [] zero at h = absurd (cc)
seat_low (suc f ∷ fs) [] (suc k) at h = let r = seat_low fs [] k at h in omega (arith, r)
seat_low (suc f ∷ fs) (p ∷ ps) zero at h = omega arith
seat_low (suc f ∷ fs) (p ∷ ps) (suc k) at h = let r = seat_low fs ps k at h in omega (arith, r)

-- nobody has a number without a flag
pub seat_free : (flags : List ℕ) (rs : List Reading) (from k : ℕ) → map (λ (r : Reading). r.number) rs ≡ numbered from flags → k < length flags → slice_index_or (seated flags (map (λ (r : Reading). r.position) rs)) k None ≡ None → slice_index flags k ≡ 0
seat_free [] rs from k e low h = absurd (omega (arith, low))
seat_free (zero ∷ fs) rs from zero e low h = refl
seat_free (zero ∷ fs) rs from (suc k) e low h = seat_free fs rs (suc from) k e (omega (arith, low)) h
seat_free (suc f ∷ fs) [] from k e low h = absurd (cc)
seat_free (suc f ∷ fs) (r ∷ rs) from zero e low h = absurd (cc)
seat_free (suc f ∷ fs) (r ∷ rs) from (suc k) e low h = seat_free fs rs (suc from) k (ap (λ (xs : List ℕ). drop 1 xs) e) (omega (arith, low)) h

pub seat_unflagged : (flags ps : List ℕ) (k : ℕ) → slice_index flags k ≡ 0 → slice_index_or (seated flags ps) k None ≡ None
seat_unflagged [] ps k e = refl
seat_unflagged (zero ∷ fs) ps zero e = refl
seat_unflagged (zero ∷ fs) ps (suc k) e = seat_unflagged fs ps k e
seat_unflagged (suc f ∷ fs) ps zero e = absurd (omega (arith, e))
seat_unflagged (suc f ∷ fs) [] (suc k) e = seat_unflagged fs [] k e
seat_unflagged (suc f ∷ fs) (p ∷ ps) (suc k) e = seat_unflagged fs ps k e

pub seat_flagged : (flags : List ℕ) (rs : List Reading) (from k : ℕ) → map (λ (r : Reading). r.number) rs ≡ numbered from flags → 0 < slice_index flags k → (at : ℕ) × (slice_index_or (seated flags (map (λ (r : Reading). r.position) rs)) k None ≡ Some at)
seat_flagged [] rs from k e any = absurd (omega (arith, any))
seat_flagged (zero ∷ fs) rs from zero e any = absurd (omega (arith, any))
seat_flagged (zero ∷ fs) rs from (suc k) e any = seat_flagged fs rs (suc from) k e any
seat_flagged (suc f ∷ fs) [] from k e any = absurd (cc)
seat_flagged (suc f ∷ fs) (r ∷ rs) from zero e any = (r.position, refl)
seat_flagged (suc f ∷ fs) (r ∷ rs) from (suc k) e any = seat_flagged fs rs (suc from) k (ap (λ (xs : List ℕ). drop 1 xs) e) any

-- who is there stands where the pass's consumers do
pub standing_seated : (flags : List ℕ) (rs : List Reading) (from : ℕ) → map (λ (r : Reading). r.number) rs ≡ numbered from flags → standing (seated flags (map (λ (r : Reading). r.position) rs)) ≡ map (λ (r : Reading). r.position) rs
standing_seated [] [] from e = refl
standing_seated [] (r ∷ rs) from e = absurd (cc)
standing_seated (zero ∷ fs) rs from e = standing_seated fs rs (suc from) e
standing_seated (suc f ∷ fs) [] from e = absurd (cc)
standing_seated (suc f ∷ fs) (r ∷ rs) from e = ap (λ (ps : List ℕ). r.position ∷ ps) (standing_seated fs rs (suc from) (ap (λ (xs : List ℕ). drop 1 xs) e))

-- ---- one that is elsewhere, joins or leaves

pub seat_moved : (flags : List ℕ) (rs : List Reading) (from k at end : ℕ) → map (λ (r : Reading). r.number) rs ≡ numbered from flags → slice_index_or (seated flags (map (λ (r : Reading). r.position) rs)) k None ≡ Some at
    → seated flags (slice_set (map (λ (r : Reading). r.position) rs) (below flags k) end) ≡ slice_set (seated flags (map (λ (r : Reading). r.position) rs)) k (Some end)
seat_moved [] rs from k at end e h = absurd (cc)
seat_moved (zero ∷ fs) rs from zero at end e h = absurd (cc)
seat_moved (zero ∷ fs) rs from (suc k) at end e h = ap (λ (cs : List (Option ℕ)). None ∷ cs) (seat_moved fs rs (suc from) k at end e h)
seat_moved (suc f ∷ fs) [] from k at end e h = absurd (cc)
seat_moved (suc f ∷ fs) (r ∷ rs) from zero at end e h = refl
seat_moved (suc f ∷ fs) (r ∷ rs) from (suc k) at end e h = ap (λ (cs : List (Option ℕ)). Some r.position ∷ cs) (seat_moved fs rs (suc from) k at end (ap (λ (xs : List ℕ). drop 1 xs) e) h)

abbrev more : List ℕ → List Reading → ℕ → Reading → List Reading
more flags rs k q = take (below flags k) rs ++ q ∷ drop (below flags k) rs

pub seat_more : (flags : List ℕ) (rs : List Reading) (from k : ℕ) (q : Reading) → map (λ (r : Reading). r.number) rs ≡ numbered from flags → k < length flags → slice_index flags k ≡ 0 → q.number ≡ from + k
    → (map (λ (r : Reading). r.number) (take (below flags k) rs ++ q ∷ drop (below flags k) rs) ≡ numbered from (slice_set flags k 1))
    × (seated (slice_set flags k 1) (map (λ (r : Reading). r.position) (take (below flags k) rs ++ q ∷ drop (below flags k) rs)) ≡ slice_set (seated flags (map (λ (r : Reading). r.position) rs)) k (Some q.position))
seat_more [] rs from k q e low free is = absurd (omega (arith, low))
seat_more (zero ∷ fs) rs from zero q e low free is = ((λ j. (let i : q.number ≡ from = omega (arith, is) in i) j ∷ e j), refl)
seat_more (zero ∷ fs) rs from (suc k) q e low free is = let h = seat_more fs rs (suc from) k q e (omega (arith, low)) free (omega (arith, is)) in (h.0, ap (λ (cs : List (Option ℕ)). None ∷ cs) h.1)
seat_more (suc f ∷ fs) rs from zero q e low free is = absurd (omega (arith, free))
seat_more (suc f ∷ fs) [] from (suc k) q e low free is = absurd (cc)
seat_more (suc f ∷ fs) (r ∷ rs) from (suc k) q e low free is =
    let h = seat_more fs rs (suc from) k q (ap (λ (xs : List ℕ). drop 1 xs) e) (omega (arith, low)) free (omega (arith, is)) in
    ((λ j. ap (λ (xs : List ℕ). slice_index xs 0) e j ∷ h.0 j), ap (λ (cs : List (Option ℕ)). Some r.position ∷ cs) h.1)

pub seat_less : (flags : List ℕ) (rs : List Reading) (from k at : ℕ) → map (λ (r : Reading). r.number) rs ≡ numbered from flags → slice_index_or (seated flags (map (λ (r : Reading). r.position) rs)) k None ≡ Some at
    → (map (λ (r : Reading). r.number) (take (below flags k) rs ++ drop (suc (below flags k)) rs) ≡ numbered from (slice_set flags k 0))
    × (seated (slice_set flags k 0) (map (λ (r : Reading). r.position) (take (below flags k) rs ++ drop (suc (below flags k)) rs)) ≡ slice_set (seated flags (map (λ (r : Reading). r.position) rs)) k None)
seat_less [] rs from k at e h = absurd (cc)
seat_less (zero ∷ fs) rs from zero at e h = absurd (cc)
seat_less (zero ∷ fs) rs from (suc k) at e h = let i = seat_less fs rs (suc from) k at e h in (i.0, ap (λ (cs : List (Option ℕ)). None ∷ cs) i.1)
seat_less (suc f ∷ fs) [] from k at e h = absurd (cc)
seat_less (suc f ∷ fs) (r ∷ rs) from zero at e h = (ap (λ (xs : List ℕ). drop 1 xs) e, refl)
seat_less (suc f ∷ fs) (r ∷ rs) from (suc k) at e h =
    let i = seat_less fs rs (suc from) k at (ap (λ (xs : List ℕ). drop 1 xs) e) h in
    ((λ j. ap (λ (xs : List ℕ). slice_index xs 0) e j ∷ i.0 j), ap (λ (cs : List (Option ℕ)). Some r.position ∷ cs) i.1)

-- ---- what holds of each that is there

pub one_standing : (P : ℕ → Type 0) (cs : List (Option ℕ)) (k at : ℕ) → AllByRecursion P (standing cs) → slice_index_or cs k None ≡ Some at → P at
one_standing P [] k at h e = absurd (cc)
one_standing P (None ∷ cs) zero at h e = absurd (cc)
one_standing P (Some x ∷ cs) zero at h e = subst P (let i : Some x ≡ Some at = e in let j : x ≡ at = cc in j) h.0
one_standing P (None ∷ cs) (suc k) at h e = one_standing P cs k at h e
one_standing P (Some x ∷ cs) (suc k) at h e = one_standing P cs k at h.1 e

pub all_seats : (P : ℕ → Type 0) (cs : List (Option ℕ)) (k : ℕ) (o : Option ℕ) → AllByRecursion P (standing cs) → IfSome o P → AllByRecursion P (standing (slice_set cs k o))
all_seats P [] k o h i = tt
all_seats P (None ∷ cs) zero None h i = h
all_seats P (None ∷ cs) zero (Some x) h i = (i, h)
all_seats P (Some y ∷ cs) zero None h i = h.1
all_seats P (Some y ∷ cs) zero (Some x) h i = (i, h.1)
all_seats P (None ∷ cs) (suc k) o h i = all_seats P cs k o h i
all_seats P (Some y ∷ cs) (suc k) o h i = (h.0, all_seats P cs k o h.1 i)

-- where each stands, with another place for one number
pub seat_places : (cs : List (Option ℕ)) (ps : List ℕ) (k at : ℕ) → length cs ≤ length ps → ((j x : ℕ) → slice_index_or cs j None ≡ Some x → slice_index ps j ≡ x)
    → (j x : ℕ) → slice_index_or (slice_set cs k (Some at)) j None ≡ Some x → slice_index (slice_set ps k at) j ≡ x
seat_places [] ps k at le was j x e = absurd (cc)
seat_places (c ∷ cs) [] k at le was j x e = absurd (omega (arith, le))
seat_places (c ∷ cs) (p ∷ ps) zero at le was zero x e = let i : Some at ≡ Some x = e in cc
seat_places (c ∷ cs) (p ∷ ps) zero at le was (suc j) x e = was (suc j) x e
seat_places (c ∷ cs) (p ∷ ps) (suc k) at le was zero x e = was zero x e
seat_places (c ∷ cs) (p ∷ ps) (suc k) at le was (suc j) x e = seat_places cs ps k at (omega (arith, le)) (λ i y f. was (suc i) y f) j x e

pub seat_places_without : (cs : List (Option ℕ)) (k j x : ℕ) → slice_index_or (slice_set cs k None) j None ≡ Some x → slice_index_or cs j None ≡ Some x
seat_places_without [] k j x e = absurd (cc)
seat_places_without (c ∷ cs) zero zero x e = absurd (cc)
seat_places_without (c ∷ cs) zero (suc j) x e = e
seat_places_without (c ∷ cs) (suc k) zero x e = e
seat_places_without (c ∷ cs) (suc k) (suc j) x e = seat_places_without cs k j x e

pub seat_set : (cs : List (Option ℕ)) (k : ℕ) (o : Option ℕ) → k < length cs → slice_index_or (slice_set cs k o) k None ≡ o
seat_set [] k o low = absurd (omega (arith, low))
seat_set (c ∷ cs) zero o low = refl
seat_set (c ∷ cs) (suc k) o low = seat_set cs k o (omega (arith, low))

pub seats_many : (flags ps : List ℕ) → length (seated flags ps) ≡ length flags
seats_many [] ps = refl
seats_many (zero ∷ fs) ps = ap suc (seats_many fs ps)
seats_many (suc f ∷ fs) [] = ap suc (seats_many fs [])
seats_many (suc f ∷ fs) (p ∷ ps) = ap suc (seats_many fs ps)

-- a number that nobody has
pub vacant_none : (cs : List (Option ℕ)) (k : ℕ) → slice_get cs k ≡ Some None → (slice_index_or cs k None ≡ None) × (k < length cs)
vacant_none [] k e = absurd (cc)
vacant_none (c ∷ cs) zero e = (let i : Some c ≡ Some None = e in cc, omega arith)
vacant_none (c ∷ cs) (suc k) e = let h = vacant_none cs k e in (h.0, let low = h.1 in omega (arith, low))

pub none_vacant : (cs : List (Option ℕ)) (k : ℕ) → k < length cs → slice_index_or cs k None ≡ None → slice_get cs k ≡ Some None
none_vacant [] k low e = absurd (omega (arith, low))
none_vacant (c ∷ cs) zero low e = ap (λ x. Some x) e
none_vacant (c ∷ cs) (suc k) low e = none_vacant cs k (omega (arith, low)) e

-- ---- by flags that are true or false

below_none : (flags : List ℕ) → below flags 0 ≡ 0
below_none [] = refl
below_none (zero ∷ fs) = refl
below_none (suc f ∷ fs) = refl

below_one : (flags : List ℕ) (k : ℕ) → below (1 ∷ flags) (suc k) ≡ suc (below flags k)
below_one flags k = refl

pub below_next : (there : List Bool) (k : ℕ) → k < length there → below (map flag_of there) (suc k) ≡ below (map flag_of there) k + flag_of (slice_index_or there k false)
below_next [] k low = absurd (omega (arith, low))
below_next (true ∷ bs) zero low = below_one (map flag_of bs) 0 ∙ ap suc (below_none (map flag_of bs))
below_next (false ∷ bs) zero low = below_none (map flag_of bs)
below_next (true ∷ bs) (suc k) low =
    below_one (map flag_of bs) (suc k) ∙ ap suc (below_next bs k (omega (arith, low))) ∙ (let e : suc (below (map flag_of bs) k + flag_of (slice_index_or bs k false)) ≡ suc (below (map flag_of bs) k) + flag_of (slice_index_or bs k false) = omega arith in e)
    ∙ ap (λ (n : ℕ). n + flag_of (slice_index_or bs k false)) (sym (below_one (map flag_of bs) k))
below_next (false ∷ bs) (suc k) low = below_next bs k (omega (arith, low))

pub below_first : (there : List Bool) → below (map flag_of there) 0 ≡ 0
below_first there = below_none (map flag_of there)

pub flag_at : (there : List Bool) (k : ℕ) → k < length there → slice_index (map flag_of there) k ≡ flag_of (slice_index_or there k false)
flag_at [] k low = absurd (omega (arith, low))
flag_at (b ∷ bs) zero low = refl
flag_at (b ∷ bs) (suc k) low = flag_at bs k (omega (arith, low))

-- one number further
pub counts_on : (there : List Bool) (k p q : ℕ) (b : Bool) → k < length there → slice_index_or there k false ≡ b → p ≡ below (map flag_of there) k → p ≤ k → q ≡ p + flag_of b → (q ≡ below (map flag_of there) (k + 1)) × (q ≤ k + 1)
counts_on there k p q b low flag is le e =
    let next : suc k ≡ k + 1 = omega arith in let most = at_most b in (
      e ∙ ap (λ (n : ℕ). n + flag_of b) is ∙ ap (λ (f : Bool). below (map flag_of there) k + flag_of f) (sym flag) ∙ sym (below_next there k low) ∙ ap (below (map flag_of there)) next,
      omega (arith, le, e, most),
    )
  where
    at_most : (b : Bool) → flag_of b ≤ 1
    at_most true = omega arith
    at_most false = omega arith
