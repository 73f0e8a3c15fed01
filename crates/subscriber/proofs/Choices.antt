-- Which place a SETUP goes to: the first that is so, how many weren't heard yet, and the oldest of those.
use Rattle.std.proofs.Common.{◌≡◌, ◌<◌, ◌≤◌, ◌+◌, ℕ, zero, suc, Bool, true, false, IsTrue, List, [], ◌∷◌, Option, None, Some, length, take, drop, get_or, refl, ap, sym, subst, arith}
use Rattle.std.specs.Prelude.{◌↔◌, ◌&&◌, IfNone, IfSome, MatchOption, is_none}
use Rattle.std.specs.List.{AllByRecursion, AllWithin, HoldsAt, filter}
use Rattle.std.proofs.lemmas.List.{length-take}
use Rattle.std.proofs.lemmas.List.Elements.{AllWithin-more, at_read}
use Rattle.subscriber.proofs.Each.{parted}
use Rattle.subscriber.specs.Choosing.{IsFirst, IsNone, IsOldest, is_unheard, unheard_count}
use Rattle.subscriber.specs.Turning.{IsUnheardYet}
use Rattle.subscriber.specs.declared.images.session.Session.{Session}

-- ---- the first that is so

behind_first : (Is : Session → Type 0) (x : Session) (xs : List Session) (i : ℕ) → ¬ Is x → IsFirst Is xs i → IsFirst Is (x ∷ xs) (suc i)
behind_first Is x xs i not f = record {
  front = x ∷ f.front;
  here = f.here;
  back = f.back;
  parts = ap (λ (ys : List Session). x ∷ ys) f.parts;
  at = ap suc f.at;
  is = f.is;
  none = (not, f.none);
}

first_of : (Is : Session → Type 0) (xs : List Session) (i : ℕ) → i < length xs → HoldsAt Is xs i → AllWithin (λ (j : Session). ¬ Is j) xs 0 i → IsFirst Is xs i
first_of Is [] i less here none = absurd (omega arith)
first_of Is (x ∷ xs) zero less here none = record { front = []; here = x; back = xs; parts = refl; at = refl; is = here x; none = tt }
first_of Is (x ∷ xs) (suc i) less here none =
    behind_first Is x xs i (none 0 x (omega arith) (omega arith)) (first_of Is xs i (omega arith) (λ d. here d) (λ k d low high. none (suc k) d (omega arith) (omega arith)))

by_recursion : (P : Session → Type 0) (xs : List Session) → AllWithin P xs 0 (length xs) → AllByRecursion P xs
by_recursion P [] all = tt
by_recursion P (x ∷ xs) all = (all 0 x (omega arith) (omega arith), by_recursion P xs (λ k d low high. all (suc k) d (omega arith) (omega arith)))

-- what a search for the first that is so finds
abbrev pub Finds : (Session → Type 0) → List Session → Option ℕ → Type 0
Finds Is xs r = MatchOption r (AllWithin (λ (j : Session). ¬ Is j) xs 0 (length xs)) (λ i. (i < length xs) × HoldsAt Is xs i × AllWithin (λ (j : Session). ¬ Is j) xs 0 i)

pub found : (Is : Session → Type 0) (xs : List Session) (r : Option ℕ) → Finds Is xs r → IfSome r (IsFirst Is xs)
found Is xs None finds = tt
found Is xs (Some i) finds = first_of Is xs i finds.0 finds.1 finds.2

pub unfound : (Is : Session → Type 0) (xs : List Session) (r : Option ℕ) → Finds Is xs r → IfNone r (IsNone Is xs)
unfound Is xs None finds = by_recursion (λ (j : Session). ¬ Is j) xs finds
unfound Is xs (Some i) finds = tt

-- ---- those that weren't heard yet

none_if : {A : Type 0} (o : Option A) → is_none o ≡ true → o ≡ None
none_if None is = refl
none_if (Some x) is = absurd (cc)

left_if : (a b : Bool) → (a && b) ≡ true → a ≡ true
left_if true b is = refl
left_if false b is = absurd (cc)

right_if : (a b : Bool) → (a && b) ≡ true → b ≡ true
right_if true b is = is
right_if false b is = absurd (cc)

unheard_if : (j : Session) → is_unheard j ≡ true → IsUnheardYet j
unheard_if j is = record {
  frames = none_if j.duty.device.notes.last (left_if (is_none j.duty.device.notes.last) (is_none j.follower.end) is);
  end = none_if j.follower.end (right_if (is_none j.duty.device.notes.last) (is_none j.follower.end) is);
}

unheard_then : (j : Session) → IsUnheardYet j → is_unheard j ≡ true
unheard_then j h = rw (h.frames, h.end) refl

pub unheard_decides : (j : Session) → IsTrue (is_unheard j) ↔ IsUnheardYet j
unheard_decides j = (unheard_if j, unheard_then j)

none_here : (b : Bool) (x : Session) (xs : List Session) → is_unheard x ≡ b → ¬ IsUnheardYet x → length (filter is_unheard xs) ≡ 0 → length (filter is_unheard (x ∷ xs)) ≡ 0
none_here true x xs is not none = absurd (not (unheard_if x is))
none_here false x xs is not none = rw is none

none_counted : (xs : List Session) → IsNone IsUnheardYet xs → unheard_count xs ≡ 0
none_counted [] none = refl
none_counted (x ∷ xs) none = none_here (is_unheard x) x xs refl none.0 (none_counted xs none.1)

-- ---- the oldest of them

-- this is one of them, opened at this moment
pub record IsUnheardAt (xs : List Session) (place opened : ℕ) : Type 0 where
  pub below : place < length xs
  pub here : HoldsAt (λ (j : Session). IsUnheardYet j × (j.opened ≡ opened)) xs place

-- among the first so many the one at this place is the oldest of them, or there is none
abbrev pub OldestSoFar : List Session → ℕ → ℕ → Option ℕ → Type 0
OldestSoFar xs i place None = AllWithin (λ (j : Session). ¬ IsUnheardYet j) xs 0 i
OldestSoFar xs i place (Some n) = AllWithin (λ (j : Session). IsUnheardYet j → n ≤ j.opened) xs 0 i × IsUnheardAt xs place n

earlier : (xs : List Session) (i place : ℕ) (opened : Option ℕ) (n : ℕ) → IfSome opened (λ m. n ≤ m) → OldestSoFar xs i place opened → AllWithin (λ (j : Session). IsUnheardYet j → n ≤ j.opened) xs 0 i
earlier xs i place None n by so = λ k d low high u. absurd (so k d low high u)
earlier xs i place (Some m) n by so = λ k d low high u. let least = so.0 k d low high u in omega (arith, by, least)

pub oldest_taken : (xs : List Session) (i place : ℕ) (opened : Option ℕ) (s : Session) → i < length xs → s ≡ get_or xs i s → IsUnheardYet s → IfSome opened (λ m. s.opened ≤ m) → OldestSoFar xs i place opened → OldestSoFar xs (i + 1) i (Some s.opened)
oldest_taken xs i place opened s less is unheard by so =
    let P : Session → Type 0 = λ (j : Session). IsUnheardYet j → s.opened ≤ j.opened in (
      AllWithin-more P xs 0 i (earlier xs i place opened s.opened by so) (at_read xs P i s less is (λ u. omega arith)),
      record { below = less; here = at_read xs (λ (j : Session). IsUnheardYet j × (j.opened ≡ s.opened)) i s less is (unheard, refl) },
    )

pub oldest_passed : (xs : List Session) (i place : ℕ) (opened : Option ℕ) (s : Session) → i < length xs → s ≡ get_or xs i s → (IsUnheardYet s → ¬ IfSome opened (λ m. s.opened ≤ m)) → OldestSoFar xs i place opened → OldestSoFar xs (i + 1) place opened
oldest_passed xs i place None s less is later so =
    let P : Session → Type 0 = λ (j : Session). ¬ IsUnheardYet j in
    AllWithin-more P xs 0 i so (at_read xs P i s less is (λ u. later u tt))
oldest_passed xs i place (Some n) s less is later so =
    let P : Session → Type 0 = λ (j : Session). IsUnheardYet j → n ≤ j.opened in
    (AllWithin-more P xs 0 i so.0 (at_read xs P i s less is (λ u. let after = later u in omega (arith, after))), so.1)

oldest_parts : (xs : List Session) (place opened : ℕ) (d : Session) → AllByRecursion (λ (j : Session). IsUnheardYet j → opened ≤ j.opened) xs → IsUnheardAt xs place opened → IsOldest xs place
oldest_parts xs place opened d all one =
    let here = one.here d in
    record {
      front = take place xs;
      here = get_or xs place d;
      back = drop (suc place) xs;
      parts = parted xs place d one.below;
      at = let long = length-take place xs in let below = one.below in omega (arith, long, below);
      is = here.0;
      oldest = subst (λ (m : ℕ). AllByRecursion (λ (j : Session). IsUnheardYet j → m ≤ j.opened) xs) (sym here.1) all;
    }

pub oldest_at : (xs : List Session) (i place : ℕ) (opened : Option ℕ) → length xs ≤ i → 0 < unheard_count xs → OldestSoFar xs i place opened → IsOldest xs place
oldest_at [] i place opened end some so = absurd (omega arith)
oldest_at (x ∷ xs) i place None end some so =
    absurd (let none = none_counted (x ∷ xs) (by_recursion (λ (j : Session). ¬ IsUnheardYet j) (x ∷ xs) (λ k d low high. so k d low (omega (arith, high, end)))) in omega (arith, none, some))
oldest_at (x ∷ xs) i place (Some n) end some so =
    oldest_parts (x ∷ xs) place n x (by_recursion (λ (j : Session). IsUnheardYet j → n ≤ j.opened) (x ∷ xs) (λ k d low high. so.0 k d low (omega (arith, high, end)))) so.1
