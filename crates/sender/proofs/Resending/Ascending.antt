-- Ascending frame starts.
use Rattle.std.proofs.Common.{MatchOption, MatchResult, Result, Ok, Err, HoldsAt, Bor, option_copied}
use Rattle.std.proofs.lemmas.Option.{slice_get_past, slice_get-get_or}
use Rattle.std.proofs.Common.{◌≡◌, ℕ, zero, suc, ◌+◌, ◌-◌, ◌*◌, ◌<◌, ◌≤◌, ⊎_elim, List, [], ◌∷◌, ◌++◌, length, get_or, true, false, nat_le, nat_lt, nat_eq, ◌&&◌, ◌≢◌, eq-eqb, ne_eqb, slice_get, append-nil, sym, refl, ap, ◌∙◌, arith, Option, Some, None, find, filter, Bool, subst}
use Rattle.std.specs.List.{list_any}
use Rattle.std.specs.List.Sorted.{IsNonDecreasingBy}
use Rattle.std.proofs.lemmas.Bool.{cases_Bool, and_right, cond-true, cond-false, leb-true, leb-false, le-leb, lt-leb, le-ltb, lt-ltb, or_right, eqb-true, ltb-false}
use Rattle.std.proofs.lemmas.List.Elements.{filter-append}
use Rattle.sender.specs.Resending.Spaced.{AreSpaced, SplitsAt, begins_below}

pub lower_bound : (lower upper : ℕ) (xs : List ℕ) (k d : ℕ) → AreSpaced lower upper xs → k < length xs → lower ≤ get_or xs k d
lower_bound lower upper [] k d h lt = absurd (omega (arith, lt))
lower_bound lower upper (x ∷ xs) zero d h lt = h.0
lower_bound lower upper (x ∷ xs) (suc k) d h lt = let below = lower_bound (x + 32) upper xs k d h.1 (omega (arith, lt)) in let first = h.0 in omega (arith, below, first)

pub sorted : (lower upper : ℕ) (xs : List ℕ) → AreSpaced lower upper xs → IsNonDecreasingBy (λ p. p) xs
sorted lower upper [] h i j d le lt = absurd (omega (arith, lt))
sorted lower upper (x ∷ xs) h zero zero d le lt = omega arith
sorted lower upper (x ∷ xs) h zero (suc j) d le lt = let below = lower_bound (x + 32) upper xs j d h.1 (omega (arith, lt)) in omega (arith, below)
sorted lower upper (x ∷ xs) h (suc i) zero d le lt = absurd (omega (arith, le))
sorted lower upper (x ∷ xs) h (suc i) (suc j) d le lt = sorted (x + 32) upper xs h.1 i j d (omega (arith, le)) (omega (arith, lt))

pub fits : (lower upper : ℕ) (xs : List ℕ) → AreSpaced lower upper xs → lower + 32 * length xs ≤ upper
fits lower upper [] h = omega (arith, h)
fits lower upper (x ∷ xs) h = let rest = fits (x + 32) upper xs h.1 in let first = h.0 in omega (arith, rest, first)

pub apart : (lower upper : ℕ) (xs : List ℕ) (i j d : ℕ) → AreSpaced lower upper xs → i < j → j < length xs → get_or xs i d + 32 ≤ get_or xs j d
apart lower upper [] i j d h lt in' = absurd (omega (arith, in'))
apart lower upper (x ∷ xs) i zero d h lt in' = absurd (omega (arith, lt))
apart lower upper (x ∷ xs) zero (suc j) d h lt in' = lower_bound (x + 32) upper xs j d h.1 (omega (arith, in'))
apart lower upper (x ∷ xs) (suc i) (suc j) d h lt in' = apart (x + 32) upper xs i j d h.1 (omega (arith, lt)) (omega (arith, in'))

-- the first at p or above stands where those below p end
pub found_at : (p : ℕ) (xs : List ℕ) (i : ℕ) → ((k : ℕ) → k < i → k < length xs → get_or xs k 0 < p) → ((k : ℕ) → i ≤ k → k < length xs → p ≤ get_or xs k 0) → slice_get xs i ≡ find (λ q. nat_le p q) xs
found_at p [] i below above = refl
found_at p (x ∷ xs) zero below above = let le : p ≤ x = above zero (omega arith) (omega arith) in sym (cond-true (nat_le p x) (Some x) (find (λ q. nat_le p q) xs) (le-leb p x le))
found_at p (x ∷ xs) (suc i) below above =
    let lt : x < p = below zero (omega arith) (omega arith) in
    found_at p xs i (λ k lt' in'. below (suc k) (omega (arith, lt')) (omega (arith, in'))) (λ k le in'. above (suc k) (omega (arith, le)) (omega (arith, in')))
    ∙ sym (cond-false (nat_le p x) (Some x) (find (λ q. nat_le p q) xs) (lt-leb p x lt))

-- where a search by halving ends
pub parts_at : (lower upper : ℕ) (xs : List ℕ) (p : ℕ) (r : Result ℕ ℕ) → AreSpaced lower upper xs → MatchResult r (λ i. (i < length xs) × (get_or xs i 0 ≡ p)) (λ i. (i ≤ length xs) × ((k : ℕ) → k < i → get_or xs k 0 < p) × ((k : ℕ) → i ≤ k → k < length xs → p < get_or xs k 0))
    → MatchResult r (SplitsAt xs p) (SplitsAt xs p)
parts_at lower upper xs p (Ok i) h found = record {
  below = λ k lt in'. let far = apart lower upper xs k i 0 h lt found.0 in let is = found.1 in omega (arith, far, is);
  above = λ k le in'. let up = sorted lower upper xs h i k 0 le in' in let is = found.1 in omega (arith, up, is);
}
parts_at lower upper xs p (Err i) h found = record { below = λ k lt in'. found.1 k lt; above = λ k le in'. let past = found.2 k le in' in omega (arith, past) }

none_above : (lower upper p : ℕ) (xs : List ℕ) → AreSpaced lower upper xs → p < lower → list_any (λ q. nat_eq q p) xs ≡ false
none_above lower upper p [] h lt = refl
none_above lower upper p (x ∷ xs) h lt =
    let first = h.0 in
    let ne : x ≢ p = omega (arith, first, lt) in
    rw (ne_eqb x p ne) (none_above (x + 32) upper p xs h.1 (omega (arith, first, lt)))

pub any_if : (p : ℕ) (xs : List ℕ) → find (λ q. nat_le p q) xs ≡ Some p → list_any (λ q. nat_eq q p) xs ≡ true
any_if p [] e = absurd (cc)
any_if p (x ∷ xs) e =
    ⊎_elim
    (λ (t : nat_le p x ≡ true).
    let is : Some x ≡ Some p = sym (cond-true (nat_le p x) (Some x) (find (λ q. nat_le p q) xs) t) ∙ e in
    let same : x ≡ p = cc in
    rw (eq-eqb x p same) refl)
    (λ (f : nat_le p x ≡ false). or_right (nat_eq x p) (list_any (λ q. nat_eq q p) xs) (any_if p xs (sym (cond-false (nat_le p x) (Some x) (find (λ q. nat_le p q) xs) f) ∙ e)))
    (cases_Bool (nat_le p x))

pub any_not : (lower upper p : ℕ) (xs : List ℕ) → AreSpaced lower upper xs → (find (λ q. nat_le p q) xs ≡ Some p → ⊥) → list_any (λ q. nat_eq q p) xs ≡ false
any_not lower upper p [] h not_there = refl
any_not lower upper p (x ∷ xs) h not_there =
    ⊎_elim
    (λ (t : nat_le p x ≡ true).
    let found : find (λ q. nat_le p q) (x ∷ xs) ≡ Some x = cond-true (nat_le p x) (Some x) (find (λ q. nat_le p q) xs) t in
    let ne : x ≢ p = λ e. not_there (found ∙ ap Some e) in
    let le : p ≤ x = leb-true p x t in
    rw (ne_eqb x p ne) (none_above (x + 32) upper p xs h.1 (omega (arith, le))))
    (λ (f : nat_le p x ≡ false).
    let lt : x < p = leb-false p x f in
    let ne : x ≢ p = omega (arith, lt) in
    rw (ne_eqb x p ne) (any_not (x + 32) upper p xs h.1 (λ e. not_there (cond-false (nat_le p x) (Some x) (find (λ q. nat_le p q) xs) f ∙ e))))
    (cases_Bool (nat_le p x))

-- the element at a place, if there is one
pub item_at : (xs : List ℕ) (i : ℕ) (r : Option (Bor ℕ)) → MatchOption r (length xs ≤ i) (λ x. (i < length xs) × HoldsAt (λ y. x.now ≡ y) xs i) → option_copied r ≡ slice_get xs i
item_at xs i None m = sym (slice_get_past xs i m)
item_at xs i (Some x) m = ap Some (m.1 0) ∙ sym (slice_get-get_or xs i 0 m.0)

none_past : (lower upper end : ℕ) (T : ℕ → Bool) (xs : List ℕ) → AreSpaced lower upper xs → end ≤ lower → find (λ q. T q && nat_lt q end) xs ≡ None
none_past lower upper end T [] h le = refl
none_past lower upper end T (x ∷ xs) h le =
    let first = h.0 in
    let f : (T x && nat_lt x end) ≡ false = and_right (T x) (nat_lt x end) (le-ltb x end (omega (arith, first, le))) in
    cond-false (T x && nat_lt x end) (Some x) (find (λ q. T q && nat_lt q end) xs) f ∙ none_past (x + 32) upper end T xs h.1 (omega (arith, first, le))

-- the first in a range is the first from its beginning on, where that is below its end
pub first_in : (lower upper from end : ℕ) (xs : List ℕ) (o : Option ℕ) → AreSpaced lower upper xs → o ≡ find (λ q. nat_le from q) xs
    → MatchOption o (find (λ q. nat_le from q && nat_lt q end) xs ≡ None) (λ q. (q < end → find (λ q. nat_le from q && nat_lt q end) xs ≡ Some q) × (end ≤ q → find (λ q. nat_le from q && nat_lt q end) xs ≡ None))
first_in lower upper from end [] None h e = refl
first_in lower upper from end [] (Some q) h e = absurd (cc)
first_in lower upper from end (x ∷ xs) o h e =
    ⊎_elim
    (λ (t : nat_le from x ≡ true).
    let is : o ≡ Some x = e ∙ cond-true (nat_le from x) (Some x) (find (λ q. nat_le from q) xs) t in
    let M : Option ℕ → Type 0 = λ o. MatchOption o (both ≡ None) (λ q. (q < end → both ≡ Some q) × (end ≤ q → both ≡ None)) in
    subst M (sym is) (
      (λ lt. cond-true (nat_le from x && nat_lt x end) (Some x) rest (rw (t, lt-ltb x end lt) refl)),
      (λ le. cond-false (nat_le from x && nat_lt x end) (Some x) rest (rw (t, le-ltb x end le) refl) ∙ none_past (x + 32) upper end (λ q. nat_le from q) xs h.1 (omega (arith, le))),
    ))
    (λ (f : nat_le from x ≡ false).
    let later : both ≡ rest = cond-false (nat_le from x && nat_lt x end) (Some x) rest (rw f refl) in
    let M : Option ℕ → Type 0 = λ z. MatchOption o (z ≡ None) (λ q. (q < end → z ≡ Some q) × (end ≤ q → z ≡ None)) in
    subst M (sym later) (first_in (x + 32) upper from end xs o h.1 (e ∙ cond-false (nat_le from x) (Some x) (find (λ q. nat_le from q) xs) f)))
    (cases_Bool (nat_le from x))
  where
    rest : Option ℕ
    rest = find (λ q. nat_le from q && nat_lt q end) xs

    both : Option ℕ
    both = find (λ q. nat_le from q && nat_lt q end) (x ∷ xs)

-- whether the first at p or above starts at p
pub there : (lower upper p q : ℕ) (xs : List ℕ) → AreSpaced lower upper xs → Some q ≡ find (λ q. nat_le p q) xs → nat_eq q p ≡ list_any (λ q. nat_eq q p) xs
there lower upper p q xs h is =
    ⊎_elim
    (λ (t : nat_eq q p ≡ true). t ∙ sym (any_if p xs (sym is ∙ ap Some (eqb-true q p t))))
    (λ (f : nat_eq q p ≡ false). f ∙ sym (any_not lower upper p xs h (λ e. let same : q ≡ p = cc in let t = eq-eqb q p same in absurd (cc))))
    (cases_Bool (nat_eq q p))

-- ---- the near ones are kept

pub all_kept : (lower upper from : ℕ) (xs : List ℕ) → AreSpaced lower upper xs → from ≤ lower → filter (nat_le from) xs ≡ xs
all_kept lower upper from [] h le = refl
all_kept lower upper from (x ∷ xs) h le =
    let first = h.0 in
    let t : nat_le from x ≡ true = le-leb from x (omega (arith, first, le)) in
    rw t (ap (λ ys. x ∷ ys) (all_kept (x + 32) upper from xs h.1 (omega (arith, first, le))))

pub kept_from_first : (lower upper from : ℕ) (xs : List ℕ) → AreSpaced lower upper xs → begins_below from xs ≡ false → filter (nat_le from) xs ≡ xs
kept_from_first lower upper from [] h e = refl
kept_from_first lower upper from (x ∷ xs) h e =
    let le : from ≤ x = ltb-false x from e in
    all_kept x upper from (x ∷ xs) (omega arith, h.1) le

pub one_more : (lower upper end : ℕ) (xs : List ℕ) → AreSpaced lower upper xs → upper + 32 ≤ end → AreSpaced lower end (xs ++ upper ∷ [])
one_more lower upper end [] h le = (h, le)
one_more lower upper end (x ∷ xs) h le = (h.0, one_more (x + 32) upper end xs h.1 le)

pub goes_up : (lower upper : ℕ) (xs : List ℕ) → AreSpaced lower upper xs → lower ≤ upper
goes_up lower upper xs h = let f = fits lower upper xs h in omega (arith, f)

-- those from a position on are spaced from any bound that they all keep
pub kept_spaced : (lower upper from bound : ℕ) (xs : List ℕ) → AreSpaced lower upper xs → bound ≤ upper → ((p : ℕ) → lower ≤ p → from ≤ p → bound ≤ p) → AreSpaced bound upper (filter (nat_le from) xs)
kept_spaced lower upper from bound [] h le over = le
kept_spaced lower upper from bound (x ∷ xs) h le over =
    let first = h.0 in
    let up = goes_up (x + 32) upper xs h.1 in
    ⊎_elim
    (λ (t : nat_le from x ≡ true). let is : from ≤ x = leb-true from x t in rw t (over x first is, kept_spaced (x + 32) upper from (x + 32) xs h.1 up (λ p a b. a)))
    (λ (f : nat_le from x ≡ false). rw f (kept_spaced (x + 32) upper from bound xs h.1 le (λ p a b. over p (omega (arith, a, first)) b)))
    (cases_Bool (nat_le from x))

-- nearness by a distance is nearness from a position on
pub same_near : (reach end : ℕ) (xs : List ℕ) → filter (λ p. nat_le end (p + reach)) xs ≡ filter (nat_le (end - reach)) xs
same_near reach end [] = refl
same_near reach end (x ∷ xs) =
    ⊎_elim
    (λ (t : nat_le (end - reach) x ≡ true).
    let le : end - reach ≤ x = leb-true (end - reach) x t in
    let t' : nat_le end (x + reach) ≡ true = le-leb end (x + reach) (omega (arith, le)) in
    rw (t, t') (ap (λ ys. x ∷ ys) (same_near reach end xs)))
    (λ (f : nat_le (end - reach) x ≡ false).
    let lt : x < end - reach = leb-false (end - reach) x f in
    let f' : nat_le end (x + reach) ≡ false = lt-leb end (x + reach) (omega (arith, lt)) in
    rw (f, f') (same_near reach end xs))
    (cases_Bool (nat_le (end - reach) x))

-- one start more, at the end of the others
pub one_more_near : (from p : ℕ) (xs ys : List ℕ) → ys ≡ filter (nat_le from) xs → from ≤ p → ys ++ p ∷ [] ≡ filter (nat_le from) (xs ++ p ∷ [])
one_more_near from p xs ys e le =
    let t : nat_le from p ≡ true = le-leb from p le in
    ap (λ zs. zs ++ p ∷ []) e ∙ sym (filter-append (nat_le from) xs (p ∷ []) ∙ rw t refl)

pub one_more_far : (from p : ℕ) (xs ys : List ℕ) → ys ≡ filter (nat_le from) xs → p < from → ys ≡ filter (nat_le from) (xs ++ p ∷ [])
one_more_far from p xs ys e lt =
    let f : nat_le from p ≡ false = lt-leb from p lt in
    e ∙ sym (filter-append (nat_le from) xs (p ∷ []) ∙ rw f (append-nil (filter (nat_le from) xs)))

pub has_room : (lower upper from room : ℕ) (xs ys : List ℕ) → AreSpaced lower upper xs → ys ≡ filter (nat_le from) xs → from ≤ upper → upper < from + 32 * room → length ys < room
has_room lower upper from room xs ys h e le lt =
    let spaced = kept_spaced lower upper from from xs h le (λ p a b. b) in
    let f = fits from upper (filter (nat_le from) xs) spaced in
    let same = ap length e in
    omega (arith, f, same, lt)
