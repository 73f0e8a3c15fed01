-- The words of a log that opens show its start.
use Rattle.std.proofs.Common.{◌≡◌, ℕ, zero, suc, ◌+◌, ◌-◌, ◌*◌, ◌/◌, ◌%◌, ◌<◌, ◌≤◌, ⊎_elim, true, false, cond, refl, sym, ap, ◌∙◌, subst, min, arith}
use Rattle.std.specs.Prelude.{ℤ, pos, negsuc, neg_ℤ, ◌+ℤ◌, ◌*ℤ◌, nat_eq, int_lt, nat_lt, FitsSigned}
use Rattle.std.specs.Int.{w32, cast_signed, cast_unsigned, int_max}
use Rattle.std.proofs.lemmas.Int.{of_z-to_z, to_z_pos, to_z-of_z}
use Rattle.std.proofs.lemmas.Bool.{cases_Bool, cases_lt, ltb-true, ltb-false, lt-ltb, cond-true, cond-false}
use Rattle.std.proofs.Math.Nat.{mul-le-mul_right}
use mir.ValLaws.{of_z_fits, to_z-Fits}
use Rattle.theory.specs.Position.{Geometry, id_of, count_of}
use Rattle.theory.specs.Words.{Tails, tail_word, id_in, offset_in, shown, greatest_shown, id_before}
use Rattle.theory.specs.Laws.{FreshShowsStart}
use Rattle.theory.proofs.Named.{counts}

-- ---- a word shows what it was made of

word_shown : (g : Geometry) (z : ℤ) (offset : ℕ) → FitsSigned w32 z → offset < 4294967296 → shown g (tail_word z offset) ≡ (count_of g z *ℤ pos g.term_length) +ℤ pos (min offset g.term_length)
word_shown g z offset fits low =
    let u = cast_unsigned w32 z in
    let high : (u * 4294967296 + offset) / 4294967296 ≡ u = omega arith in
    let rest : (u * 4294967296 + offset) % 4294967296 ≡ offset = omega arith in
    let id : id_in (tail_word z offset) ≡ z = ap (cast_signed w32) high ∙ to_z-of_z w32 z fits in
    ap (λ x. (count_of g x *ℤ pos g.term_length) +ℤ pos (min (offset_in (tail_word z offset)) g.term_length)) id ∙ ap (λ x. (count_of g z *ℤ pos g.term_length) +ℤ pos (min x g.term_length)) rest

-- ---- what lies below

-- at most p, or negative
data IsLow (p : ℕ) (z : ℤ) : Type 0 where
  some : (n : ℕ) → z ≡ pos n → n ≤ p → IsLow p z
  less : (n : ℕ) → z ≡ negsuc n → IsLow p z

max_first : (p : ℕ) (z : ℤ) → IsLow p z → int_max (pos p) z ≡ pos p
max_first p z (less n e) = ap (int_max (pos p)) e
max_first p z (some n e l) = ap (int_max (pos p)) e ∙ most
  where
    most : int_max (pos p) (pos n) ≡ pos p
    most =
        ⊎_elim
        (λ (t : int_lt (pos n) (pos p) ≡ true). cond-true (int_lt (pos n) (pos p)) (pos p) (pos n) t)
        (λ (f : int_lt (pos n) (pos p) ≡ false). let le : p ≤ n = ltb-false n p f in let same : n ≡ p = omega arith in cond-false (int_lt (pos n) (pos p)) (pos p) (pos n) f ∙ ap pos same)
        (cases_Bool (int_lt (pos n) (pos p)))

max_second : (p : ℕ) (z : ℤ) → IsLow p z → int_max z (pos p) ≡ pos p
max_second p z (less n e) = ap (λ x. int_max x (pos p)) e
max_second p z (some n e l) = ap (λ x. int_max x (pos p)) e ∙ most
  where
    most : int_max (pos n) (pos p) ≡ pos p
    most =
        ⊎_elim
        (λ (t : int_lt (pos p) (pos n) ≡ true). let above : p < n = ltb-true p n t in absurd (omega arith))
        (λ (f : int_lt (pos p) (pos n) ≡ false). cond-false (int_lt (pos p) (pos n)) (pos n) (pos p) f)
        (cases_Bool (int_lt (pos p) (pos n)))

low_max : (p : ℕ) (b c : ℤ) → IsLow p b → IsLow p c → IsLow p (int_max b c)
low_max p b c l m =
    ⊎_elim
    (λ (t : int_lt c b ≡ true). subst (IsLow p) (sym (cond-true (int_lt c b) b c t)) l)
    (λ (f : int_lt c b ≡ false). subst (IsLow p) (sym (cond-false (int_lt c b) b c f)) m)
    (cases_Bool (int_lt c b))

-- ---- the terms before

back_count : (g : Geometry) (count back : ℕ) → FitsSigned w32 g.initial_term_id → count < 2147483648 → back < 3 → cast_unsigned w32 (pos back) ≡ back → count_of g (id_before g count back) ≡ cast_signed w32 ((count + (4294967296 - back)) % 4294967296)
back_count g count back f l b same =
    let u = cast_unsigned w32 g.initial_term_id in
    let low : u < 4294967296 = (of_z_fits w32 g.initial_term_id f).fits in
    let here : cast_unsigned w32 (id_of g count) ≡ (u + count) % 4294967296 = of_z-to_z w32 ((u + count) % 4294967296) (omega arith) in
    let there : cast_unsigned w32 (id_before g count back) ≡ ((u + count) % 4294967296 + (4294967296 - back)) % 4294967296 =
    of_z-to_z w32 ((cast_unsigned w32 (id_of g count) + (4294967296 - cast_unsigned w32 (pos back))) % 4294967296) (omega arith) ∙ ap (λ x. (x + (4294967296 - cast_unsigned w32 (pos back))) % 4294967296) here ∙ ap (λ x. ((u + count) % 4294967296 + (4294967296 - x)) % 4294967296) same in
    let sum : (((u + count) % 4294967296 + (4294967296 - back)) % 4294967296 + (4294967296 - u)) % 4294967296 ≡ (count + (4294967296 - back)) % 4294967296 = omega arith in
    ap (λ b. cast_signed w32 ((b + (4294967296 - u)) % 4294967296)) there ∙ ap (cast_signed w32) sum

negative : (m : ℕ) → 0 < m → neg_ℤ (pos m) ≡ negsuc (m - 1)
negative zero l = absurd (omega arith)
negative (suc m) l = let one : m ≡ suc m - 1 = omega arith in ap negsuc one

plus_none : (n : ℕ) → negsuc n +ℤ pos 0 ≡ negsuc n
plus_none n =
    let one : suc n - 1 ≡ n = omega arith in
    cond-true (nat_lt 0 (suc n)) (negsuc (suc n - 1)) (pos (0 - suc n)) (lt-ltb 0 (suc n) (omega arith)) ∙ ap negsuc one

-- a word of a term before the first shows less than nothing
before_first : (p t k : ℕ) → 0 < t → IsLow p ((negsuc k *ℤ pos t) +ℤ pos (min 0 t))
before_first p t k l =
    let none : min 0 t ≡ 0 = omega arith in
    less (suc k * t - 1) (ap (λ x. (negsuc k *ℤ pos t) +ℤ pos x) none ∙ ap (λ x. x +ℤ pos 0) (negative (suc k * t) (long k)) ∙ plus_none (suc k * t - 1))
  where
    long : (k : ℕ) → 0 < suc k * t
    long k = let one : 1 * t ≤ suc k * t = mul-le-mul_right t (omega arith) in omega arith

later_term : (p t count back : ℕ) → back ≤ count → count * t ≤ p → IsLow p ((pos (count - back) *ℤ pos t) +ℤ pos (min 0 t))
later_term p t count back l h =
    let less : (count - back) * t ≤ count * t = mul-le-mul_right t (omega arith) in
    some ((count - back) * t + min 0 t) refl (omega arith)

back_low : (g : Geometry) (count back p : ℕ) → FitsSigned w32 g.initial_term_id → count < 2147483648 → back < 3 → 0 < back → cast_unsigned w32 (pos back) ≡ back → 0 < g.term_length → count * g.term_length ≤ p → IsLow p (shown g (tail_word (id_before g count back) 0))
back_low g count back p f l b some_back same long h =
    subst (IsLow p) (sym (word_shown g (id_before g count back) 0 (to_z-Fits w32 ((cast_unsigned w32 (id_of g count) + (4294967296 - cast_unsigned w32 (pos back))) % 4294967296) (record { fits = omega arith })) (omega arith)))
    (subst (λ c. IsLow p ((c *ℤ pos g.term_length) +ℤ pos (min 0 g.term_length))) (sym (back_count g count back f l b same))
    (⊎_elim
    (λ (k : count < back). small count back k b)
    (λ (k : back ≤ count).
    let sum : (count + (4294967296 - back)) % 4294967296 ≡ count - back = omega arith in
    let is : cast_signed w32 ((count + (4294967296 - back)) % 4294967296) ≡ pos (count - back) = ap (cast_signed w32) sum ∙ to_z_pos w32 (count - back) (omega arith) in
    subst (λ c. IsLow p ((c *ℤ pos g.term_length) +ℤ pos (min 0 g.term_length))) (sym is) (later_term p g.term_length count back k h))
    (cases_lt count back)))
  where
    small : (count back : ℕ) → count < back → back < 3 → IsLow p ((cast_signed w32 ((count + (4294967296 - back)) % 4294967296) *ℤ pos g.term_length) +ℤ pos (min 0 g.term_length))
    small count zero k b = absurd (omega arith)
    small zero (suc zero) k b = before_first p g.term_length 0 long
    small zero (suc (suc zero)) k b = before_first p g.term_length 1 long
    small (suc zero) (suc (suc zero)) k b = before_first p g.term_length 0 long
    small (suc count) (suc zero) k b = absurd (omega arith)
    small (suc (suc count)) (suc (suc zero)) k b = absurd (omega arith)
    small count (suc (suc (suc back))) k b = absurd (omega arith)

-- ---- all three

pub fresh_shows_start : FreshShowsStart
fresh_shows_start g count offset is l low =
    let t = g.term_length in
    let p = count * t + offset in
    let long : 0 < t = omega (arith, is.term.least) in
    let most : t ≤ 16777216 = is.term.greatest in
    let cut : min offset t ≡ offset = omega arith in
    let here : shown g (tail_word (id_of g count) offset) ≡ pos p =
    word_shown g (id_of g count) offset (to_z-Fits w32 ((cast_unsigned w32 g.initial_term_id + cast_unsigned w32 (pos count)) % 4294967296) (record { fits = omega arith })) (omega arith)
    ∙ ap (λ c. (c *ℤ pos t) +ℤ pos (min offset t)) (counts g count is.initial l) ∙ ap (λ x. pos (count * t + x)) cut in
    let two : IsLow p (shown g (tail_word (id_before g count 2) 0)) = back_low g count 2 p is.initial l (omega arith) (omega arith) refl long (omega arith) in
    let one : IsLow p (shown g (tail_word (id_before g count 1) 0)) = back_low g count 1 p is.initial l (omega arith) (omega arith) refl long (omega arith) in
    let a = shown g (tail_word (id_of g count) offset) in
    let b = shown g (tail_word (id_before g count 2) 0) in
    let c = shown g (tail_word (id_before g count 1) 0) in
    ⊎_elim
    (λ (x : nat_eq (count % 3) 0 ≡ true). ap (greatest_shown g) (cond-true (nat_eq (count % 3) 0) first_place other_place x) ∙ order_abc a b c here two one)
    (λ (x : nat_eq (count % 3) 0 ≡ false).
    ap (greatest_shown g) (cond-false (nat_eq (count % 3) 0) first_place other_place x)
    ∙ ⊎_elim
    (λ (y : nat_eq (count % 3) 1 ≡ true). ap (greatest_shown g) (cond-true (nat_eq (count % 3) 1) second_place third_place y) ∙ order_cab a b c here two one)
    (λ (y : nat_eq (count % 3) 1 ≡ false). ap (greatest_shown g) (cond-false (nat_eq (count % 3) 1) second_place third_place y) ∙ order_bca a b c here two one)
    (cases_Bool (nat_eq (count % 3) 1)))
    (cases_Bool (nat_eq (count % 3) 0))
  where
    p : ℕ
    p = count * g.term_length + offset

    first_place : Tails
    first_place = record { zero_th = tail_word (id_of g count) offset; first = tail_word (id_before g count 2) 0; second = tail_word (id_before g count 1) 0; active = count }

    second_place : Tails
    second_place = record { zero_th = tail_word (id_before g count 1) 0; first = tail_word (id_of g count) offset; second = tail_word (id_before g count 2) 0; active = count }

    third_place : Tails
    third_place = record { zero_th = tail_word (id_before g count 2) 0; first = tail_word (id_before g count 1) 0; second = tail_word (id_of g count) offset; active = count }

    other_place : Tails
    other_place = cond (nat_eq (count % 3) 1) second_place third_place

    order_abc : (a b c : ℤ) → a ≡ pos p → IsLow p b → IsLow p c → int_max a (int_max b c) ≡ pos p
    order_abc a b c e l m = ap (λ x. int_max x (int_max b c)) e ∙ max_first p (int_max b c) (low_max p b c l m)

    order_cab : (a b c : ℤ) → a ≡ pos p → IsLow p b → IsLow p c → int_max c (int_max a b) ≡ pos p
    order_cab a b c e l m = ap (λ x. int_max c (int_max x b)) e ∙ ap (int_max c) (max_first p b l) ∙ max_second p c m

    order_bca : (a b c : ℤ) → a ≡ pos p → IsLow p b → IsLow p c → int_max b (int_max c a) ≡ pos p
    order_bca a b c e l m = ap (λ x. int_max b (int_max c x)) e ∙ ap (int_max b) (max_second p c m) ∙ max_second p b l
