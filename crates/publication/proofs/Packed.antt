-- Packed tails: their ids and offsets.
use Rattle.std.proofs.Common.{◌≡◌, ℕ, zero, suc, ◌+◌, ◌-◌, ◌*◌, ◌/◌, ◌%◌, ◌^◌, ◌<◌, ◌≤◌, refl, sym, ap, ◌∙◌, mod-eq_of_lt, arith}
use Rattle.std.specs.Prelude.{ℤ, pos, FitsSigned}
use Rattle.std.specs.Int.{w32, cast_signed, cast_unsigned}
use Rattle.std.proofs.lemmas.Int.{of_z-to_z, to_z-of_z}
use mir.ValLaws.{of_z_fits, to_z-Fits}
use Rattle.theory.specs.Position.{Geometry, id_of}
use Rattle.theory.specs.Words.{id_before, id_in, offset_in, tail_word}

-- ---- ids

abbrev pub Fit : Geometry → Type 0
Fit g = FitsSigned w32 g.initial_term_id

abbrev pub seed : Geometry → ℕ
seed g = cast_unsigned w32 g.initial_term_id

pub seed_low : (g : Geometry) → Fit g → seed g < 4294967296
seed_low g f = (of_z_fits w32 g.initial_term_id f).fits

back_is : (back : ℕ) → back < 3 → cast_unsigned w32 (pos back) ≡ back
back_is zero h = refl
back_is (suc zero) h = refl
back_is (suc (suc zero)) h = refl
back_is (suc (suc (suc back))) h = absurd (omega arith)

pub number_is : (g : Geometry) (k : ℕ) → cast_unsigned w32 (id_of g k) ≡ (seed g + k) % 4294967296
number_is g k = of_z-to_z w32 ((seed g + k) % 4294967296) (omega arith)

pub before_is : (g : Geometry) (k back : ℕ) → back < 3 → cast_unsigned w32 (id_before g k back) ≡ ((seed g + k) % 4294967296 + (4294967296 - back)) % 4294967296
before_is g k back b =
    of_z-to_z w32 ((cast_unsigned w32 (id_of g k) + (4294967296 - cast_unsigned w32 (pos back))) % 4294967296) (omega arith)
    ∙ ap (λ (x : ℕ). (x + (4294967296 - cast_unsigned w32 (pos back))) % 4294967296) (number_is g k)
    ∙ ap (λ (x : ℕ). ((seed g + k) % 4294967296 + (4294967296 - x)) % 4294967296) (back_is back b)

pub id_fits : (g : Geometry) (k : ℕ) → FitsSigned w32 (id_of g k)
id_fits g k = to_z-Fits w32 ((seed g + cast_unsigned w32 (pos k)) % 4294967296) (record { fits = omega arith })

pub before_fits : (g : Geometry) (k back : ℕ) → FitsSigned w32 (id_before g k back)
before_fits g k back = to_z-Fits w32 ((cast_unsigned w32 (id_of g k) + (4294967296 - cast_unsigned w32 (pos back))) % 4294967296) (record { fits = omega arith })

-- an id is of one count
pub one_id : (g : Geometry) → Fit g → (a b : ℕ) → a < 4294967296 → b < 4294967296 → id_of g a ≡ id_of g b → a ≡ b
one_id g f a b la lb e = apart (seed g) a b (seed_low g f) la lb (sym (number_is g a) ∙ ap (cast_unsigned w32) e ∙ number_is g b)
  where
    apart : (u a b : ℕ) → u < 4294967296 → a < 4294967296 → b < 4294967296 → (u + a) % 4294967296 ≡ (u + b) % 4294967296 → a ≡ b
    apart u a b lu la lb e = omega arith

-- the id two before a count is of no count above it
pub two_before : (g : Geometry) → Fit g → (k j : ℕ) → k < j → j < 2147483648 → id_of g j ≡ id_before g k 2 → ⊥
two_before g f k j lt low e = apart (seed g) k j (seed_low g f) lt low (sym (number_is g j) ∙ ap (cast_unsigned w32) e ∙ before_is g k 2 (omega arith))
  where
    apart : (u k j : ℕ) → u < 4294967296 → k < j → j < 2147483648 → (u + j) % 4294967296 ≡ ((u + k) % 4294967296 + (4294967296 - 2)) % 4294967296 → ⊥
    apart u k j lu lt low e = omega arith

same_bits : (g : Geometry) (k back : ℕ) (z : ℤ) → back < 3 → FitsSigned w32 z → cast_unsigned w32 z ≡ ((seed g + k) % 4294967296 + (4294967296 - back)) % 4294967296 → id_before g k back ≡ z
same_bits g k back z b fits e = sym (to_z-of_z w32 (id_before g k back) (before_fits g k back)) ∙ ap (cast_signed w32) (before_is g k back b ∙ sym e) ∙ to_z-of_z w32 z fits

pub before_count : (g : Geometry) → Fit g → (k back : ℕ) → back < 3 → back ≤ k → k < 2147483648 → id_before g k back ≡ id_of g (k - back)
before_count g f k back b le low = same_bits g k back (id_of g (k - back)) b (id_fits g (k - back)) (number_is g (k - back) ∙ same (seed g) k back (seed_low g f) b le low)
  where
    same : (u k back : ℕ) → u < 4294967296 → back < 3 → back ≤ k → k < 2147483648 → (u + (k - back)) % 4294967296 ≡ ((u + k) % 4294967296 + (4294967296 - back)) % 4294967296
    same u k back lu b le low = omega arith

-- one further on, one further back
pub before_next : (g : Geometry) → Fit g → (k back : ℕ) → back < 2 → k < 2147483648 → id_before g (k + 1) (back + 1) ≡ id_before g k back
before_next g f k back b low = same_bits g (k + 1) (back + 1) (id_before g k back) (omega arith) (before_fits g k back) (before_is g k back (omega arith) ∙ same (seed g) k back (seed_low g f) b low)
  where
    same : (u k back : ℕ) → u < 4294967296 → back < 2 → k < 2147483648 → ((u + k) % 4294967296 + (4294967296 - back)) % 4294967296 ≡ ((u + (k + 1)) % 4294967296 + (4294967296 - (back + 1))) % 4294967296
    same u k back lu b low = omega arith

-- ---- words

pub id_of_word : (id : ℤ) (offset : ℕ) → FitsSigned w32 id → offset < 4294967296 → id_in (tail_word id offset) ≡ id
id_of_word id offset fits low =
    let high : (cast_unsigned w32 id * 4294967296 + offset) / 4294967296 ≡ cast_unsigned w32 id = omega arith in
    ap (cast_signed w32) high ∙ to_z-of_z w32 id fits

pub offset_of_word : (id : ℤ) (offset : ℕ) → offset < 4294967296 → offset_in (tail_word id offset) ≡ offset
offset_of_word id offset low = omega arith

pub add_to_word : (id : ℤ) (offset n : ℕ) → FitsSigned w32 id → offset + n < 4294967296 → (tail_word id offset + n) % 2 ^ 64 ≡ tail_word id (offset + n)
add_to_word id offset n fits low =
    let small : cast_unsigned w32 id < 4294967296 = (of_z_fits w32 id fits).fits in
    fold (cast_unsigned w32 id) offset n small low
  where
    fold : (u offset n : ℕ) → u < 4294967296 → offset + n < 4294967296 → (u * 4294967296 + offset + n) % 18446744073709551616 ≡ u * 4294967296 + (offset + n)
    fold u offset n small low = let sum : u * 4294967296 + offset + n ≡ u * 4294967296 + (offset + n) = omega arith in let fits : u * 4294967296 + (offset + n) < 18446744073709551616 = omega arith in
        ap (λ (z : ℕ). z % 18446744073709551616) sum ∙ mod-eq_of_lt fits
