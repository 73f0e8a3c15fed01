-- Powers of two, and signed sums that fit.
use Rattle.std.proofs.Common.{◌≡◌, ℕ, suc, ◌+◌, ◌-◌, ◌%◌, ap, ◌≤◌, ◌<◌, ◌^◌, ◌/◌, ◌*◌, ℤ, pos, ◌+ℤ◌, ◌*ℤ◌, arith, sym, refl, ◌∙◌, inl, inr, rules}
use Rattle.std.proofs.lemmas.Int.{to_z-of_z, fits_signed_mul, unsigned_abs-mul}
use Rattle.std.proofs.lemmas.Bool.{cases_lt}
use Rattle.std.proofs.Math.Pow.{pow_mono, pow-lt}
use Rattle.std.proofs.Math.Nat.{two-pow-succ, mul-le-mul, mul-mod_left, mul-zero, zero-mod}
use Rattle.std.proofs.lemmas.Nat.{pow-add, mul-mod, div-add-mod'}
use Rattle.std.proofs.lemmas.Nat.{and_mask, pow_pos}
use Rattle.std.proofs.lemmas.Nat.Bits.{bit_at-trailing_zeros, bit_at-pow_other}
use Rattle.std.specs.Prelude.{bit_and}
use Rattle.std.specs.Int.{w32, w64, IsPowerOfTwo, bit_at, trailing_zeros}
use Rattle.std.specs.Int.RustNames.{unsigned_abs}
use Rattle.theory.specs.Position.{Geometry, count_of, position_of}
use mir.Val.{to_z, of_z, SFits}

magnitude : (a : ℤ) → SFits w32 a → unsigned_abs a ≤ 2 ^ 31
magnitude a f = search (rules, f)

product_bound : (a b : ℤ) → unsigned_abs a ≤ 2 ^ 31 → unsigned_abs b ≤ 2 ^ 24 → unsigned_abs (a *ℤ b) ≤ 2 ^ 31 * 2 ^ 24
product_bound a b na nb = rw (unsigned_abs-mul a b) (mul-le-mul na nb)

sum_fits : (p o : ℤ) → unsigned_abs p ≤ 2 ^ 31 * 2 ^ 24 → SFits w32 o → SFits w64 (p +ℤ o)
sum_fits p o np fo = search rules

-- computed in 64 bits, a product and a sum of numbers of 32 bits are what they are
pub as_they_are : (a b o : ℤ) → SFits w32 a → SFits w64 b → unsigned_abs b ≤ 2 ^ 24 → SFits w32 o → to_z w64 (of_z w64 (to_z w64 (of_z w64 (to_z w64 (of_z w64 a) *ℤ to_z w64 (of_z w64 b))) +ℤ to_z w64 (of_z w64 o))) ≡ (a *ℤ b) +ℤ o
as_they_are a b o fa b64 nb fo =
    let a64 : SFits w64 a = search rules in
    let o64 : SFits w64 o = search rules in
    let p64 : SFits w64 (a *ℤ b) = fits_signed_mul w64 a b (2 ^ 31) (2 ^ 24) (magnitude a fa) nb (omega arith) in
    let s64 : SFits w64 ((a *ℤ b) +ℤ o) = sum_fits (a *ℤ b) o (product_bound a b (magnitude a fa) nb) fo in
    rw (to_z-of_z w64 a a64, to_z-of_z w64 b b64, to_z-of_z w64 (a *ℤ b) p64, to_z-of_z w64 o o64, to_z-of_z w64 ((a *ℤ b) +ℤ o) s64) refl

power_step : (j : ℕ) → 2 ^ suc j ≡ 2 ^ j + 2 ^ j
power_step j = two-pow-succ j

-- powers that are less than twice apart are one
pub same_power : (m n : ℕ) → IsPowerOfTwo m → IsPowerOfTwo n → n ≤ m → m / 2 < n → m ≡ n
same_power m n (i, pm) (j, pn) le below =
    elim (cases_lt j i) [
      | inl h ↦
          let more : 2 ^ suc j ≤ 2 ^ i = pow_mono h in
          let step : 2 ^ suc j ≡ 2 ^ j + 2 ^ j = power_step j in
          absurd (omega arith)
      | inr h ↦
          let less : 2 ^ i ≤ 2 ^ j = pow_mono h in
          omega arith
    ]

-- a position, from the parts that the code multiplies and adds
pub placed : (g : Geometry) (id offset a b o : ℤ) → a ≡ count_of g id → b ≡ pos g.term_length → o ≡ offset → (a *ℤ b) +ℤ o ≡ position_of g id offset
placed g id offset a b o ea eb eo = rw (ea, eb, eo) refl

-- the one bit of a power is at its exponent
one_bit : (k i : ℕ) → bit_at (2 ^ k) i ≡ 1 → i ≡ k
one_bit k i set =
    elim (cases_lt i k) [
      | inl less ↦ absurd (omega (arith, set, bit_at-pow_other k i (λ e. omega (arith, e))))
      | inr more ↦
          elim (cases_lt k i) [
            | inl less ↦ absurd (omega (arith, set, bit_at-pow_other k i (λ e. omega (arith, e))))
            | inr same ↦ omega arith
          ]
    ]

-- a number shifted by the zeros of a power is divided by it
pub power_shift : (p n : ℕ) → IsPowerOfTwo n → n < 2 ^ 32 → p / 2 ^ trailing_zeros w32 n ≡ p / n
power_shift p n (k, is) fits =
    let some : 0 < n = rw is (pow_pos k) in
    let low = bit_at-trailing_zeros w32 n some fits in
    let place : trailing_zeros w32 n ≡ k = one_bit k (trailing_zeros w32 n) (ap (λ x. bit_at x (trailing_zeros w32 n)) (sym is) ∙ low.1) in
    ap (λ j. p / 2 ^ j) place ∙ ap (λ x. p / x) (sym is)

-- the bits below a power are the rest that it leaves
pub power_mask : (p n : ℕ) → IsPowerOfTwo n → bit_and p (n - 1) ≡ p % n
power_mask p n (k, is) = ap (λ x. bit_and p (x - 1)) is ∙ and_mask p k ∙ ap (λ x. p % x) (sym is)

multiple : (k m d : ℕ) → m % d ≡ 0 → (k * m) % d ≡ 0
multiple k m d h = mul-mod k m d ∙ rw (h, mul-zero) (zero-mod d)

-- a power of two from 2 ^ 16 on is a multiple of it
pub whole_power : (n : ℕ) → IsPowerOfTwo n → 65536 ≤ n → n % 65536 ≡ 0
whole_power n (i, p) h =
    elim (cases_lt i 16) [
      | inl less ↦
          let below : 2 ^ i < 2 ^ 16 = pow-lt less in
          absurd (omega arith)
      | inr more ↦
          let split : 2 ^ i ≡ 2 ^ (i - 16) * 2 ^ 16 = ap (λ k. 2 ^ k) (omega arith) ∙ pow-add 2 (i - 16) 16 in
          rw (p, split) (mul-mod_left (2 ^ (i - 16)) (2 ^ 16))
    ]

-- the start of a term is a unit
pub unit_start : (q n : ℕ) → n % 65536 ≡ 0 → (q * n) % 32 ≡ 0
unit_start q n h = multiple q n 32 (omega arith)

-- a unit stands at a unit of its term
pub unit_offset : (p n : ℕ) → n % 65536 ≡ 0 → p % 32 ≡ 0 → (p % n) % 32 ≡ 0
unit_offset p n whole unit =
    let start : (p / n * n) % 32 ≡ 0 = unit_start (p / n) n whole in
    let parts : p ≡ p / n * n + p % n = sym (div-add-mod' p n) in
    omega (arith, start, parts)
