-- Where positions stand in their terms, and terms in whole units.
use Rattle.std.proofs.Common.{◌≡◌, ℕ, suc, ◌+◌, ◌-◌, ◌*◌, ◌/◌, ◌%◌, ◌^◌, ◌<◌, ◌≤◌, ap, arith, ⊎_elim, ◌∙◌}
use Rattle.std.specs.Prelude.{nat_le}
use Rattle.std.proofs.Math.Nat.{div-lt_iff_lt-mul, mul-le-mul_right, mul_comm}
use Rattle.std.proofs.lemmas.Bool.{cond-false, lt-leb, cases_lt}
use Rattle.theory.specs.Position.{Geometry, Place, max_position, place_of}
use Rattle.std.specs.Int.{IsPowerOfTwo}
use Rattle.std.proofs.lemmas.Nat.{pow-add, pow_below}

-- a position below the greatest stands at its rest in its term
pub offset_is : (g : Geometry) (p : ℕ) → p < max_position g → (place_of g p).offset ≡ p % g.term_length
offset_is g p l = ap (λ (x : Place). x.offset) (cond-false (nat_le (max_position g) p) (record { count = 2 ^ 31 - 1; offset = g.term_length }) (record { count = p / g.term_length; offset = p % g.term_length }) (lt-leb (max_position g) p l))

-- the term of a position below the end of the last term ends in the stream
pub term_ends : (p n : ℕ) → 0 < n → p < n * 2 ^ 31 → p / n * n + n ≤ n * 2 ^ 31
term_ends p n positive below =
    let fewer : p / n < 2 ^ 31 = (div-lt_iff_lt-mul positive).1 (omega (arith, mul_comm n (2 ^ 31))) in
    let grown : suc (p / n) * n ≤ 2 ^ 31 * n = mul-le-mul_right n (omega arith) in
    let split : suc (p / n) * n ≡ p / n * n + n = omega arith in
    omega (arith, mul_comm n (2 ^ 31))

-- a term is a whole number of units, and so is half of it
pub power_half : (t : ℕ) → IsPowerOfTwo t → 65536 ≤ t → t % 64 ≡ 0
power_half t (k, e) h =
    ⊎_elim
    (λ (l : k < 6). let small : 2 ^ k < 2 ^ 6 = pow_below k 6 l in absurd (omega arith))
    (λ (l : 6 ≤ k).
    let parts : k ≡ (k - 6) + 6 = omega arith in
    let product : t ≡ 2 ^ (k - 6) * 2 ^ 6 = e ∙ ap (λ x. 2 ^ x) parts ∙ pow-add 2 (k - 6) 6 in
    omega arith)
    (cases_lt k 6)

pub power_unit : (t : ℕ) → IsPowerOfTwo t → 65536 ≤ t → t % 32 ≡ 0
power_unit t p h = omega (arith, power_half t p h)

-- and a whole number of units stays one within its term
pub mod_unit : (x t : ℕ) → 0 < t → t % 32 ≡ 0 → x % 32 ≡ 0 → (x % t) % 32 ≡ 0
mod_unit x t p u v =
    let parts : t ≡ 32 * (t / 32) = omega arith in
    let product : t * (x / t) ≡ 32 * (t / 32) * (x / t) = ap (λ y. y * (x / t)) parts in
    omega arith
