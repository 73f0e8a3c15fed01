-- Where a unit lies among those of three terms.
use Rattle.std.proofs.Common.{◌≡◌, ℕ, ◌+◌, ◌-◌, ◌*◌, ◌/◌, ◌%◌, ◌^◌, ◌<◌, ◌≤◌, ap, sym, ◌∙◌, inl, inr, arith, div-add-mod', mul-div_cancel}
use Rattle.std.proofs.Math.Nat.{div-div-eq-div-mul}
use Rattle.std.proofs.Math.Pow.{pow-lt}
use Rattle.std.proofs.lemmas.Bool.{cases_lt}
use Rattle.std.proofs.lemmas.Nat.{pow-add, pow_pos}
use Rattle.std.proofs.lemmas.Nat.Bits.{bit_at-pow_other, bit_at-trailing_zeros}
use Rattle.std.specs.Int.{IsPowerOfTwo, bit_at, trailing_zeros, w32}

-- ---- a unit's place

-- a term's units are a power of two, as its bytes are
pub unit_power : (t : ℕ) → IsPowerOfTwo t → 65536 ≤ t → IsPowerOfTwo (t / 32)
unit_power t (k, is) least =
    elim (cases_lt k 5) [
      | inl less ↦
          let below : 2 ^ k < 2 ^ 5 = pow-lt less in
          absurd (omega (arith, is))
      | inr more ↦
          let split : 2 ^ k ≡ 2 ^ (k - 5) * 32 = ap (λ j. 2 ^ j) (omega arith) ∙ pow-add 2 (k - 5) 5 in
          (k - 5, ap (λ m. m / 32) (is ∙ split) ∙ mul-div_cancel (2 ^ (k - 5)) (omega arith))
    ]

-- a power of two has one bit
one_bit : (k i : ℕ) → bit_at (2 ^ k) i ≡ 1 → i ≡ k
one_bit k i set =
    elim (cases_lt i k) [
      | inl less ↦ absurd (omega (arith, set, bit_at-pow_other k i (λ e. absurd (omega (arith, e)))))
      | inr more ↦
          elim (cases_lt k i) [
            | inl less ↦ absurd (omega (arith, set, bit_at-pow_other k i (λ e. absurd (omega (arith, e)))))
            | inr most ↦ omega arith
          ]
    ]

pub shift_power : (n : ℕ) → IsPowerOfTwo n → n < 2 ^ 32 → (2 ^ trailing_zeros w32 n ≡ n) × (trailing_zeros w32 n < 32)
shift_power n (k, is) fits =
    let some : 0 < n = rw is (pow_pos k) in
    let low = bit_at-trailing_zeros w32 n some fits in
    let place : trailing_zeros w32 n ≡ k = one_bit k (trailing_zeros w32 n) (ap (λ x. bit_at x (trailing_zeros w32 n)) (sym is) ∙ low.1) in
    (ap (λ j. 2 ^ j) place ∙ sym is, low.0)

-- what is left of a unit's number without the whole rings before it, which three terms make each
pub ring_rest : (u n term terms : ℕ) → n ≡ 3 * term → terms ≡ u / term → (terms / 3 * n ≤ u) × (u - terms / 3 * n ≡ u % n)
ring_rest u n term terms three is =
    let turns : terms / 3 ≡ u / n = ap (λ (x : ℕ). x / 3) is ∙ div-div-eq-div-mul u term 3 ∙ ap (λ (x : ℕ). u / x) (let e : term * 3 ≡ n = omega arith in e) in
    let all : terms / 3 * n + u % n ≡ u = ap (λ (x : ℕ). x * n + u % n) turns ∙ div-add-mod' u n in
    (omega arith, omega arith)
