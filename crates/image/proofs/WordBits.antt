-- Positions and their bits in one word.
use Rattle.std.proofs.Common.{◌≡◌, ℕ, ◌+◌, ◌-◌, ◌*◌, ◌/◌, ◌%◌, ◌^◌, ◌<◌, ◌≤◌, inl, inr, ⊎_elim, List, min, sym, ap, ◌∙◌, subst, arith}
use Rattle.std.specs.Prelude.{bit_and}
use Rattle.std.specs.Int.{bit_at, trailing_zeros, w64}
use Rattle.std.proofs.lemmas.Bool.{cases_lt}
use Rattle.std.proofs.lemmas.Nat.{and_le_l}
use Rattle.std.proofs.lemmas.Nat.Bits.{bit_at-lt, bit_at-trailing_zeros, bit_at-zero, bit_at_and, bit_at_mask_below, bit_at_mask_inside, ones_shl}
use Rattle.theory.specs.Placed.{Placed}
use Rattle.theory.specs.Units.{HasUnit}
use Rattle.image.specs.Looks.{IsFirstHeld, TellsUnits}
use Rattle.image.proofs.Places.{inside_place, word_place}

-- the word of a position and of those behind it, up to the next multiple of 2048
same_word : (t at p : ℕ) → t % 65536 ≡ 0 → 0 < t → at ≤ p → p < at - at % 2048 + 2048 → p % (3 * t) / 2048 ≡ at % (3 * t) / 2048
same_word t at p whole some l h =
    let same : at % (3 * t) % 2048 ≡ at % 2048 = word_place t at whole some in
    let round : 3 * t % 2048 ≡ 0 = omega arith in
    let below : at % (3 * t) < 3 * t = omega arith in
    let further : at + (p - at) ≡ p = omega arith in
    let there : p % (3 * t) ≡ at % (3 * t) + (p - at) = ap (λ x. x % (3 * t)) (sym further) ∙ inside_place (3 * t) at (2048 - at % 2048) (p - at) (omega arith) (omega arith) (omega arith) in
    omega arith

abbrev pub from_bit : ℕ → ℕ → ℕ
from_bit word low = bit_and word (18446744073709551615 * 2 ^ low % 18446744073709551616)

from_bits : (word low i : ℕ) → low < 64 → i < 64 → bit_at (from_bit word low) i ≡ min (bit_at word i) (bit_at (2 ^ 64 - 2 ^ low) i)
from_bits word low i l h = bit_at_and _ _ i ∙ ap (λ m. min (bit_at word i) (bit_at m i)) (ones_shl 64 low (omega arith))

-- no bit from this one on is set
none_from : (word low i : ℕ) → low ≤ i → i < 64 → bit_at (from_bit word low) i ≡ 0 → bit_at word i ≡ 1 → ⊥
none_from word low i l h zero one =
    let mask : bit_at (2 ^ 64 - 2 ^ low) i ≡ 1 = bit_at_mask_inside low 64 i l h in
    let both : bit_at (from_bit word low) i ≡ min (bit_at word i) (bit_at (2 ^ 64 - 2 ^ low) i) = from_bits word low i (omega arith) h in
    omega arith

module _ (t low at : ℕ) (frames : List Placed) (index word : ℕ) (whole : t % 65536 ≡ 0) (some : 0 < t) (unit : at % 32 ≡ 0) (from : low ≤ at) (here : index ≡ at % (3 * t) / 2048) (tells : TellsUnits t low frames index word) where
  -- the units of the word, from the position on
  pub tells_there : (p : ℕ) → p % 32 ≡ 0 → at ≤ p → p < at - at % 2048 + 2048 → p < low + 3 * t → (bit_at word (p % 2048 / 32) ≡ 1 → HasUnit frames p) × (HasUnit frames p → bit_at word (p % 2048 / 32) ≡ 1)
  tells_there p u l h near = tells p u (omega arith) near (same_word t at p whole some l h ∙ sym here)

  pub none_in_word : from_bit word (at % 2048 / 32) ≡ 0 → (p : ℕ) → p % 32 ≡ 0 → at ≤ p → p < at - at % 2048 + 2048 → p < low + 3 * t → HasUnit frames p → ⊥
  none_in_word zero p u l h near has =
      none_from word (at % 2048 / 32) (p % 2048 / 32) (omega arith) (omega arith) (ap (λ n. bit_at n (p % 2048 / 32)) zero ∙ bit_at-zero (p % 2048 / 32)) ((tells_there p u l h near).1 has)

  pub first_in_word : (start end : ℕ) → word < 2 ^ 64 → start ≤ at → at < end → end ≤ low + 3 * t → ((p : ℕ) → p % 32 ≡ 0 → start ≤ p → p < at → p < end → HasUnit frames p → ⊥) → (from_bit word (at % 2048 / 32) ≡ 0 → ⊥) → IsFirstHeld frames start end (min (at - at % 2048 + 32 * trailing_zeros w64 (from_bit word (at % 2048 / 32))) end)
  first_in_word start end small begun below near empty set =
      let n : ℕ = from_bit word (at % 2048 / 32) in
      let b : ℕ = trailing_zeros w64 n in
      let less : n ≤ word = and_le_l word _ in
      let positive : 0 < n = ⊎_elim (λ (l : 0 < n). l) (λ (l : n ≤ 0). absurd (set (omega arith))) (cases_lt 0 n) in
      let first = bit_at-trailing_zeros w64 n positive (omega arith) in
      let within : b < 64 = first.0 in
      let one : bit_at n b ≡ 1 = first.1 in
      let both : bit_at n b ≡ min (bit_at word b) (bit_at (2 ^ 64 - 2 ^ (at % 2048 / 32)) b) = from_bits word (at % 2048 / 32) b (omega arith) within in
      let above : at % 2048 / 32 ≤ b = ⊎_elim (λ (l : b < at % 2048 / 32). let mask : bit_at (2 ^ 64 - 2 ^ (at % 2048 / 32)) b ≡ 0 = bit_at_mask_below (at % 2048 / 32) 64 b l in absurd (omega arith)) (λ (l : at % 2048 / 32 ≤ b). l) (cases_lt b (at % 2048 / 32)) in
      let bit : bit_at word b < 2 = bit_at-lt word b in
      let held : bit_at word b ≡ 1 = omega arith in
      let q : ℕ = at - at % 2048 + 32 * b in
      let place : q % 2048 / 32 ≡ b = omega arith in
      let there : q % 32 ≡ 0 = omega arith in
      record {
        from = omega arith;
        within = omega arith;
        empty = λ p u l h has.
            ⊎_elim
            (λ (c : p < at). empty p u l c (omega arith) has)
            (λ (c : at ≤ p).
            let zero : bit_at n (p % 2048 / 32) ≡ 0 = first.2 (p % 2048 / 32) (omega arith) in
            none_from word (at % 2048 / 32) (p % 2048 / 32) (omega arith) (omega arith) zero ((tells_there p u c (omega arith) (omega arith)).1 has))
            (cases_lt p at);
        ends = ⊎_elim
            (λ (l : q < end).
            let same : q ≡ min q end = omega arith in
            inl (subst (HasUnit frames) same ((tells_there q there (omega arith) (omega arith) (omega arith)).0 (ap (λ i. bit_at word i) place ∙ held))))
            (λ (l : end ≤ q). inr (omega arith))
            (cases_lt q end);
      }
