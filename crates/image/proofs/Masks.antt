-- A mask's bits.
use Rattle.std.proofs.Common.{◌≡◌, ℕ, ◌+◌, ◌-◌, ◌*◌, ◌/◌, ◌%◌, ◌^◌, ◌<◌, ◌≤◌, ◌⊎◌, inl, inr, ap, ◌∙◌, sym, arith}
use Rattle.std.specs.Int.{bit_at}
use Rattle.std.proofs.Math.Nat.{mod-eq_of_lt, mul_comm, mul-sub, pow-le-pow_right}
use Rattle.std.proofs.lemmas.Nat.{pow-add, pow_pos}
use Rattle.std.proofs.lemmas.Nat.Bits.{bit_at_mask_above, bit_at_mask_below, bit_at_mask_inside, ones_shr}
use Rattle.image_rule.specs.Bits.{IsMask}

abbrev pub mask_word : ℕ → ℕ → ℕ
mask_word low high = 18446744073709551615 / 2 ^ (64 - (high - low)) * 2 ^ low % 18446744073709551616

ones_moved : (low count : ℕ) → (2 ^ count - 1) * 2 ^ low ≡ 2 ^ (low + count) - 2 ^ low
ones_moved low count =
    mul_comm (2 ^ count - 1) (2 ^ low) ∙ mul-sub (2 ^ low) (2 ^ count) 1 ∙ ap (λ (x : ℕ). x - 2 ^ low * 1) (sym (pow-add 2 low count)) ∙ (let e : 2 ^ low * 1 ≡ 2 ^ low = omega arith in ap (λ (x : ℕ). 2 ^ (low + count) - x) e)

word_is : (low high : ℕ) → low < high → high ≤ 64 → mask_word low high ≡ 2 ^ high - 2 ^ low
word_is low high l h =
    let ones : 18446744073709551615 / 2 ^ (64 - (high - low)) ≡ 2 ^ (high - low) - 1 = ones_shr 64 (64 - (high - low)) (omega arith) ∙ ap (λ (k : ℕ). 2 ^ k - 1) (let e : 64 - (64 - (high - low)) ≡ high - low = omega arith in e) in
    let moved : (2 ^ (high - low) - 1) * 2 ^ low ≡ 2 ^ high - 2 ^ low = ones_moved low (high - low) ∙ ap (λ (k : ℕ). 2 ^ k - 2 ^ low) (let e : low + (high - low) ≡ high = omega arith in e) in
    let top : 2 ^ high ≤ 18446744073709551616 = pow-le-pow_right {n = 2} (omega arith) {i = high} {j = 64} h in
    let some : 0 < 2 ^ low = pow_pos low in
    ap (λ (x : ℕ). x * 2 ^ low % 18446744073709551616) ones ∙ ap (λ (x : ℕ). x % 18446744073709551616) moved ∙ mod-eq_of_lt (omega arith)

pub mask_is : (low high : ℕ) → low < high → high ≤ 64 → mask_word low high < 2 ^ 64 → IsMask (mask_word low high) low high
mask_is low high l h small =
    let e : 2 ^ high - 2 ^ low ≡ mask_word low high = sym (word_is low high l h) in
    record {
      small = small;
      inside = λ k a b. ap (λ (x : ℕ). bit_at x k) (sym e) ∙ bit_at_mask_inside low high k a b;
      outside = λ k o. ap (λ (x : ℕ). bit_at x k) (sym e) ∙ none k o;
    }
  where
    none : (k : ℕ) → (k < low) ⊎ (high ≤ k) → bit_at (2 ^ high - 2 ^ low) k ≡ 0
    none k (inl a) = bit_at_mask_below low high k a
    none k (inr b) = bit_at_mask_above low high k b
