-- Numbers as bytes: what is read is what stands there, and what was written is read again.
use Rattle.std.proofs.Common.{◌≡◌, ℕ, ℤ, ◌+◌, ◌^◌, ◌<◌, ◌≤◌, List, ◌++◌, length, get_or, take, drop, sym, ap, ◌∙◌, arith, inl, inr}
use Rattle.std.specs.Int.{Width, w16, w32, w64, to_le_bytes, cast_signed, cast_unsigned}
use Rattle.std.proofs.lemmas.Bool.{cases_lt}
use Rattle.std.proofs.lemmas.Int.{to_z-of_z, of_z-to_z}
use Rattle.std.proofs.lemmas.List.{take-append-drop, length-drop, length-take, get_or-drop, get_or-take, get_or_past, drop-drop}
use Rattle.std.proofs.lemmas.Nat.{le_bytes_2, le_bytes_4, le_bytes_8}
use Rattle.std.proofs.Math.Facts as facts
use Rattle.byteorder.specs.Endian.{little_number}
use Rattle.byteorder.specs.Numbers.{little_number-reads_back, little_from-take, little_from-lt}
use mir.Val.{SFits, bits}

abbrev pub IsBytes : List ℕ → Type 0
IsBytes bytes = (i : ℕ) → get_or bytes i 0 < 256

pub IsBytes-drop : (n : ℕ) (bytes : List ℕ) → IsBytes bytes → IsBytes (drop n bytes)
IsBytes-drop n bytes h i = rw get_or-drop (h (n + i))

pub IsBytes-take : (n : ℕ) (bytes : List ℕ) → IsBytes bytes → IsBytes (take n bytes)
IsBytes-take n bytes h i =
    elim (cases_lt i n) [
      | inl lt ↦ rw (get_or-take n bytes i 0 lt) (h i)
      | inr le ↦ rw (get_or_past (take n bytes) i 0 (omega (arith, length-take n bytes))) (omega arith)
    ]

-- a number of k bytes fills the width w
pub record Fills (w : Width) (k : ℕ) : Type 0 where
  pub found : (bytes : List ℕ) → IsBytes bytes → k ≤ length bytes → to_le_bytes w (little_number k bytes) ≡ take k bytes
  pub again : (n : ℕ) (rest : List ℕ) → n < 2 ^ bits w → little_number k (to_le_bytes w n ++ rest) ≡ n
  pub below : (bytes : List ℕ) → IsBytes bytes → little_number k bytes < 2 ^ bits w

pub fills16 : Fills w16 2
fills16 = record {
  found = λ bytes fits long.
      let e : little_number 2 (take 2 bytes) ≡ little_number 2 bytes = little_from-take 0 2 2 bytes (omega arith) in
      le_bytes_2 (take 2 bytes) (little_number 2 bytes) (omega (arith, length-take 2 bytes)) (IsBytes-take 2 bytes fits) (omega (arith, e));
  again = λ n rest lt. little_number-reads_back 2 n rest lt;
  below = λ bytes fits. little_from-lt 0 2 bytes fits;
}

pub fills32 : Fills w32 4
fills32 = record {
  found = λ bytes fits long.
      let e : little_number 4 (take 4 bytes) ≡ little_number 4 bytes = little_from-take 0 4 4 bytes (omega arith) in
      le_bytes_4 (take 4 bytes) (little_number 4 bytes) (omega (arith, length-take 4 bytes)) (IsBytes-take 4 bytes fits) (omega (arith, e));
  again = λ n rest lt. little_number-reads_back 4 n rest lt;
  below = λ bytes fits. little_from-lt 0 4 bytes fits;
}

pub fills64 : Fills w64 8
fills64 = record {
  found = λ bytes fits long.
      let e : little_number 8 (take 8 bytes) ≡ little_number 8 bytes = little_from-take 0 8 8 bytes (omega arith) in
      le_bytes_8 (take 8 bytes) (little_number 8 bytes) (omega (arith, length-take 8 bytes)) (IsBytes-take 8 bytes fits) (omega (arith, e));
  again = λ n rest lt. little_number-reads_back 8 n rest lt;
  below = λ bytes fits. little_from-lt 0 8 bytes fits;
}

-- what stands from a place on begins with the bytes of the number that is read there
pub unsigned_found : (w : Width) (k : ℕ) → Fills w k → (bytes : List ℕ) (at next : ℕ) → IsBytes bytes → at + k ≤ length bytes → at + k ≡ next → drop at bytes ≡ to_le_bytes w (little_number k (drop at bytes)) ++ drop next bytes
unsigned_found w k fills bytes at next fits long e =
    let front = fills.found (drop at bytes) (IsBytes-drop at bytes fits) (omega (arith, length-drop at bytes)) in
    let back : drop k (drop at bytes) ≡ drop next bytes = drop-drop k at bytes ∙ ap (λ (n : ℕ). drop n bytes) e in
    sym (take-append-drop k (drop at bytes)) ∙ ap (λ (r : List ℕ). take k (drop at bytes) ++ r) back ∙ ap (λ (f : List ℕ). f ++ drop next bytes) (sym front)

pub signed_found : (w : Width) (k : ℕ) → Fills w k → (bytes : List ℕ) (at next : ℕ) → IsBytes bytes → at + k ≤ length bytes → at + k ≡ next → drop at bytes ≡ to_le_bytes w (cast_unsigned w (cast_signed w (little_number k (drop at bytes)))) ++ drop next bytes
signed_found w k fills bytes at next fits long e =
    unsigned_found w k fills bytes at next fits long e
    ∙ ap (λ (n : ℕ). to_le_bytes w n ++ drop next bytes) (sym (of_z-to_z w (little_number k (drop at bytes)) (fills.below (drop at bytes) (IsBytes-drop at bytes fits))))

pub signed_fits : (w : Width) (k : ℕ) → Fills w k → (bytes : List ℕ) (at : ℕ) → IsBytes bytes → SFits w (cast_signed w (little_number k (drop at bytes)))
signed_fits w k fills bytes at fits = facts.sfits_to_z (record { fits = fills.below (drop at bytes) (IsBytes-drop at bytes fits) })

-- a signed number that was written is read again
pub signed_again : (w : Width) (k : ℕ) → Fills w k → (z : ℤ) (rest : List ℕ) → SFits w z → cast_signed w (little_number k (to_le_bytes w (cast_unsigned w z) ++ rest)) ≡ z
signed_again w k fills z rest fits =
    ap (cast_signed w) (fills.again (cast_unsigned w z) rest (facts.Fits-of_z fits).fits) ∙ to_z-of_z w z fits
