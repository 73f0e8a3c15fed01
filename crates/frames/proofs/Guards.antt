-- Chains of tests that read, and lists of zeros and of bytes.
use Rattle.std.proofs.Common.{◌≡◌, ℕ, zero, suc, ◌<◌, ◌⊎◌, Bool, true, false, cond, not, eqb, List, [], ◌∷◌, length, replicate, Result, Ok, Err, refl, ap, inl, inr}
use Rattle.std.specs.Prelude.{◌==◌}
use Rattle.std.specs.List.{list_all, AllByRecursion}
use Rattle.std.proofs.lemmas.Bool.{and_parts, or_cases, not-false, eqb-true}
use Rattle.theory.specs.Wire.{Wire, IsDataFlags}
use Rattle.frames.specs.declared.fault.FrameError.{FrameError}
use Rattle.frames.specs.Order.{is_data_flags}
use Rattle.frames.proofs.Numbers.{IsBytes}

-- a test that found no fault
pub guard : (b : Bool) (d : FrameError) (r : Result (Wire × ℕ) FrameError) (y : Wire × ℕ) → cond b (Err d) r ≡ Ok y → (b ≡ false) × (r ≡ Ok y)
guard true d r y e = absurd cc
guard false d r y e = (refl, e)

-- which way a test went
pub chosen : (b : Bool) (x y z : Result (Wire × ℕ) FrameError) → cond b x y ≡ z → ((b ≡ true) × (x ≡ z)) ⊎ ((b ≡ false) × (y ≡ z))
chosen true x y z e = inl (refl, e)
chosen false x y z e = inr (refl, e)

abbrev pub done : Wire × ℕ → Result (Wire × ℕ) FrameError
done x = Ok x

pub ok_is : (x y : Wire × ℕ) → done x ≡ done y → x ≡ y
ok_is x y e = cc

pub no_ok : (d : FrameError) (y : Wire × ℕ) → Err d ≡ done y → ⊥
no_ok d y e = cc

-- a test that two numbers differ found none
pub equal_from : (a b : ℕ) → not (eqb a b) ≡ false → a ≡ b
equal_from a b e = eqb-true a b (not-false (eqb a b) e)

pub zeros_found : (xs : List ℕ) → list_all (λ b. b == 0) xs ≡ true → xs ≡ replicate (length xs) 0
zeros_found [] e = refl
zeros_found (x ∷ xs) e =
    let p = and_parts (eqb x 0) (list_all (λ b. b == 0) xs) e in
    let head : x ≡ 0 = eqb-true x 0 p.0 in
    rw head (ap (λ (r : List ℕ). 0 ∷ r) (zeros_found xs p.1))

pub zeros_again : (n : ℕ) → list_all (λ b. b == 0) (replicate n 0) ≡ true
zeros_again zero = refl
zeros_again (suc n) = zeros_again n

pub bytes_all : (xs : List ℕ) → IsBytes xs → AllByRecursion (λ b. b < 256) xs
bytes_all [] h = tt
bytes_all (x ∷ xs) h = (h 0, bytes_all xs (λ i. h (suc i)))

pub flags_found : (f : ℕ) → not (is_data_flags f) ≡ false → IsDataFlags f
flags_found f e =
    elim (or_cases _ _ (not-false _ e)) [
      | inl three ↦ elim (or_cases _ _ three) [
        | inl two ↦ elim (or_cases _ _ two) [
          | inl one ↦ inl (eqb-true f 0 one)
          | inr h ↦ inr (inl (eqb-true f 64 h))
        ]
        | inr h ↦ inr (inr (inl (eqb-true f 128 h)))
      ]
      | inr h ↦ inr (inr (inr (eqb-true f 192 h)))
    ]

pub flags_again : (f : ℕ) → IsDataFlags f → is_data_flags f ≡ true
flags_again f (inl e) = rw e refl
flags_again f (inr (inl e)) = rw e refl
flags_again f (inr (inr (inl e))) = rw e refl
flags_again f (inr (inr (inr e))) = rw e refl
