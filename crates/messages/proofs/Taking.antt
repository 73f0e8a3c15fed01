-- Bytes that were taken, one after the other.
use Rattle.std.proofs.Common.{◌≢◌, ◌<◌, ◌≤◌, ℕ, zero, suc, List, [], ◌∷◌, ◌++◌, length, Option, inl, inr, refl, subst, arith, append-nil}
use Rattle.std.specs.Int.{w32, to_le_bytes}
use Rattle.std.specs.Io.KnownBytes.{Consumes}
use Rattle.std.proofs.KnownBytes.{Consumes-trans}
use Rattle.messages.specs.declared.form.Form.TheVariants.{Blocks}
use Rattle.messages.specs.Blocks.{BreaksLength, BreaksPart, EndsLength}
use Rattle.messages.specs.Inputs.{Explains, IsOneLine}
use Rattle.messages.specs.declared.fault.InputFault.{InputFault}
use Rattle.messages.specs.declared.fault.InputFault.TheVariants.{Read, TooLong, Cut, Memory}

pub taken_more : (a b c : Option (List ℕ)) (front : List ℕ) (byte : ℕ) → Consumes a b front → Consumes b c (byte ∷ []) → Consumes a c (front ++ byte ∷ [])
taken_more a b c front byte h one = Consumes-trans a b c front (byte ∷ []) h one

pub taken_no_more : (a b c : Option (List ℕ)) (front : List ℕ) → Consumes a b front → Consumes b c [] → Consumes a c front
taken_no_more a b c front h none = subst (Consumes a c) (append-nil front) (Consumes-trans a b c front [] h none)

pub one_more : (text : List ℕ) (byte : ℕ) → IsOneLine text → byte ≢ 10 → IsOneLine (text ++ byte ∷ [])
one_more [] byte h other zero low = other
one_more [] byte h other (suc i) low = absurd (omega arith)
one_more (x ∷ xs) byte h other zero low = h zero (omega arith)
one_more (x ∷ xs) byte h other (suc i) low = one_more xs byte (λ j below. h (suc j) (omega arith)) other i (omega arith)

-- ---- blocks that break off

-- within the length, where some bytes of it were taken
pub length_broken : (number : ℕ) (a b c : Option (List ℕ)) (front : List ℕ) (fault : InputFault) → 0 < length front → length front < 4 → Consumes a b front → EndsLength number b c fault → BreaksLength number a c front fault
length_broken number a b c front (Read code) some few taken h = (taken_no_more a b c front taken h, few)
length_broken number a b c front (TooLong n greatest) some few taken h = h
length_broken number a b c front (Cut n) some few taken h = (h.0, taken_no_more a b c front taken h.1, h.2, some, few)
length_broken number a b c front Memory some few taken h = h

pub without_length : (number greatest : ℕ) (a b : Option (List ℕ)) (front held : List ℕ) (fault : InputFault) → BreaksLength number a b front fault → Explains Blocks number greatest a b held fault
without_length number greatest a b front held (Read code) h = (front, h.0, inl h.1)
without_length number greatest a b front held (TooLong n most) h = absurd h
without_length number greatest a b front held (Cut n) h = (h.0, (front, h.1, h.2, inl (h.3, h.4)))
without_length number greatest a b front held Memory h = absurd h

-- behind a length that isn't too great
pub part_broken : (number greatest n : ℕ) (a b c : Option (List ℕ)) (held : List ℕ) (fault : InputFault) → n ≤ greatest → Consumes a b (to_le_bytes w32 n) → BreaksPart n b c held fault → Explains Blocks number greatest a c held fault
part_broken number greatest n a b c held (Read code) few taken h = (to_le_bytes w32 n ++ held, Consumes-trans a b c _ _ taken h.0, inr (n, few, h.1, refl))
part_broken number greatest n a b c held (TooLong m most) few taken h = absurd h
part_broken number greatest n a b c held (Cut m) few taken h = absurd h
part_broken number greatest n a b c held Memory few taken h = (to_le_bytes w32 n ++ (held ++ h.0 ∷ []), Consumes-trans a b c _ _ taken h.1, (n, h.0, few, h.2, refl))
