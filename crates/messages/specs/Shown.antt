-- What a look at the input takes of a line or a block, by what is held of it already.
use Rattle.std.specs.Prelude.{◌≡◌, ◌≢◌, ◌≤◌, ◌<◌, ◌+◌, ℕ, Bool, true, false, List, [], ◌∷◌, ◌++◌, length, Option}
use Rattle.std.specs.Io.KnownBytes.{Consumes, IsAtEnd}
use Rattle.messages.specs.Inputs.{IsOneLine}
use Rattle.messages.specs.declared.lines.Shown.{Shown}
use Rattle.messages.specs.declared.lines.Shown.TheVariants.{End, Rest, Part}
use Rattle.messages.specs.declared.fault.InputFault.{InputFault}
use Rattle.messages.specs.declared.fault.InputFault.TheVariants.{Read, TooLong, Cut, Memory}

-- a part of the line is taken and held, and behind it what ends the line
pub record Grows (greatest : ℕ) (old new : Option (List ℕ)) (ending held after : List ℕ) : Type 0 where
  pub part : List ℕ
  pub grown : after ≡ held ++ part
  pub one_line : IsOneLine part
  pub short : length after ≤ greatest
  pub taken : Consumes old new (part ++ ending)

abbrev pub TakesShown : ℕ → Option (List ℕ) → Option (List ℕ) → Shown → List ℕ → List ℕ → Type 0
TakesShown greatest old new End held after = Consumes old new [] × IsAtEnd new × (after ≡ held)
TakesShown greatest old new Rest held after = Grows greatest old new (10 ∷ []) held after
TakesShown greatest old new Part held after = Grows greatest old new [] held after

-- why no more of the line is held
abbrev pub BreaksLine : ℕ → ℕ → Option (List ℕ) → Option (List ℕ) → List ℕ → List ℕ → InputFault → Type 0
BreaksLine number greatest old new held after (Read code) = Consumes old new [] × (after ≡ held)
BreaksLine number greatest old new held after (TooLong n most) = (n ≡ number) × (most ≡ greatest) × ((part : List ℕ) × Consumes old new part × IsOneLine part × (length held + length part ≡ greatest + 1))
BreaksLine number greatest old new held after (Cut n) = ⊥
BreaksLine number greatest old new held after Memory = (byte : ℕ) × Consumes old new (byte ∷ []) × (byte ≢ 10) × (after ≡ held) × (length held < greatest)

-- ---- of a block

-- at most so many bytes are taken and held, or the input is at its end
abbrev pub TakesSome : ℕ → Option (List ℕ) → Option (List ℕ) → Bool → List ℕ → List ℕ → Type 0
TakesSome most old new true held after = (part : List ℕ) × (after ≡ held ++ part) × (length part ≤ most) × Consumes old new part
TakesSome most old new false held after = Consumes old new [] × IsAtEnd new × (after ≡ held)

-- why no more is held
abbrev pub BreaksSome : Option (List ℕ) → Option (List ℕ) → List ℕ → List ℕ → InputFault → Type 0
BreaksSome old new held after (Read code) = Consumes old new [] × (after ≡ held)
BreaksSome old new held after (TooLong n most) = ⊥
BreaksSome old new held after (Cut n) = ⊥
BreaksSome old new held after Memory = (byte : ℕ) × Consumes old new (byte ∷ []) × (after ≡ held)
