-- A block's length, and its bytes.
use Rattle.std.specs.Prelude.{◌≡◌, ◌<◌, ℕ, Bool, true, false, List, [], ◌∷◌, ◌++◌, length, Option, None, Some}
use Rattle.std.specs.Int.{w32, to_le_bytes}
use Rattle.std.specs.Io.KnownBytes.{Consumes, IsAtEnd}
use Rattle.messages.specs.declared.fault.InputFault.{InputFault}
use Rattle.messages.specs.declared.fault.InputFault.TheVariants.{Read, TooLong, Cut, Memory}

-- so many bytes are taken, or fewer and the input is at its end
abbrev pub TakesPart : ℕ → Option (List ℕ) → Option (List ℕ) → Bool → List ℕ → Type 0
TakesPart number old new true bytes = Consumes old new bytes × (length bytes ≡ number)
TakesPart number old new false bytes = Consumes old new bytes × IsAtEnd new × (length bytes < number)

abbrev pub GivesLength : Option (List ℕ) → Option (List ℕ) → Option ℕ → Type 0
GivesLength old new None = Consumes old new [] × IsAtEnd new
GivesLength old new (Some number) = Consumes old new (to_le_bytes w32 number)

-- why one more byte of a length isn't read: the input failed or ended
abbrev pub EndsLength : ℕ → Option (List ℕ) → Option (List ℕ) → InputFault → Type 0
EndsLength number old new (Read code) = Consumes old new []
EndsLength number old new (TooLong n greatest) = ⊥
EndsLength number old new (Cut n) = (n ≡ number) × Consumes old new [] × IsAtEnd new
EndsLength number old new Memory = ⊥

-- why a length isn't read: the input failed or ended, where fewer than its 4 bytes were taken
abbrev pub BreaksLength : ℕ → Option (List ℕ) → Option (List ℕ) → List ℕ → InputFault → Type 0
BreaksLength number old new front (Read code) = Consumes old new front × (length front < 4)
BreaksLength number old new front (TooLong n greatest) = ⊥
BreaksLength number old new front (Cut n) = (n ≡ number) × Consumes old new front × IsAtEnd new × (0 < length front) × (length front < 4)
BreaksLength number old new front Memory = ⊥

-- why so many bytes aren't read, of which these are held: the input failed, or memory was refused to one more
abbrev pub BreaksPart : ℕ → Option (List ℕ) → Option (List ℕ) → List ℕ → InputFault → Type 0
BreaksPart number old new held (Read code) = Consumes old new held × (length held < number)
BreaksPart number old new held (TooLong n greatest) = ⊥
BreaksPart number old new held (Cut n) = ⊥
BreaksPart number old new held Memory = (byte : ℕ) × Consumes old new (held ++ byte ∷ []) × (length held < number)
