-- Which bytes of an input a message takes, and why none is read. What an input has left is known or not.
use Rattle.std.specs.Prelude.{◌≡◌, ◌≢◌, ◌⊎◌, ◌≤◌, ◌<◌, ◌+◌, ℕ, Bool, true, false, List, [], ◌∷◌, ◌++◌, length, slice_index, Option, None, Some}
use Rattle.std.specs.Int.{w32, to_le_bytes}
use Rattle.std.specs.Io.KnownBytes.{Consumes, IsAtEnd}
use Rattle.messages.specs.Forms.{block, line}
use Rattle.messages.specs.declared.form.Form.{Form}
use Rattle.messages.specs.declared.form.Form.TheVariants.{Lines, Blocks}
use Rattle.messages.specs.declared.fault.InputFault.{InputFault}
use Rattle.messages.specs.declared.fault.InputFault.TheVariants.{Read, TooLong, Cut, Memory}

-- a byte is taken, or the input is at its end
abbrev pub GivesByte : Option (List ℕ) → Option (List ℕ) → Option ℕ → Type 0
GivesByte old new None = Consumes old new [] × IsAtEnd new
GivesByte old new (Some byte) = Consumes old new (byte ∷ [])

-- no byte is a line feed
abbrev pub IsOneLine : List ℕ → Type 0
IsOneLine text = (i : ℕ) → i < length text → slice_index text i ≢ 10

-- the line with its line feed is taken, or the last one, of at least one byte, without it
abbrev pub TakesLine : Option (List ℕ) → Option (List ℕ) → List ℕ → Type 0
TakesLine old new message = IsOneLine message × (Consumes old new (line message) ⊎ (Consumes old new message × IsAtEnd new × (0 < length message)))

abbrev pub TakesMessage : Form → Option (List ℕ) → Option (List ℕ) → List ℕ → Type 0
TakesMessage Lines old new message = TakesLine old new message
TakesMessage Blocks old new message = Consumes old new (block message)

-- a message of at most so many bytes is taken, or the input was at its end
abbrev pub Gives : Form → ℕ → Option (List ℕ) → Option (List ℕ) → Bool → List ℕ → Type 0
Gives form greatest old new true message = TakesMessage form old new message × (length message ≤ greatest)
Gives form greatest old new false message = Consumes old new [] × IsAtEnd new

-- what was taken of a message that is longer: the line's first bytes, or the block's length
abbrev pub IsTooLong : Form → ℕ → List ℕ → Type 0
IsTooLong Lines greatest front = IsOneLine front × (length front ≡ greatest + 1)
IsTooLong Blocks greatest front = (n : ℕ) × (front ≡ to_le_bytes w32 n) × (greatest < n)

-- a block's beginning: some bytes of its length, or that and fewer bytes than it says
abbrev pub IsCut : Form → List ℕ → Type 0
IsCut Lines front = ⊥
IsCut Blocks front = ((0 < length front) × (length front < 4)) ⊎ ((n : ℕ) × (part : List ℕ) × (front ≡ to_le_bytes w32 n ++ part) × (length part < n))

-- what was taken of a message where the input failed: it isn't whole, nor longer than the greatest. Of a block's bytes these are held
abbrev pub IsPart : Form → ℕ → List ℕ → List ℕ → Type 0
IsPart Lines greatest held front = (front ≡ held) × IsOneLine held × (length held ≤ greatest)
IsPart Blocks greatest held front = (length front < 4) ⊎ ((n : ℕ) × (n ≤ greatest) × (length held < n) × (front ≡ to_le_bytes w32 n ++ held))

-- what was taken of a message where memory was refused: the last byte is one of the message's, and all before it are held
abbrev pub LacksRoom : Form → ℕ → List ℕ → List ℕ → Type 0
LacksRoom Lines greatest held front = (byte : ℕ) × (front ≡ held ++ byte ∷ []) × IsOneLine front × (length front ≤ greatest)
LacksRoom Blocks greatest held front = (n : ℕ) × (byte : ℕ) × (n ≤ greatest) × (length held < n) × (front ≡ to_le_bytes w32 n ++ (held ++ byte ∷ []))

-- why no message is read, and what is held of it
abbrev pub Explains : Form → ℕ → ℕ → Option (List ℕ) → Option (List ℕ) → List ℕ → InputFault → Type 0
Explains form number greatest old new held (Read code) = (front : List ℕ) × Consumes old new front × IsPart form greatest held front
Explains form number greatest old new held (TooLong n most) = (n ≡ number) × (most ≡ greatest) × ((front : List ℕ) × Consumes old new front × IsTooLong form greatest front)
Explains form number greatest old new held (Cut n) = (n ≡ number) × ((front : List ℕ) × Consumes old new front × IsAtEnd new × IsCut form front)
Explains form number greatest old new held Memory = (front : List ℕ) × Consumes old new front × LacksRoom form greatest held front
