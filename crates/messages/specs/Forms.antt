-- How messages stand in a stream of bytes.
use Rattle.std.specs.Prelude.{ℕ, ◌<◌, List, [], ◌∷◌, ◌++◌, length, take, Option, codes}
use Rattle.std.specs.List.{flat_map}
use Rattle.std.specs.Int.{w32, to_le_bytes}
use Rattle.std.specs.Io.KnownBytes.{Appends}
use Rattle.messages.specs.declared.form.Form.{Form}
use Rattle.messages.specs.declared.form.Form.TheVariants.{Lines, Blocks}

-- a line feed behind the message
abbrev pub line : List ℕ → List ℕ
line message = message ++ 10 ∷ []

-- its length before it, of 32 bits, the lowest byte first
abbrev pub block : List ℕ → List ℕ
block message = to_le_bytes w32 (length message) ++ message

abbrev pub spelled : Form → List ℕ → List ℕ
spelled Lines message = line message
spelled Blocks message = block message

-- messages one behind the other
abbrev pub spelling : Form → List (List ℕ) → List ℕ
spelling form messages = flat_map (spelled form) messages

-- known bytes grow by the first of these bytes, and not by all of them
abbrev pub AppendsPart : Option (List ℕ) → Option (List ℕ) → List ℕ → Type 0
AppendsPart before after bytes = (number : ℕ) × (number < length bytes) × Appends before after (take number bytes)

-- what a user reads where the output fails
abbrev pub output_text : List ℕ
output_text = codes "output"
