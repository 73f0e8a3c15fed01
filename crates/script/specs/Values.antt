-- How the words of a line are read as bytes.
use Rattle.std.specs.Prelude.{ℕ, List, [], ◌∷◌, Option, Some, None, Result, Ok, Err}
use Rattle.hex.specs.Hex.{decode_of}
use Rattle.hex.specs.declared.error.FromHexError.{FromHexError}

-- what was read, if there was no fault
abbrev pub read_bytes : Result (List ℕ) FromHexError → Option (List ℕ)
read_bytes (Ok bytes) = Some bytes
read_bytes (Err fault) = None

-- at least one byte, two digits each
unfoldable pub hex_of : List ℕ → Option (List ℕ)
hex_of [] = None
hex_of (digit ∷ text) = read_bytes (decode_of (digit ∷ text))
