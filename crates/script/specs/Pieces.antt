-- How a text is cut into lines, and a line into words.
use Rattle.std.specs.Prelude.{ℕ, List, [], ◌∷◌, ◌==◌, if◌then◌else◌}

-- a byte at the front of the first piece, which it begins if there is none
abbrev pub with_first : ℕ → List (List ℕ) → List (List ℕ)
with_first byte [] = (byte ∷ []) ∷ []
with_first byte (piece ∷ pieces) = (byte ∷ piece) ∷ pieces

-- the lines of a text: each is ended by a line feed, which the last may lack
unfoldable pub lines : List ℕ → List (List ℕ)
lines [] = []
lines (byte ∷ text) = if byte == 10 then [] ∷ lines text else with_first byte (lines text)

-- the words of a line, which single spaces part
unfoldable pub words : List ℕ → List (List ℕ)
words [] = [] ∷ []
words (byte ∷ line) = if byte == 32 then [] ∷ words line else with_first byte (words line)
