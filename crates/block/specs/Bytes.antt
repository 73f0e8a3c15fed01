-- A list of bytes as words of eight, little-endian.
use Rattle.std.specs.Prelude.{ℕ, ◌+◌, ◌*◌, List, ◌++◌, length, take, drop}
use Rattle.std.specs.Int.{w64, to_le_bytes, from_le_bytes}

abbrev pub word_at : List ℕ → ℕ → ℕ
word_at bytes i = from_le_bytes w64 (take 8 (drop (8 * i) bytes))

-- the bytes with this word at that place
abbrev pub with_word : List ℕ → ℕ → ℕ → List ℕ
with_word bytes i word = take (8 * i) bytes ++ to_le_bytes w64 word ++ drop (8 * i + 8) bytes

-- the list with other bytes over its front; its length stays
abbrev pub with_front : List ℕ → List ℕ → List ℕ
with_front bytes front = take (length bytes) (front ++ drop (length front) bytes)
