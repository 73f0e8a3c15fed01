-- Where a message has its number and its stamp.
use Rattle.std.specs.Prelude.{ℕ, List, ◌++◌, drop, take}
use Rattle.byteorder.specs.Endian.{little_bytes, little_number}

-- the number in four bytes behind the first four, the stamp in eight behind them, the lowest byte first; the others stay
abbrev pub stamped : List ℕ → ℕ → ℕ → List ℕ
stamped message number stamp = (take 4 message ++ little_bytes 4 number) ++ (little_bytes 8 stamp ++ drop 16 message)

-- the number in eight bytes behind the first eight, the lowest byte first
abbrev pub stamp_of : List ℕ → ℕ
stamp_of message = little_number 8 (drop 8 message)
