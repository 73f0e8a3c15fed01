-- The numbers that stand in bytes, the lowest byte first.
use Rattle.std.specs.Prelude.{ℕ, ℤ, List, drop}
use Rattle.std.specs.Int.{w32, w64, cast_signed}
use Rattle.byteorder.specs.Endian.{little_number}

-- the number of two or four bytes from a place on
abbrev pub u16_at : List ℕ → ℕ → ℕ
u16_at bytes place = little_number 2 (drop place bytes)

abbrev pub u32_at : List ℕ → ℕ → ℕ
u32_at bytes place = little_number 4 (drop place bytes)

-- the same for signed numbers of four and eight bytes, in two's complement
abbrev pub i32_at : List ℕ → ℕ → ℤ
i32_at bytes place = cast_signed w32 (little_number 4 (drop place bytes))

abbrev pub i64_at : List ℕ → ℕ → ℤ
i64_at bytes place = cast_signed w64 (little_number 8 (drop place bytes))
