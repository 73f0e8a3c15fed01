-- Where a log's control words and slots stand, by units of 32 bytes, of which three terms have n.
use Rattle.std.specs.Prelude.{ℕ, ◌+◌, ◌*◌, ◌/◌, ◌%◌}
use Rattle.theory.specs.Position.{Geometry}

unfoldable pub units : Geometry → ℕ
units g = 3 * (g.term_length / 32)

-- the control word of the unit at a position, which repeats the first word of a frame that begins there
abbrev pub head_place : ℕ → ℕ → ℕ
head_place n p = 208 + p / 32 % n

-- the slots of a unit are eight: while it is room, the first has the right to write it; of a frame's first unit each has a consumer's part of the right to read the frame
abbrev pub slot_of : ℕ → ℕ → ℕ → ℕ
slot_of n p j = 8 * (p / 32 % n) + j
