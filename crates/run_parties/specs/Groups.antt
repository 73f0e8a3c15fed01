-- The ids of receivers, and when a subscriber's end is all parties'.
use Rattle.std.specs.Prelude.{ℕ, ℤ, pos, Bool, ◌||◌, not, nat_le, nat_lt, if◌then◌else◌}

-- the id of the receiver with this number, of so many: in a group its number
abbrev pub id_of : ℕ → ℕ → ℤ
id_of receivers number = if nat_lt 1 receivers then pos number else pos 1

-- a subscriber that hasn't polled all, or the last one of so many that were left
abbrev pub ends_all : Bool → ℕ → Bool
ends_all complete left = not complete || nat_le left 1
