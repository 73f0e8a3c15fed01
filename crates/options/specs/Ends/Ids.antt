-- The ids that bytes spell.
use Rattle.std.specs.Prelude.{ℕ, List, drop}
use Rattle.std.specs.Int.{w32, w64, cast_signed}
use Rattle.byteorder.specs.Endian.{little_number}
use Rattle.options.specs.declared.ends.ids.Drawn.{Drawn}

-- the first four bytes the session, four more the first term, and eight more the receiver, each with the lowest byte first
abbrev pub drawn_of : List ℕ → Drawn
drawn_of bytes = record {
  session = cast_signed w32 (little_number 4 bytes);
  initial_term_id = cast_signed w32 (little_number 4 (drop 4 bytes));
  receiver = cast_signed w64 (little_number 8 (drop 8 bytes));
}
