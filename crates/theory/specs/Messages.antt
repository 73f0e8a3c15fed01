-- The messages between two positions.
use Rattle.std.specs.Prelude.{ℕ, Bool, ◌&&◌, List, map, length, not, nat_eq, nat_le}
use Rattle.std.specs.List.{filter, flat_map}
use Rattle.theory.specs.Placed.{payload_of}
use Rattle.theory.specs.Entry.{Entry, entry_end}

abbrev pub is_whole : Entry → Bool
is_whole e = nat_eq (length e.frames) (length e.cuts)

abbrev pub message_of : Entry → List ℕ
message_of e = flat_map payload_of e.frames

abbrev pub is_between : ℕ → ℕ → Entry → Bool
is_between j q e = not e.padding && is_whole e && nat_le j e.start && nat_le (entry_end e) q

-- the messages of the entries that start at or after j, end at or before q and are committed whole
abbrev pub messages : ℕ → ℕ → List Entry → List (List ℕ)
messages j q es = map message_of (filter (is_between j q) es)
