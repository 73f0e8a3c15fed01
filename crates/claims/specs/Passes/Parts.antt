-- Bytes that are written in part.
use Rattle.std.specs.Prelude.{ℕ, ◌+◌, List, ◌++◌, drop, length, take}

-- bytes with a part over them, from an offset on
abbrev pub with_part : List ℕ → ℕ → List ℕ → List ℕ
with_part bytes offset part = take offset bytes ++ (part ++ drop (offset + length part) bytes)
