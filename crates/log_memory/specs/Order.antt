-- Slots that a seat carries, in another order.
use Rattle.std.specs.Prelude.{ℕ, zero, suc, List}
use Rattle.atomic_table.specs.Table.{turned}

-- so many go behind the others, one after the other
abbrev pub rotated : {S : Type 0} → ℕ → List (ℕ × S) → List (ℕ × S)
rotated zero mine = mine
rotated (suc n) mine = rotated n (turned mine)
