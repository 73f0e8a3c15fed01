use Rattle.std.proofs.Common.{◌≡◌, ℕ, ◌%◌, ◌<◌, length}
use mathlib.Core.Option.{some}
use lib.ListN.{get_elem?}
use Rattle.region.specs.declared.access.Access.{Access}
use Rattle.log_memory.specs.Opening.{IsLeft, IsUnitOf}
use Rattle.log_memory.proofs.opening.rooms.Given as goal

abbrev pub invariant-loop-slot : goal.invariant-loop-slot
invariant-loop-slot l =
    (length l.slots.items ≡ l.slot) × (l.left.identity ≡ l.fn.memory.identity) × IsLeft l.fn.units l.slot l.left × ((k : ℕ) → k % 8 ≡ 0 → k < l.slot → (g : Access) × (get_elem? l.slots.items k ≡ some g) × IsUnitOf l.fn.memory.identity k g)
