use Rattle.std.proofs.Common.{◌≡◌, ℕ, ◌*◌, ◌-◌, ◌^◌, ◌<◌, ◌≤◌, List, []}
use Rattle.log_memory.specs.Rights.{IsAnything, IsHalfway, IsWholeOf}
use Rattle.log_memory.specs.Steps.{Carries, IsPartAt}
use Rattle.log_memory.proofs.rights.collect_parts.Given as goal

-- so many parts are in one, whatever frame they are of
abbrev pub invariant-loop-taken : goal.invariant-loop-taken
invariant-loop-taken l =
    (0 < l.taken) × (l.taken ≤ 8) × (l.seat.table_id ≡ l.fn.seat.table_id) × (l.seat.id ≡ l.fn.seat.id) × (l.seat.me.0 ≡ l.fn.seat.me.0)
    × ((ws : List ℕ) (life book : ℕ) → Carries (IsPartAt l.table.key l.first ws life book) l.first (8 * l.units) [] l.fn.seat.me.1
    → IsHalfway (IsPartAt l.table.key l.first ws life book) IsAnything l.first (8 * l.units) l.taken [] l.seat.me.1 × IsWholeOf l.table.key l.first ws (l.taken * 2 ^ 60) life book l.whole)

abbrev pub decreases-loop-taken : goal.decreases-loop-taken
decreases-loop-taken l = 8 - l.taken
