use Rattle.std.proofs.Common.{◌≡◌, ◌+◌, ◌-◌, ◌*◌, ◌<◌, List, [], length}
use Rattle.std.specs.List.{AllByRecursion}
use Rattle.publication.specs.declared.pass.FrameWords.{FrameWords}
use Rattle.log_memory.specs.Frames.{Follow}
use Rattle.log_memory.proofs.frames.free_to.Given as goal

-- all below is room, by two steps for each frame, and beside that the keeper is as it was
abbrev pub invariant-loop-at : goal.invariant-loop-at
invariant-loop-at l =
    (l.home.value.identity ≡ l.fn.home.value.identity) × (l.seat.table_id ≡ l.fn.seat.table_id) × (l.seat.id ≡ l.fn.seat.id) × (l.seat.me.1 ≡ []) × (l.seat.me.0.part ≡ l.fn.seat.me.0.part)
    × (l.seat.me.0.room ≡ record { freed = l.at; out = 0 }) × (l.seat.me.0.parked ≡ l.fn.seat.me.0.parked)
    × (fs : List FrameWords) × Follow l.memory.table.shared.key.key.identity l.fn.seat.me.0.room.freed fs l.at × AllByRecursion (λ f. f.start < l.end) fs × (l.seat.me.0.view ≡ record l.fn.seat.me.0.view { steps = l.fn.seat.me.0.view.steps + 2 * length fs })

abbrev pub decreases-loop-at : goal.decreases-loop-at
decreases-loop-at l = l.end - l.at
