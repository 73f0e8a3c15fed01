use Rattle.std.proofs.Common.{◌≡◌, ◌^◌, ◌<◌, ◌-◌, ◌*◌, ◌≤◌}
use Rattle.region.proofs.eighths.eight_readers.Given as goal

-- so many eighths are back, and the others of the same round are out
abbrev pub invariant-loop-readers : goal.invariant-loop-readers
invariant-loop-readers l =
    (0 < l.readers) × (l.readers ≤ 8) × (l.back.count ≡ l.readers * 2 ^ 60) × (l.rest.count ≡ (8 - l.readers) * 2 ^ 60) × (l.rest.round ≡ l.back.round) × (l.back.identity ≡ l.fn.access.identity)
    × (l.back.at ≡ l.fn.access.at) × (l.back.items ≡ l.fn.access.items)

abbrev pub decreases-loop-readers : goal.decreases-loop-readers
decreases-loop-readers l = 8 - l.readers
