-- Where a log may open.
use Rattle.std.specs.Prelude.{◌≡◌, ℕ, ◌%◌, ◌<◌, ◌≤◌}
use Rattle.theory.specs.Position.{Geometry, max_position}

-- a position at which a stream may begin
abbrev pub IsStart : Geometry → ℕ → Type 0
IsStart g start = (start % 32 ≡ 0) × (start < max_position g)

-- how many consumers a log may have
abbrev pub IsConsumerCount : ℕ → Type 0
IsConsumerCount consumers = (1 ≤ consumers) × (consumers ≤ 8)
