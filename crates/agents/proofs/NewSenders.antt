-- Where a sender of a log begins.
use Rattle.std.proofs.Common.{ℕ, ◌^◌, ◌<◌, ◌≤◌, arith}
use Rattle.theory.specs.Position.{Geometry, IsGeometry, max_position}
use Rattle.position.specs.Openings.{IsStart}

pub start_fits : (g : Geometry) (start : ℕ) → IsGeometry g → IsStart g start → start < 2 ^ 63
start_fits g start legal is = let most = legal.term.greatest in omega (arith, is.1, most)

pub start_below : (g : Geometry) (start : ℕ) → IsStart g start → start ≤ max_position g
start_below g start is = omega (arith, is.1)
