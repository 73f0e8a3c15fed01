use Rattle.std.proofs.Common.{◌≡◌, length}
use Rattle.image_tests.proofs.stream_frames.frame_at.Given as goal

abbrev pub invariant-loop-index : goal.invariant-loop-index
invariant-loop-index l = length l.payload ≡ 1376
