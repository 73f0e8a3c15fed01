-- What a reader is shown of a frame of a stream.
use Rattle.std.specs.Prelude.{ℕ, ◌+◌, Bool, true, false, length}
use Rattle.theory.specs.Placed.{Frame, Data, Pad}
use Rattle.position.specs.declared.head.FrameKind.{FrameKind}
use Rattle.position.specs.declared.head.FrameKind.TheVariants as kinds
use Rattle.position.specs.declared.head.FrameHead.{FrameHead}

abbrev pub is_pad : FrameKind → Bool
is_pad kinds.Data = false
is_pad kinds.Pad = true

-- what a reader is shown of the frame at this position; of a padding the flags are those of a whole message
abbrev pub head_at : ℕ → Frame → FrameHead
head_at p (Data flags payload) = record { start = p; kind = kinds.Data; flags = flags; frame_length = 32 + length payload }
head_at p (Pad frame_length) = record { start = p; kind = kinds.Pad; flags = 192; frame_length = frame_length }
