-- The head of a frame of a stream.
use Rattle.std.specs.Prelude.{◌≡◌, ℕ, ◌+◌, ◌-◌, ◌%◌, ◌<◌, ◌≤◌, ◌⊎◌, List, length, take}
use Rattle.theory.specs.Position.{Geometry, aligned, max_position}
use Rattle.theory.specs.Placed.{Data, Frame, Pad}
use Rattle.position.specs.declared.head.FrameHead.{FrameHead}
use Rattle.position.specs.declared.head.FrameKind.{FrameKind}
use Rattle.position.specs.declared.head.FrameKind.TheVariants as kinds

-- the head of a frame of a stream
abbrev pub head_of : ℕ → Frame → FrameHead
head_of start (Data flags payload) = record { start = start; kind = kinds.Data; flags = flags; frame_length = 32 + length payload }
head_of start (Pad n) = record { start = start; kind = kinds.Pad; flags = 192; frame_length = n }

-- the frame of this kind, with these flags and this length, whose payload stands in the block's front
abbrev pub frame_in : FrameKind → ℕ → ℕ → List ℕ → Frame
frame_in kinds.Data flags frame_length block = Data flags (take (frame_length - 32) block)
frame_in kinds.Pad flags frame_length block = Pad frame_length

-- a message's frame or a padding, in one term of the stream
pub record IsStreamFrame (g : Geometry) (head : FrameHead) : Type 0 where
  pub flags : (head.flags ≡ 0) ⊎ ((head.flags ≡ 64) ⊎ ((head.flags ≡ 128) ⊎ (head.flags ≡ 192)))
  pub long : 32 ≤ head.frame_length
  pub short : head.kind ≡ kinds.Data → head.frame_length ≤ g.mtu
  pub unit : head.start % 32 ≡ 0
  pub below : head.start < max_position g
  pub in_term : head.start % g.term_length + aligned head.frame_length ≤ g.term_length
  pub in_stream : head.start + aligned head.frame_length ≤ max_position g
