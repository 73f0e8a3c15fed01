-- Which frame a frame's words say.
use Rattle.std.specs.Prelude.{ℕ, ◌-◌, List, drop, nat_eq, slice_index, take, if◌then◌else◌}
use Rattle.std.specs.Int.{w32, w64, from_le_bytes, to_le_bytes}
use Rattle.std.specs.List.{flat_map}
use Rattle.theory.specs.Placed.{Data, Frame, Pad}
use Rattle.position.specs.declared.head.FrameHead.{FrameHead}
use Rattle.position.specs.declared.head.FrameKind.TheVariants as kinds

abbrev pub bytes_in : List ℕ → List ℕ
bytes_in words = flat_map (to_le_bytes w64) words

-- by the bytes of its first word, and those behind its header
abbrev pub frame_by : List ℕ → List ℕ → Frame
frame_by head payload = if nat_eq (slice_index head 6) 0 then Pad (from_le_bytes w32 (take 4 head)) else Data (slice_index head 5) (take (from_le_bytes w32 (take 4 head) - 32) payload)

abbrev pub frame_of : List ℕ → Frame
frame_of words = frame_by (to_le_bytes w64 (slice_index words 0)) (bytes_in (drop 4 words))

-- the head by a first word's bytes
abbrev pub head_by : ℕ → List ℕ → FrameHead
head_by start head = record { start = start; kind = if nat_eq (slice_index head 6) 0 then kinds.Pad else kinds.Data; flags = slice_index head 5; frame_length = from_le_bytes w32 (take 4 head) }
