-- The memory of an image's frames: which bytes are free, and where the bytes of each frame lie.
use Rattle.std.specs.Prelude.{◌≡◌, ℕ, ◌+◌, ◌*◌, ◌%◌, ◌<◌, ◌≤◌, Bool, true, false, List, [], ◌∷◌, Option, None, Some, length, nat_eq, slice_index, take, if◌then◌else◌}
use Rattle.std.specs.Int.{to_le_bytes, w64}
use Rattle.region.specs.declared.access.RegionKey.{RegionKey}
use Rattle.region.specs.Pooled.{AreAll}
use Rattle.image_rule.specs.declared.view.Frame.{Frame}
use Rattle.image_rule.specs.declared.view.Held.{Held}
use Rattle.image_rule.specs.Frames.{Among, Covers, byte_place, end_of}
use Rattle.image_rule.specs.Reads.{no_frame}
use Rattle.image.specs.declared.inserter.room.Room.{Room}

-- no frame has it whose memory wasn't taken back
abbrev pub IsOutside : Held → ℕ → Type 0
IsOutside h u = (f : Frame) → Among f h.got → h.freed ≤ f.unit → Covers f u → ⊥

-- a frame's bytes lie where it belongs in the ring, which doesn't end among them, and aren't free; its first eight are written
-- down
pub record HasBytes (n : ℕ) (bits : List Bool) (heads : List ℕ) (f : Frame) : Type 0 where
  pub whole : f.unit % n + f.units ≤ n
  pub out : AreAll false (byte_place n f.unit) (32 * f.units) bits
  pub head : to_le_bytes w64 (slice_index heads (f.unit % n)) ≡ take 8 f.bytes

-- in a ring of n units from the floor on, the bytes of all units are free but of frames whose memory wasn't taken back
pub record HasMemory (n : ℕ) (h : Held) (bits : List Bool) (heads : List ℕ) : Type 0 where
  pub pool : length bits ≡ 32 * n
  pub long : length heads ≡ n
  pub floor : h.floor ≤ h.freed
  pub edge : (f : Frame) → Among f h.got → f.unit < h.freed → end_of f ≤ h.freed
  pub free : (u : ℕ) → h.floor ≤ u → u < h.floor + n → IsOutside h u → AreAll true (byte_place n u) 32 bits
  pub bytes : (f : Frame) → Among f h.got → h.freed ≤ f.unit → HasBytes n bits heads f

-- the inserter's room, at rest
pub record RoomRests (n : ℕ) (region : RegionKey) (h : Held) (room : Room) (heads : List ℕ) : Type 0 where
  pub lies : room.pool.identity ≡ region.identity
  pub memory : HasMemory n h room.pool.free heads
  pub freed : h.freed ≡ h.floor

abbrev pub HasRoom : ℕ → RegionKey → Held → Option Room → List ℕ → Type 0
HasRoom n region h None heads = ⊥
HasRoom n region h (Some room) heads = RoomRests n region h room heads

-- the frame that begins at a unit
abbrev pub found_at : List Frame → ℕ → Frame
found_at [] u = no_frame
found_at (f ∷ fs) u = if nat_eq f.unit u then f else found_at fs u

-- the frame that begins where memory was taken back is to be taken back next, in a ring from the floor on
pub record IsNext (n : ℕ) (h : Held) (unit : ℕ) : Type 0 where
  pub among : Among (found_at h.got unit) h.got
  pub here : (found_at h.got unit).unit ≡ unit
  pub freed : unit ≡ h.freed
  pub from : h.floor ≤ unit
  pub near : unit < h.floor + n
