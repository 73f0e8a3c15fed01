-- Frames by their units of 32 bytes, where their bits stand among an image's words, and what a right to read one shows.
use Rattle.std.specs.Prelude.{◌≡◌, ℕ, ◌+◌, ◌*◌, ◌/◌, ◌%◌, ◌^◌, ◌<◌, ◌≤◌, ◌⊎◌, List, [], ◌∷◌, length, map, slice_index, take, drop}
use Rattle.std.specs.Int.{bit_at}
use Rattle.std.specs.List.{AllByRecursion}
use Rattle.theory.specs.Bytes.{Identity, bytes_of}
use Rattle.theory.specs.Placed as placed
use Rattle.theory.specs.Placed.{Data, Pad, Placed, frame_length, payload_of}
use Rattle.theory.specs.Position.{aligned}
use Rattle.theory.specs.Wire.{IsDataFlags}
use Rattle.position.specs.Heads.{head_of}
use Rattle.position.specs.Contents.{frame_by, head_by}
use Rattle.image_rule.specs.declared.view.Frame.{Frame}
use Rattle.region.specs.declared.access.ReadAccess.{ReadAccess}
use Rattle.region.specs.declared.access.RegionKey.{RegionKey}
use Rattle.image_rule.specs.declared.view.Key.{Key}

abbrev pub Among : Frame → List Frame → Type 0
Among f [] = ⊥
Among f (g ∷ gs) = (f ≡ g) ⊎ Among f gs

abbrev pub end_of : Frame → ℕ
end_of f = f.unit + f.units

-- the frame has this unit
abbrev pub Covers : Frame → ℕ → Type 0
Covers f u = (f.unit ≤ u) × (u < end_of f)

-- ---- what its bytes say

-- which frame they are: the first eight say its kind, its flags and its length, and behind its header its payload stands
abbrev pub frame_said : List ℕ → placed.Frame
frame_said bytes = frame_by (take 8 bytes) (drop 32 bytes)

-- the frame of the stream, and where it starts
abbrev pub placed_of : Frame → Placed
placed_of f = record { at = 32 * f.unit; frame = frame_said f.bytes }

abbrev pub placed_all : List Frame → List Placed
placed_all frames = map placed_of frames

-- a frame as an image takes it
abbrev pub IsContent : placed.Frame → Type 0
IsContent (Data flags payload) = IsDataFlags flags × (32 + length payload ≤ 65504) × AllByRecursion (λ b. b < 256) payload
IsContent (Pad n) = (32 ≤ n) × (n ≤ 16777216)

-- its bytes are those of a frame of the stream, which covers its units
pub record IsSpelt (i : Identity) (f : Frame) : Type 0 where
  pub content : IsContent (frame_said f.bytes)
  pub covered : 32 * f.units ≡ aligned (frame_length (frame_said f.bytes))
  pub bytes : f.bytes ≡ bytes_of i (placed_of f)

-- what of that a reader finds: the head, and behind 32 bytes the payload
pub record Says (f : Frame) : Type 0 where
  pub content : IsContent (frame_said f.bytes)
  pub covered : 32 * f.units ≡ aligned (frame_length (frame_said f.bytes))
  pub head : (p : ℕ) → head_by p (take 8 f.bytes) ≡ head_of p (frame_said f.bytes)
  pub payload : take (length (payload_of (frame_said f.bytes))) (drop 32 f.bytes) ≡ payload_of (frame_said f.bytes)
  pub long : 32 + length (payload_of (frame_said f.bytes)) ≤ length f.bytes

-- ---- units that were stored

-- one of the frames has the unit
pub record Has (got : List Frame) (u : ℕ) : Type 0 where
  pub frame : Frame
  pub among : Among frame got
  pub covers : Covers frame u

-- one of the frames starts there
pub record StartsAt (got : List Frame) (u : ℕ) : Type 0 where
  pub frame : Frame
  pub among : Among frame got
  pub here : frame.unit ≡ u

-- one of the frames of a stream starts at this position
pub record HasStart (frames : List Placed) (position : ℕ) : Type 0 where
  pub frame : Placed
  pub among : placed.Among frame frames
  pub here : frame.at ≡ position

-- all units from the first one up to this one were stored
abbrev pub Reached : ℕ → List Frame → ℕ → Type 0
Reached join got u = (v : ℕ) → join ≤ v → v < u → Has got v

-- ---- places

-- the units of an image's ring: those of three terms
unfoldable pub ring : Key → ℕ
ring key = 3 * key.identity.geometry.term_length / 32

-- a ring of n units: first the words of held bits, then those of start bits
abbrev pub held_place : ℕ → ℕ → ℕ
held_place n u = u % n / 64

abbrev pub start_place : ℕ → ℕ → ℕ
start_place n u = n / 64 + u % n / 64

abbrev pub image_length : ℕ → ℕ
image_length n = n / 64 * 2

-- where a unit's bytes begin in the region
abbrev pub byte_place : ℕ → ℕ → ℕ
byte_place n u = 32 * (u % n)

-- the slot with the part of a consumer of the frame that begins at a unit
abbrev pub slot_of : ℕ → ℕ → ℕ → ℕ
slot_of n u j = 8 * (u % n) + j

abbrev pub held_bit : ℕ → List ℕ → ℕ → ℕ
held_bit n words u = bit_at (slice_index words (held_place n u)) (u % 64)

abbrev pub start_bit : ℕ → List ℕ → ℕ → ℕ
start_bit n words u = bit_at (slice_index words (start_place n u)) (u % 64)

-- ---- memory

-- bytes that begin with those of a frame
abbrev pub Spells : Frame → List ℕ → Type 0
Spells f bytes = take (length f.bytes) bytes ≡ f.bytes

-- an eighth of the right to read a frame's bytes, which lie where it belongs in the ring: of this round and this account
pub record IsPart (n : ℕ) (region : RegionKey) (f : Frame) (r b : ℕ) (g : ReadAccess) : Type 0 where
  pub identity : g.identity ≡ region.identity
  pub at : g.at ≡ byte_place n f.unit
  pub count : g.count ≡ 2 ^ 60
  pub round : g.round ≡ record { life = r; book = b }
  pub long : length g.items ≡ 32 * f.units
  pub spells : Spells f g.items
