-- Frames of the stream and where they stand.
use Rattle.std.specs.Prelude.{◌≡◌, ℕ, ◌+◌, Bool, true, false, List, [], ◌∷◌, length, ◌⊎◌}
use Rattle.std.specs.List.{AllByRecursion}
use Rattle.theory.specs.Position.{aligned}

-- a frame of the stream
pub data Frame : Type 0 where
  Data : (flags : ℕ) (payload : List ℕ) → Frame
  Pad : (frame_length : ℕ) → Frame

abbrev pub frame_length : Frame → ℕ
frame_length (Data flags payload) = 32 + length payload
frame_length (Pad n) = n

abbrev pub payload_of : Frame → List ℕ
payload_of (Data flags payload) = payload
payload_of (Pad n) = []

abbrev pub is_padding : Frame → Bool
is_padding (Data flags payload) = false
is_padding (Pad n) = true

-- a frame and where it starts
pub record Placed : Type 0 where
  pub at : ℕ
  pub frame : Frame

abbrev pub covered : Placed → ℕ
covered s = aligned (frame_length s.frame)

abbrev pub end_of : Placed → ℕ
end_of s = s.at + covered s

-- it is an element of the list
abbrev pub Among : {X : Type 0} → X → List X → Type 0
Among x [] = ⊥
Among x (y ∷ ys) = (x ≡ y) ⊎ Among x ys

abbrev pub place_all : ℕ → List Frame → List Placed
place_all p [] = []
place_all p (f ∷ fs) = record { at = p; frame = f } ∷ place_all (p + aligned (frame_length f)) fs

-- each of the frames starts where the one before ends, from j to q
abbrev pub Chain : ℕ → ℕ → List Placed → Type 0
Chain j q [] = q ≡ j
Chain j q (s ∷ ss) = (s.at ≡ j) × Chain (end_of s) q ss

abbrev pub AllAmong : List Placed → List Placed → Type 0
AllAmong frames ss = AllByRecursion (λ s. Among s frames) ss

-- frames of the list lead from start to here, each beginning where the one before ends
pub record IsReached (frames : List Placed) (start at : ℕ) : Type 0 where
  pub read : List Placed
  pub chain : Chain start at read
  pub among : AllAmong frames read
