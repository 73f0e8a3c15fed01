-- Which frames a datagram takes, and which of them a cycle sends.
-- Frames go one after the other into a datagram, as long as they are of one term and their sum stays within the MTU.
-- A padding counts with its header alone, and ends its datagram.
use Rattle.std.specs.Prelude.{map, ℕ, ◌+◌, ◌/◌, ◌≤◌, Bool, true, not, ◌&&◌, List, [], ◌∷◌, ◌++◌, take, nat_eq, nat_le, if◌then◌else◌}
use Rattle.std.specs.List.{list_any, flat_map}
use Rattle.theory.specs.Position.{Geometry}
use Rattle.theory.specs.Wire.{front}
use Rattle.theory.specs.Placed.{Data, Frame, Pad, Placed, covered, end_of, is_padding}
use Rattle.theory.specs.Wire.{Wire}
use Rattle.theory.specs.Bytes.{Identity, wire_at}

-- a frame may be sent under this limit
abbrev pub sent_end : Placed → Frame → ℕ
sent_end s (Data flags payload) = end_of s
sent_end s (Pad n) = s.at + 32

abbrev pub MayBeSent : ℕ → Placed → Type 0
MayBeSent limit s = sent_end s s.frame ≤ limit

abbrev pub wire_size : Placed → Frame → ℕ
wire_size s (Data flags payload) = covered s
wire_size s (Pad n) = 32

abbrev pub size_of : List Placed → ℕ
size_of [] = 0
size_of (s ∷ ss) = wire_size s s.frame + size_of ss

-- the frame goes into the datagram that is open
abbrev pub fits_in : Geometry → List Placed → Placed → Bool
fits_in g [] s = true
fits_in g (t ∷ ts) s = not (list_any (λ u. is_padding u.frame) (t ∷ ts)) && nat_eq (t.at / g.term_length) (s.at / g.term_length) && nat_le (size_of (t ∷ ts) + wire_size s s.frame) g.mtu

abbrev pub grouped_behind : Geometry → List Placed → List Placed → List (List Placed)
grouped_behind g front [] = front ∷ []
grouped_behind g front (s ∷ ss) = if fits_in g front s then grouped_behind g (front ++ s ∷ []) ss else front ∷ grouped_behind g (s ∷ []) ss

-- the datagrams that these frames go in
abbrev pub grouped : Geometry → List Placed → List (List Placed)
grouped g [] = []
grouped g (s ∷ ss) = grouped_behind g (s ∷ []) ss

-- the frames under the limit, up to the first that isn't
abbrev pub sendable : ℕ → List Placed → List Placed
sendable limit [] = []
sendable limit (s ∷ ss) = if nat_le (sent_end s s.frame) limit then s ∷ sendable limit ss else []

-- what a cycle sends of the frames that its reads gave
abbrev pub cycle_datagrams : Geometry → ℕ → List Placed → List (List Placed)
cycle_datagrams g limit reads = take 16 (grouped g (sendable limit reads))

-- what a resend sends of the frames of its range
abbrev pub resend_datagrams : Geometry → List Placed → List (List Placed)
resend_datagrams g frames = take 15 (grouped g frames)

-- the frames of these datagrams, in order
abbrev pub frames_of : List (List Placed) → List Placed
frames_of datagrams = flat_map (λ d. d) datagrams

abbrev pub wires : Identity → List Placed → List Wire
wires i ss = map (λ s. wire_at i s.at s.frame) ss
