-- Laws on lengths of messages, and on datagrams, headers and words.
use Rattle.std.specs.Prelude.{◌≡◌, ℕ, ◌+◌, ◌-◌, ◌*◌, ◌/◌, ◌^◌, ◌<◌, ◌≤◌, List, pos}
use Rattle.std.specs.List.{sum_by}
use Rattle.theory.specs.Position.{Geometry, IsGeometry, cuts_of, framed_length, greatest_claim, max_message, max_position, span}
use Rattle.theory.specs.Wire.{SpellsDatagram, Wire}
use Rattle.theory.specs.Bytes.{Identity, header_at}
use Rattle.theory.specs.Control.{named_by}
use Rattle.theory.specs.Words.{fresh_tails, greatest_shown}

-- the frames of a message cover its framed length
abbrev pub CoversFramed : Type 0
CoversFramed = (g : Geometry) (bytes : ℕ) → IsGeometry g → span (cuts_of g bytes) ≡ framed_length g bytes

-- and hold all of its bytes
abbrev pub HoldsBytes : Type 0
HoldsBytes = (g : Geometry) (bytes : ℕ) → IsGeometry g → sum_by (λ cut. cut - 32) (cuts_of g bytes) ≡ bytes

-- no message takes more than the greatest claim, and that at most a seventh of a term and two units
abbrev pub IsClaimBounded : Type 0
IsClaimBounded = (g : Geometry) (bytes : ℕ) → IsGeometry g → bytes ≤ max_message g → (framed_length g bytes ≤ greatest_claim g) × (greatest_claim g ≤ g.term_length / 7 + 63)

-- the bytes of a datagram are those of one list of frames
abbrev pub HasOneReading : Type 0
HasOneReading = (a b : List Wire) (bytes : List ℕ) → SpellsDatagram a bytes → SpellsDatagram b bytes → a ≡ b

-- the header of a frame names the position of its first byte
abbrev pub HeaderNamesPlace : Type 0
HeaderNamesPlace = (i : Identity) (p : ℕ) → IsGeometry i.geometry → p ≤ max_position i.geometry → named_by i.geometry (header_at i p) ≡ pos p

-- the words of a log that opens show its start
abbrev pub FreshShowsStart : Type 0
FreshShowsStart = (g : Geometry) (count offset : ℕ) → IsGeometry g → count < 2 ^ 31 → offset < g.term_length → greatest_shown g (fresh_tails g count offset) ≡ pos (count * g.term_length + offset)
