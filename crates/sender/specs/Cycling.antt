-- What a sender's cycle sends, and what a datagram tells a sender.
use Rattle.std.specs.Prelude.{◌≡◌, ◌⊎◌, ◌+◌, ◌≤◌, ◌<◌, ℕ, ℤ, Bool, true, false, not, ◌&&◌, List, [], ◌∷◌, ◌++◌, map, Option, None, Some, if◌then◌else◌}
use Rattle.std.specs.List.{AllByRecursion, flat_map}
use Rattle.theory.specs.Position.{Geometry}
use Rattle.theory.specs.Wire.{NAK, Nak, SM, SpellsDatagram, Status, Wire, spelling}
use Rattle.theory.specs.Placed.{AllAmong, Among, Chain, Placed}
use Rattle.theory.specs.Bytes.{Identity}
use Rattle.theory.specs.Gap.{Gap}
use Rattle.theory.specs.Control.{heartbeat_at, setup_at}
use Rattle.theory.specs.Datagrams.{cycle_datagrams, frames_of, resend_datagrams, wires}
use Rattle.frames.specs.Datagrams.{IsDatagramFault}
use Rattle.frames.specs.declared.fault.FrameError.{FrameError}

-- what goes out in a cycle, in this order: a SETUP or none, the datagrams of new frames, those of frames that go out again, a heartbeat or none
pub record Cycle : Type 0 where
  pub setup : Bool
  pub fresh : List (List Placed)
  pub again : List (List Placed)
  pub beat : Bool

-- frames were read from a position on, each where the one before ends
pub record AreRead (frames : List Placed) (at to : ℕ) (reads : List Placed) : Type 0 where
  pub chain : Chain at to reads
  pub among : AllAmong frames reads

-- all that was read goes out, and reading ended for this cause; or all but the last, which has no place in these datagrams
abbrev pub TakesAll : List (List Placed) → List Placed → Type 0 → Type 0
TakesAll sent reads Ended = ((reads ≡ frames_of sent) × Ended) ⊎ ((s : Placed) × (reads ≡ frames_of sent ++ s ∷ []))

-- the datagrams of the frames that were read from the sender's position on; reading ended where no frame was found, or at the one that may not go
pub record GivesNew (g : Geometry) (frames : List Placed) (at limit : ℕ) (sent : List (List Placed)) : Type 0 where
  pub reads : List Placed
  pub to : ℕ
  pub read : AreRead frames at to reads
  pub sent_is : sent ≡ cycle_datagrams g limit reads
  pub ends : TakesAll sent reads ((f : Placed) → Among f frames → f.at ≡ to → ⊥)

-- the datagrams of the frames that start in a range; reading ended behind it, or at the one that has no place
pub record GivesRange (g : Geometry) (frames : List Placed) (range : Gap) (sent : List (List Placed)) : Type 0 where
  pub reads : List Placed
  pub to : ℕ
  pub read : AreRead frames range.start to reads
  pub within : AllByRecursion (λ s. s.at < range.start + range.length) reads
  pub sent_is : sent ≡ resend_datagrams g reads
  pub ends : TakesAll sent reads (range.start + range.length ≤ to)

-- the range that is due, if one is
abbrev pub GivesAgain : Geometry → List Placed → Option Gap → List (List Placed) → Type 0
GivesAgain g frames None sent = sent ≡ []
GivesAgain g frames (Some range) sent = GivesRange g frames range sent

abbrev pub setups : Identity → ℕ → Bool → List Wire
setups i at due = if due then setup_at i at ∷ [] else []

abbrev pub heartbeats : Identity → ℕ → Bool → List Wire
heartbeats i at beat = if beat then heartbeat_at i at ∷ [] else []

-- each in a datagram of its own
abbrev pub alone : List Wire → List (List Wire)
alone ws = map (λ w. w ∷ []) ws

-- the frames of a cycle's datagrams: the sender stands at the one position before the new frames, and at the other behind them
abbrev pub sent_wires : Identity → ℕ → ℕ → Cycle → List (List Wire)
sent_wires i at to y = alone (setups i at y.setup) ++ map (wires i) y.fresh ++ map (wires i) y.again ++ alone (heartbeats i to y.beat)

-- their bytes
abbrev pub datagrams : List (List Wire) → List (List ℕ)
datagrams sent = map (λ ws. flat_map spelling ws) sent

abbrev is_empty : List (List Placed) → Bool
is_empty [] = true
is_empty (d ∷ ds) = false

-- nothing but a heartbeat goes out
abbrev pub is_silent : Cycle → Bool
is_silent y = not y.setup && is_empty y.fresh && is_empty y.again

-- frames of the stream go out, or a heartbeat
abbrev pub is_heard : Cycle → Bool
is_heard y = not (is_empty y.fresh && is_empty y.again && not y.beat)

-- ---- a datagram

abbrev pub IsOwn : Identity → ℤ → ℤ → Type 0
IsOwn i session stream = (session ≡ i.session) × (stream ≡ i.stream)

-- what a datagram tells: a status message of the sender's session and stream, which asks for a SETUP or not, a negative acknowledgement of theirs, or nothing
pub data NewsContent : Type 0 where
  Says : (f : Status) → NewsContent
  AsksSetup : NewsContent
  Misses : (f : Nak) → NewsContent
  TellsNothing : NewsContent
  Unreadable : (fault : FrameError) → NewsContent

-- the frames are no such message
pub record TellNothing (i : Identity) (frames : List Wire) : Type 0 where
  pub no_status : (asks : ℕ) (f : Status) → frames ≡ SM asks f ∷ [] → IsOwn i f.session f.stream → ⊥
  pub no_nak : (f : Nak) → frames ≡ NAK f ∷ [] → IsOwn i f.session f.stream → ⊥

abbrev pub IsNews : Identity → List ℕ → NewsContent → Type 0
IsNews i bytes (Says f) = SpellsDatagram (SM 0 f ∷ []) bytes × IsOwn i f.session f.stream
IsNews i bytes AsksSetup = (f : Status) × SpellsDatagram (SM 128 f ∷ []) bytes × IsOwn i f.session f.stream
IsNews i bytes (Misses f) = SpellsDatagram (NAK f ∷ []) bytes × IsOwn i f.session f.stream
IsNews i bytes TellsNothing = (frames : List Wire) × SpellsDatagram frames bytes × TellNothing i frames
IsNews i bytes (Unreadable fault) = IsDatagramFault bytes fault
