-- What becomes of a receiver by the frames of a datagram and by a tick.
-- A receiver's image opens at the position of a SETUP, and a later SETUP changes nothing. The last frame that met no
-- image is remembered until the next tick, which asks for a SETUP. Frames of another session or stream, NAKs and
-- status messages pass it by. Of what an image answers only `Stored` changes it.
use Rattle.std.specs.Prelude.{⊤, ◌≡◌, ◌⊎◌, ℕ, ℤ, pos, negsuc, Bool, List, [], ◌∷◌, ◌++◌, map, Option, None, Some, if◌then◌else◌}
use Rattle.std.specs.Option.{option_to_list}
use Rattle.theory.specs.Position.{Geometry}
use Rattle.theory.specs.Wire.{Wire, Header, Setup, DATA, PAD, HEARTBEAT, NAK, SM, SETUP, SpellsDatagram}
use Rattle.theory.specs.Placed as placed
use Rattle.theory.specs.Insert as meaning
use Rattle.theory.specs.Consumer.{least_of}
use Rattle.theory.specs.Gap.{Gap, gap_of}
use Rattle.theory.specs.Units.{contiguous}
use Rattle.theory.specs.Image.{Image, after_heartbeat, after_insert, image_at}
use Rattle.theory.specs.Control.{asking_at, nak_at, named_by, status_at}
use Rattle.theory.specs.Setup.{HasSetupFault, OpensAt}
use Rattle.theory.specs.Timing.{LastStatus, Scanned, Watch, is_status_due, scan, seen}
use Rattle.frames.specs.Datagrams.{IsDatagramFault}
use Rattle.frames.specs.FaultCounts.{counted_at, none_refused, place_of}
use Rattle.frames.specs.Frames.{nak_of, status_of}
use Rattle.image.specs.Stored.{meant}
use Rattle.image.specs.declared.answer.Insert.{Insert}
use Rattle.receiver.specs.SetupFaults.{fault_of}
use Rattle.receiver.specs.declared.setup.fault.SetupError.{SetupError}
use Rattle.frames.specs.declared.fault.FrameError.{FrameError}
use Rattle.receiver.specs.declared.receiver_core.Outcome.{Outcome}
use Rattle.receiver.specs.declared.receiver_core.Outcome.TheVariants as outcomes
use Rattle.receiver.specs.declared.receiver_core.Replies.{Replies}

-- an image, and the geometry of the SETUP that opened it
pub record Opened : Type 0 where
  pub geometry : Geometry
  pub image : Image

pub record Receiver : Type 0 where
  pub session : ℤ
  pub stream : ℤ
  pub window : ℕ
  pub id : ℤ
  -- how many consumers its image is to have
  pub consumers : ℕ
  -- the most bytes of a message that one of them puts together
  pub greatest : ℕ
  pub image : Option Opened
  -- the header of the last frame that met no image since the last tick
  pub unmet : Option Header
  -- the last status message that said where its consumers stand
  pub told : Option LastStatus
  -- the gap that its loss detector watches
  pub watch : Watch
  -- the greatest moment that it has seen
  pub clock : ℕ
  -- how many datagrams it has refused, by their fault, `F1` to `F8`
  pub faults : List ℕ

-- it has met nothing yet
abbrev pub listening : ℤ → ℤ → ℕ → ℤ → ℕ → ℕ → Receiver
listening session stream window id consumers greatest = record {
  session = session;
  stream = stream;
  window = window;
  id = id;
  consumers = consumers;
  greatest = greatest;
  image = None;
  unmet = None;
  told = None;
  watch = record { clock = 0; active = None; deadline = 0 };
  clock = 0;
  faults = none_refused;
}

abbrev pub at_moment : Receiver → ℕ → Receiver
at_moment r now = record r { clock = seen r.clock now }

-- ---- the frames of a datagram

abbrev pub IsOurs : Receiver → ℤ → ℤ → Type 0
IsOurs r session stream = (session ≡ r.session) × (stream ≡ r.stream)

abbrev pub PassesBy : Receiver → Outcome → Receiver → Type 0
PassesBy r out s = (out ≡ outcomes.Other) × (s ≡ r)

-- what holds of its own session and stream; other frames pass it by
abbrev pub IfOurs : Receiver → ℤ → ℤ → Type 0 → Outcome → Receiver → Type 0
IfOurs r session stream Then out s = (IsOurs r session stream × Then) ⊎ ((IsOurs r session stream → ⊥) × PassesBy r out s)

-- without an image it keeps the header, to ask for a SETUP
abbrev pub Misses : Receiver → Header → Outcome → Receiver → Type 0
Misses r h out s = (out ≡ outcomes.Asked) × (s ≡ record r { unmet = Some h })

-- what an image answers to a frame at a position, which may be negative
abbrev pub answer_at : Opened → ℤ → placed.Frame → meaning.Insert
answer_at o p f = meaning.insert_answer_at o.geometry (map meaning.head_of o.image.stored) (least_of o.image.consumers) o.image.window p (placed.is_padding f) (placed.frame_length f)

-- and what it has then
abbrev pub given_at : Opened → ℤ → placed.Frame → Opened
given_at o (pos p) f = record o { image = after_insert o.image (record { at = p; frame = f }) (answer_at o (pos p) f) }
given_at o (negsuc n) f = o

abbrev pub MeetsFrame : Option Opened → Receiver → Header → placed.Frame → Outcome → Receiver → Type 0
MeetsFrame None r h f out s = Misses r h out s
MeetsFrame (Some o) r h f out s =
    (a : Insert) × (out ≡ outcomes.Inserted a) × (meant a ≡ answer_at o (named_by o.geometry h) f) × (s ≡ record r { image = Some (given_at o (named_by o.geometry h) f) })

abbrev pub MeetsHeartbeat : Option Opened → Receiver → Header → Outcome → Receiver → Type 0
MeetsHeartbeat None r h out s = Misses r h out s
MeetsHeartbeat (Some o) r h out s =
    (out ≡ outcomes.Heartbeat) × (s ≡ record r { image = Some (record o { image = after_heartbeat o.geometry o.image (least_of o.image.consumers) (named_by o.geometry h) }) })

abbrev pub OpensImage : Receiver → Setup → Outcome → Receiver → Type 0
OpensImage r f out s =
    (g : Geometry) × (p : ℕ) × OpensAt f r.window g p × (out ≡ outcomes.Opened p)
    × (s ≡ record r { image = Some (record { geometry = g; image = image_at p r.window r.consumers }); unmet = None })

abbrev pub RefusesSetup : Receiver → Setup → Outcome → Receiver → Type 0
RefusesSetup r f out s = (e : SetupError) × HasSetupFault f r.window (fault_of e) × (out ≡ outcomes.SetupRefused e) × (s ≡ r)

abbrev pub MeetsSetup : Option Opened → Receiver → Setup → Outcome → Receiver → Type 0
MeetsSetup None r f out s = OpensImage r f out s ⊎ RefusesSetup r f out s
MeetsSetup (Some o) r f out s = (out ≡ outcomes.Kept) × (s ≡ r)

-- what becomes of one frame, and the receiver after it
abbrev pub Meets : Receiver → Wire → Outcome → Receiver → Type 0
Meets r (DATA h flags payload) out s = IfOurs r h.session h.stream (MeetsFrame r.image r h (placed.Data flags payload) out s) out s
Meets r (PAD h n) out s = IfOurs r h.session h.stream (MeetsFrame r.image r h (placed.Pad n) out s) out s
Meets r (HEARTBEAT h) out s = IfOurs r h.session h.stream (MeetsHeartbeat r.image r h out s) out s
Meets r (NAK f) out s = PassesBy r out s
Meets r (SM asks f) out s = PassesBy r out s
Meets r (SETUP f) out s = IfOurs r f.session f.stream (MeetsSetup r.image r f out s) out s

-- the frames one after the other
abbrev pub MeetsAll : Receiver → List Wire → List Outcome → Receiver → Type 0
MeetsAll r [] outs s = (outs ≡ []) × (s ≡ r)
MeetsAll r (w ∷ ws) outs s = (out : Outcome) × (mid : Receiver) × (rest : List Outcome) × Meets r w out mid × (outs ≡ out ∷ rest) × MeetsAll mid ws rest s

-- a datagram that can be read: each of its frames
abbrev pub MeetsDatagram : Receiver → List ℕ → List Outcome → Receiver → Type 0
MeetsDatagram r bytes outs s = (frames : List Wire) × SpellsDatagram frames bytes × MeetsAll r frames outs s

-- one that can't: its first fault, which is counted in its place
abbrev pub RefusesDatagram : Receiver → List ℕ → List Outcome → Receiver → Type 0
RefusesDatagram r bytes outs s = (fault : FrameError) × IsDatagramFault bytes fault × (outs ≡ outcomes.Refused fault ∷ []) × (s ≡ record r { faults = counted_at (place_of fault) r.faults })

-- a datagram at a moment
abbrev pub TakesDatagram : Receiver → ℕ → List ℕ → List Outcome → Receiver → Type 0
TakesDatagram r now bytes outs s = MeetsDatagram (at_moment r now) bytes outs s ⊎ RefusesDatagram (at_moment r now) bytes outs s

-- a SETUP opens an image only where there is none
abbrev pub WouldOpen : Option Opened → Receiver → Setup → Type 0
WouldOpen None r f = (g : Geometry) × (p : ℕ) × OpensAt f r.window g p
WouldOpen (Some o) r f = ⊥

-- only at a SETUP memory is asked for
abbrev pub IsSetupWire : Wire → Type 0
IsSetupWire (DATA h flags payload) = ⊥
IsSetupWire (PAD h n) = ⊥
IsSetupWire (HEARTBEAT h) = ⊥
IsSetupWire (NAK f) = ⊥
IsSetupWire (SM asks f) = ⊥
IsSetupWire (SETUP f) = ⊤

-- ---- a tick

-- the message that asks for a SETUP
abbrev pub asking : Receiver → List Wire
asking r = map (λ h. asking_at h r.id) (option_to_list r.unmet)

-- the first gap of an image
abbrev pub gap_in : Opened → Option Gap
gap_in o = gap_of o.geometry.term_length o.image.stored o.image.high (contiguous o.image.stored o.image.join o.image.high)

-- what its loss detector makes of that; without an image nothing is scanned
abbrev pub scanned_at : Option Opened → Receiver → Scanned
scanned_at None r = record { watch = r.watch; told = None }
scanned_at (Some o) r = scan r.watch r.clock (gap_in o)

-- the message that asks again for what is missing
abbrev pub missing : Option Opened → Receiver → List Wire
missing None r = []
missing (Some o) r = map (nak_at (record { geometry = o.geometry; session = r.session; stream = r.stream })) (option_to_list (scanned_at (Some o) r).told)

abbrev pub is_due : Receiver → Opened → Bool
is_due r o = is_status_due (option_to_list r.told) r.window (least_of o.image.consumers) r.clock

-- the message that says where its consumers stand
abbrev pub telling : Option Opened → Receiver → List Wire
telling None r = []
telling (Some o) r =
    if is_due r o
    then status_at (record { geometry = o.geometry; session = r.session; stream = r.stream }) (least_of o.image.consumers) r.window r.id ∷ []
    else []

abbrev pub told_after : Option Opened → Receiver → Option LastStatus
told_after None r = r.told
told_after (Some o) r = if is_due r o then Some (record { now = r.clock; position = least_of o.image.consumers }) else r.told

-- what goes out at a tick
abbrev pub replies : Receiver → ℕ → List Wire
replies r now = asking (at_moment r now) ++ missing r.image (at_moment r now) ++ telling r.image (at_moment r now)

abbrev pub ticked : Receiver → ℕ → Receiver
ticked r now = record (at_moment r now) { unmet = None; told = told_after r.image (at_moment r now); watch = (scanned_at r.image (at_moment r now)).watch }

-- the same of the code's
abbrev pub replied : Replies → List Wire
replied out =
    map (λ f. SM 128 (status_of f)) (option_to_list out.asking) ++ map (λ f. NAK (nak_of f)) (option_to_list out.nak) ++ map (λ f. SM 0 (status_of f)) (option_to_list out.status)
