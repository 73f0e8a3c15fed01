-- What a datagram is to a subscriber, and the subscriber that meets a SETUP.
use Rattle.std.specs.Prelude.{◌≡◌, ◌≤◌, ⊤, ℕ, ℤ, pos, negsuc, List, Option, None, Some}
use Rattle.std.specs.Int.{w64, cast_signed, cast_unsigned}
use Rattle.std.specs.Prelude.{◌+◌, ◌%◌, ◌^◌}
use Rattle.theory.specs.Setup.{OpensAt}
use Rattle.theory.specs.Wire.{Wire, Header, DATA, PAD, HEARTBEAT, NAK, SM, SETUP, Setup, spelling}
use Rattle.frames.specs.Fronts.{FrontSpells}
use Rattle.peer.specs.Farewells.{TellsEnd}
use Rattle.peer.specs.declared.farewell.StreamEnd.{StreamEnd}
use Rattle.receiver.specs.Receiving.{Receiver, TakesDatagram, listening}
use Rattle.receiver.specs.Subscribing.{RepresentsSubscriber, Subscribing}
use Rattle.receiver.specs.declared.receiver_core.Outcome.{Outcome}
use Rattle.options.specs.declared.ends.plans.SubscribePlan.{SubscribePlan}
use Rattle.subscriber.specs.Windows.{window_of}
use Rattle.subscriber.specs.declared.listening.setup_offer.ImageParams.{ImageParams}

-- ---- what a datagram says

-- the header of a DATA frame, a padding or a heartbeat
abbrev pub header_told : Wire → Option Header
header_told (DATA h flags payload) = Some h
header_told (PAD h n) = Some h
header_told (HEARTBEAT h) = Some h
header_told (NAK f) = None
header_told (SM asks f) = None
header_told (SETUP f) = None

-- the header of the frame at a datagram's front
pub record TellsHeader (bytes : List ℕ) (found : Option Header) : Type 0 where
  pub frame : (w : Wire) (n : ℕ) → FrontSpells bytes w n → found ≡ header_told w
  pub others : ((w : Wire) (n : ℕ) → FrontSpells bytes w n → ⊥) → found ≡ None

-- ---- what a plan takes

-- a session that was named, or any
abbrev pub TakesSession : Option ℤ → ℤ → Type 0
TakesSession None session = ⊤
TakesSession (Some named) session = session ≡ named

-- a number of bytes, 0 for a negative one
abbrev pub bytes_of : ℤ → ℕ
bytes_of (pos n) = n
bytes_of (negsuc n) = 0

-- a SETUP tells no end of its stream
abbrev pub IsOngoing : Setup → Type 0
IsOngoing f = (end : StreamEnd) → TellsEnd f.session f.stream (SETUP f) end → ⊥

-- a session that the plan takes, its stream, and terms that aren't too long; and the stream goes on
pub record Admits (plan : SubscribePlan) (f : Setup) : Type 0 where
  pub session : TakesSession plan.session f.session
  pub stream : f.stream ≡ plan.end.stream
  pub short : bytes_of f.term_length ≤ plan.greatest_term
  pub ongoing : IsOngoing f

-- the window of an image that a SETUP opens as one of so many
abbrev pub window_in : ℕ → Setup → ℕ
window_in share f = window_of share (bytes_of f.term_length) (bytes_of f.mtu)

-- a SETUP opens an image of this session and shape for a plan, at this position
pub record Opens (plan : SubscribePlan) (f : Setup) (o : ImageParams) : Type 0 where
  pub admitted : Admits plan f
  pub session : o.session ≡ f.session
  pub at : OpensAt f (window_in 1 f) o.geometry o.position

abbrev pub OpensNothing : SubscribePlan → Setup → Type 0
OpensNothing plan f = (o : ImageParams) → Opens plan f o → ⊥

-- ---- a subscriber that meets a SETUP

-- the receiver id of the image with this number, from 0: each image has one of its own
abbrev pub id_of : SubscribePlan → ℕ → ℤ
id_of plan number = cast_signed w64 ((cast_unsigned w64 plan.receiver + number) % 2 ^ 64)

-- a receiver that has met nothing
abbrev pub invited : SubscribePlan → ℕ → ℕ → Setup → Receiver
invited plan number share f = listening f.session f.stream (window_in share f) (id_of plan number) 1 2097152

-- it has met this SETUP at a moment, as one of so many
pub record HasMet (plan : SubscribePlan) (number share : ℕ) (f : Setup) (moment : ℕ) (s : Subscribing) : Type 0 where
  pub receiver : Receiver
  pub outcomes : List Outcome
  pub takes : TakesDatagram (invited plan number share f) moment (spelling (SETUP f)) outcomes receiver
  pub shown : RepresentsSubscriber s receiver
