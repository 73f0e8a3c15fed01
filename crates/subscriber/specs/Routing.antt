-- Whose a datagram is that the socket brought, and where it goes.
use Rattle.std.specs.Prelude.{◌≡◌, ◌⊎◌, ℕ, zero, suc, List, [], ◌∷◌, Option, None, Some, Result}
use Rattle.std.specs.List.{AllByRecursion}
use Rattle.std.specs.declared.net.SocketAddr.{SocketAddr}
use Rattle.endpoint.specs.declared.datagrams.DeviceFailed.{DeviceFailed}
use Rattle.peer.specs.Ties.{Came, sent_by}
use Rattle.subscriber.specs.FirstFrames.{NamesNoOther, TellsFirst, header_first, named_first, setup_first}
use Rattle.subscriber.specs.Hearings.{Routed, with_routed}
use Rattle.subscriber.specs.Losing.{with_device}
use Rattle.subscriber.specs.Offers.{SubscriberDevice, peer_of}
use Rattle.subscriber.specs.Receivings.{Receiving, bringing, calling, keeping}
use Rattle.subscriber.specs.Watches.{Timing, after_call, with_stranger}
use Rattle.subscriber.specs.declared.images.session.Session.{Session}
use Rattle.subscriber.specs.declared.listening.first_frame.FirstFrame.{FirstFrame}

-- a datagram is a session's: its peer sent it, and the frame in front names no other session
pub record IsOf (d : SubscriberDevice) (from : SocketAddr) (first : FirstFrame) : Type 0 where
  pub sender : from ≡ peer_of d
  pub own : NamesNoOther (named_first first) d.session

-- the sessions, the socket, and what was seen
pub record Hearer : Type 0 where
  pub sessions : List Session
  pub socket : Receiving
  pub seen : Timing

-- a datagram is routed to the first session whose it is, and no other changes
abbrev pub GoesToIts : SocketAddr → Routed → List Session → List Session → Type 0
GoesToIts from r [] new = ⊥
GoesToIts from r (j ∷ others) new =
    (IsOf j.duty.device from r.first × (new ≡ with_device j (with_routed j.duty.device r) ∷ others))
    ⊎ ((¬ IsOf j.duty.device from r.first) × ((rest : List Session) × (new ≡ j ∷ rest) × GoesToIts from r others rest))

-- it is nobody's
abbrev pub IsNobodys : SocketAddr → FirstFrame → List Session → Type 0
IsNobodys from first sessions = AllByRecursion (λ (j : Session). ¬ IsOf j.duty.device from first) sessions

-- a SETUP is kept, and who sent a frame of a stream
abbrev pub kept_of : SocketAddr → FirstFrame → Receiving → Receiving
kept_of from first r = calling from (header_first first) (keeping (sent_by from (setup_first first)) r)

-- what is nobody's is counted, and that is kept of it
abbrev pub passed_over : SocketAddr → FirstFrame → Hearer → Hearer
passed_over from first h = record h { socket = kept_of from first h.socket; seen = with_stranger h.seen }

-- that is a session's
pub record IsRoutedTo (c : Came) (first : FirstFrame) (old new : Hearer) : Type 0 where
  pub goes : GoesToIts c.from (record { first = first; bytes = c.bytes }) old.sessions new.sessions
  pub same : new ≡ record old { sessions = new.sessions }

-- of what came, what stands first is read, and by that it goes to its session, or is passed over
pub record RoutesCame (c : Came) (old new : Hearer) : Type 0 where
  pub first : FirstFrame
  pub tells : TellsFirst c.bytes first
  pub goes : IsRoutedTo c first old new ⊎ (IsNobodys c.from first old.sessions × (new ≡ passed_over c.from first old))

abbrev pub Routes : Option Came → Hearer → Hearer → Type 0
Routes None old new = new ≡ old
Routes (Some c) old new = RoutesCame c old new

-- the socket is read once, and what came goes where it belongs
pub record ReadsOne (old new : Hearer) : Type 0 where
  pub answer : Result (Unit {0}) DeviceFailed
  pub came : Option Came
  pub routes : Routes came (record old { socket = bringing old.socket came; seen = after_call answer old.seen }) new

-- so often, one after the other
abbrev pub ReadsMany : ℕ → Hearer → Hearer → Type 0
ReadsMany zero old new = new ≡ old
ReadsMany (suc n) old new = (middle : Hearer) × ReadsMany n old middle × ReadsOne middle new

pub record ReadsSocket (old new : Hearer) : Type 0 where
  pub count : ℕ
  pub reads : ReadsMany count old new
