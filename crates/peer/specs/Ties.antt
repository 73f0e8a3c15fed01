-- What a contract sees of a subscriber's socket, and of a device over it that is tied to a peer.
use Rattle.std.specs.Prelude.{◌≡◌, ◌⊎◌, ℕ, zero, suc, ◌+◌, ◌<◌, ◌≤◌, ◌&&◌, nat_eq, ℤ, pos, negsuc, Bool, true, false, List, length, take, min, Option, None, Some, option_map, Result, Ok, Err}
use Rattle.std.specs.Net.Socket.{socket_port}
use Rattle.std.specs.declared.net.SocketAddr.{SocketAddr}
use Rattle.theory.specs.Wire.{SM, Spells, Status, Wire}
use Rattle.frames.specs.Frames.{setup_of}
use Rattle.frames.specs.declared.frame.Setup.{Setup}
use Rattle.endpoint.specs.Devices.{Device, counted, fresh, with_failure, with_none}
use Rattle.endpoint.specs.declared.datagrams.DeviceFailed.{DeviceFailed}
use Rattle.peer.specs.Screening.{is_own, told_position}
use Rattle.peer.specs.Setups.{TellsSetup}
use Rattle.peer.specs.declared.tied.Awaited.{Awaited}
use Rattle.peer.specs.declared.tied.Look.{Look}
use Rattle.peer.specs.declared.tied.Look.TheVariants as looks

-- a datagram that came, and who sent it
pub record Came : Type 0 where
  pub from : SocketAddr
  pub bytes : List ℕ

-- a frame that asks for a SETUP, and who is asked
pub record Asked : Type 0 where
  pub to : SocketAddr
  pub frame : Wire

pub record Listening : Type 0 where
  -- what came when it was last asked for a datagram
  pub came : Option Came
  -- how many frames it was given that ask for a SETUP
  pub asks : ℕ
  -- the last of them
  pub asked : Option Asked
  -- for whom the last datagram was that it was given to send
  pub given : Option SocketAddr

-- nothing came yet, and nothing was given
abbrev pub hearing_anybody : Listening
hearing_anybody = record { came = None; asks = 0; asked = None; given = None }

-- what came is this
abbrev pub with_came : Listening → Option Came → Listening
with_came l came = record l { came = came }

-- it was given a datagram for somebody
abbrev pub giving : Listening → SocketAddr → Listening
giving l to = record l { given = Some to }

-- it was given one that asks
abbrev pub asking : Listening → SocketAddr → Wire → Listening
asking l to frame = record (giving l to) { asks = counted l.asks; asked = Some (record { to = to; frame = frame }) }

-- a SETUP, and who sent it
abbrev pub Offer : Type 0
Offer = Option (SocketAddr × Setup)

abbrev pub sent_by : SocketAddr → Option Setup → Offer
sent_by from None = None
sent_by from (Some f) = Some (from, f)

pub record Tied : Type 0 where
  -- its counts; the system doesn't tell what was carried
  pub device : Device
  -- the one whose datagrams it hands over
  pub peer : SocketAddr
  -- to whom it sends
  pub to : SocketAddr
  -- whose start it waits for: until that is told, what comes from any address of its peer's port is handed over
  pub awaited : Option Awaited
  -- how many datagrams of others it has passed over since a receive found nothing
  pub passed : ℕ
  -- the socket below it
  pub socket : Listening

-- a socket that waits for a start, or for none, is tied to a peer
abbrev pub tied_waiting : Listening → SocketAddr → Option Awaited → Tied
tied_waiting socket peer awaited = record { device = fresh; peer = peer; to = peer; awaited = awaited; passed = 0; socket = socket }

abbrev pub tied_to : Listening → SocketAddr → Tied
tied_to socket peer = tied_waiting socket peer None

-- it is tied to another
abbrev pub with_peer : Tied → SocketAddr → Tied
with_peer t peer = record t { peer = peer; to = peer }

-- ---- who is heard

-- where it waits for a start, one at another address of its peer's port
abbrev pub IsAwaited : Option Awaited → SocketAddr → SocketAddr → Type 0
IsAwaited None peer from = ⊥
IsAwaited (Some w) peer from = socket_port from ≡ socket_port peer

-- its peer, or such a one
abbrev pub Hears : Tied → SocketAddr → Type 0
Hears t from = (from ≡ t.peer) ⊎ IsAwaited t.awaited t.peer from

abbrev pub is_at : ℤ → ℕ → Bool
is_at (pos p) start = nat_eq p start
is_at (negsuc n) start = false

-- a status message is of the stream, and of its start
abbrev pub is_of_start : Awaited → Status → Bool
is_of_start w m = is_own w.sent m.session m.stream && is_at (told_position w.sent m) w.start

-- it tells that, if it doesn't ask for a SETUP
abbrev pub is_start : Awaited → ℕ → Status → Bool
is_start w flags m = nat_eq flags 0 && is_of_start w m

-- a datagram is one
pub record TellsStart (w : Awaited) (bytes : List ℕ) : Type 0 where
  pub flags : ℕ
  pub message : Status
  pub spelled : Spells (SM flags message) bytes
  pub start : is_start w flags message ≡ true

-- who has told the start is its peer, and no other is heard any more; it goes on sending to whom it did
abbrev pub settled : Tied → SocketAddr → Tied
settled t from = record t { peer = from; awaited = None }

pub record SettlesBy (w : Awaited) (old : Tied) (from : SocketAddr) (bytes : List ℕ) (new : Tied) : Type 0 where
  pub told : TellsStart w bytes → new ≡ settled old from
  pub untold : ¬ TellsStart w bytes → new ≡ old

abbrev pub SettlesWhere : Option Awaited → Tied → SocketAddr → List ℕ → Tied → Type 0
SettlesWhere None old from bytes new = new ≡ old
SettlesWhere (Some w) old from bytes new = SettlesBy w old from bytes new

-- what is made of a datagram that is handed over
abbrev pub Settles : Tied → SocketAddr → List ℕ → Tied → Type 0
Settles old from bytes new = SettlesWhere old.awaited old from bytes new

abbrev pub SettlesCame : Tied → Option Came → Tied → Type 0
SettlesCame old None new = new ≡ old
SettlesCame old (Some c) new = Settles old c.from c.bytes new

-- ---- what comes and goes

-- a datagram of another is passed over
abbrev pub with_stranger : Tied → Tied
with_stranger t = record t { passed = t.passed + 1 }

-- a receive found nothing
abbrev pub with_nothing : Tied → Tied
with_nothing t = record t { device = with_none t.device; passed = 0 }

abbrev pub with_fault : Tied → Tied
with_fault t = record t { device = with_failure t.device }

-- its socket has brought this
abbrev pub brought : Tied → Option Came → Tied
brought t came = record t { socket = with_came t.socket came }

-- the first one is kept
abbrev pub first_of : Offer → Offer → Offer
first_of None o = o
first_of (Some first) o = Some first

-- behind a first one the last one is
abbrev pub last_of : Offer → Offer → Offer → Offer
last_of None later o = later
last_of (Some first) later None = later
last_of (Some first) later (Some o) = Some o

-- another's datagram is passed over, where that happened fewer than 256 times since a receive found nothing: it is
-- counted
pub record PassesOne (old new : Tied) : Type 0 where
  pub room : old.passed < 256
  pub from : SocketAddr
  pub bytes : List ℕ
  pub other : ¬ Hears old from
  pub is : new ≡ with_stranger (brought old (Some (record { from = from; bytes = bytes })))

-- so many are, one after the other
abbrev pub PassesMany : ℕ → Tied → Tied → Type 0
PassesMany zero old new = new ≡ old
PassesMany (suc n) old new = (middle : Tied) × PassesMany n old middle × PassesOne middle new

-- it has brought a datagram of one that is heard
pub record BringsPeers (old new : Tied) : Type 0 where
  pub from : SocketAddr
  pub bytes : List ℕ
  pub heard : Hears old from
  pub is : new ≡ brought old (Some (record { from = from; bytes = bytes }))

-- a look at the socket finds a datagram of one that is heard, or passes one of another over, or finds nothing; or it failed
abbrev pub Looks : Tied → Result Look DeviceFailed → Tied → Type 0
Looks old (Ok looks.Peers) new = BringsPeers old new
Looks old (Ok looks.Strangers) new = PassesOne old new
Looks old (Ok looks.Nothing) new = new ≡ brought old None
Looks old (Err e) new = new ≡ brought (with_fault old) None

-- one of those heard was found, or nothing came or so many were passed over; or it failed
abbrev pub EndsSeeking : Tied → Result Bool DeviceFailed → Tied → Type 0
EndsSeeking t (Ok true) new = BringsPeers t new
EndsSeeking t (Ok false) new = (new ≡ brought t None) ⊎ ((256 ≤ t.passed) × (new ≡ t))
EndsSeeking t (Err e) new = new ≡ brought (with_fault t) None

-- it looks until one of those heard is found
pub record Seeks (old : Tied) (result : Result Bool DeviceFailed) (new : Tied) : Type 0 where
  pub count : ℕ
  pub middle : Tied
  pub passes : PassesMany count old middle
  pub ends : EndsSeeking middle result new

-- a datagram was given for the one to whom it sends
abbrev pub sending : Tied → Tied
sending t = record t { socket = giving t.socket t.to }

-- the first bytes of what came stand at the buffer's front
pub record HandsBytes (bytes : List ℕ) (n : ℕ) (buffer : List ℕ) : Type 0 where
  pub size : n ≡ min (length bytes) (length buffer)
  pub front : take n buffer ≡ take n bytes

abbrev pub HandsCame : Option Came → ℕ → List ℕ → Type 0
HandsCame None n buffer = ⊥
HandsCame (Some c) n buffer = HandsBytes c.bytes n buffer

-- what came was of one that is heard
pub record HandsPeers (old : Tied) (n : ℕ) (buffer : List ℕ) (new : Tied) : Type 0 where
  pub from : SocketAddr
  pub bytes : List ℕ
  pub heard : Hears old from
  pub settles : Settles (brought old (Some (record { from = from; bytes = bytes }))) from bytes new
  pub hands : HandsBytes bytes n buffer

-- what came from one that is heard is handed over; or nothing came, or 256 were passed over since a receive found nothing; or it failed
abbrev pub EndsReceive : Tied → Result (Option ℕ) DeviceFailed → List ℕ → Tied → Type 0
EndsReceive t (Ok (Some n)) buffer new = HandsPeers t n buffer new
EndsReceive t (Ok None) buffer new = (new ≡ with_nothing (brought t None)) ⊎ ((256 ≤ t.passed) × (new ≡ with_nothing t))
EndsReceive t (Err e) buffer new = new ≡ brought (with_fault t) None

-- a receive passes over what others have sent, up to a datagram of one that is heard
pub record HandsOver (old : Tied) (result : Result (Option ℕ) DeviceFailed) (buffer : List ℕ) (new : Tied) : Type 0 where
  pub count : ℕ
  pub middle : Tied
  pub passes : PassesMany count old middle
  pub ends : EndsReceive middle result buffer new

-- what was passed over is counted, 256 at the most before a receive finds nothing; nothing but the count and the socket changes
pub record IsPassedOver (count : ℕ) (old new : Tied) : Type 0 where
  pub counted : new.passed ≡ old.passed + count
  pub few : (0 < count) → new.passed ≤ 256
  pub same : new ≡ record old { passed = new.passed; socket = new.socket }

abbrev pub PassingIsBounded : Type 0
PassingIsBounded = (count : ℕ) (old new : Tied) → PassesMany count old new → IsPassedOver count old new
