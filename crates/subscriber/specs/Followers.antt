-- What a subscriber with an image notes of the end of its session's stream.
use Rattle.std.specs.Prelude.{◌≡◌, ◌⊎◌, ◌↔◌, ◌≤◌, ◌||◌, ℕ, ℤ, Bool, false, IsTrue, List, [], ◌∷◌, max, Option, None, Some}
use Rattle.theory.specs.Control.{named_by}
use Rattle.theory.specs.Placed.{Among}
use Rattle.theory.specs.Position.{Geometry}
use Rattle.theory.specs.Wire.{Header, Wire, DATA, PAD, HEARTBEAT, NAK, SM, SETUP, Setup}
use Rattle.frames.specs.Fronts.{FrontSpells}
use Rattle.agents.specs.Parties.{ReceiverHears, ReceiverTicks}
use Rattle.peer.specs.Farewells.{EndsAt}
use Rattle.peer.specs.Setups.{TellsSetup}
use Rattle.peer.specs.declared.farewell.StreamEnd.{StreamEnd}
use Rattle.subscriber.specs.Standing.{lies_above}
use Rattle.subscriber.specs.declared.images.follower.Follower.{Follower}
use Rattle.subscriber.specs.declared.listening.setup_offer.ImageParams.{ImageParams}

-- a datagram tells this end of a session's stream
abbrev pub TellsEnd : ℤ → ℤ → List ℕ → StreamEnd → Type 0
TellsEnd session stream bytes end = (f : Setup) × TellsSetup bytes (Some f) × EndsAt session stream f end

-- one of these datagrams tells this end
pub record IsToldAmong (session stream : ℤ) (heard : List (List ℕ)) (end : StreamEnd) : Type 0 where
  pub bytes : List ℕ
  pub there : Among bytes heard
  pub told : TellsEnd session stream bytes end

-- the greatest of the ends that these datagrams tell, and whether the stream is broken off at one of them
pub record IsGreatest (session stream : ℤ) (heard : List (List ℕ)) (greatest : StreamEnd) : Type 0 where
  pub one : StreamEnd
  pub told : IsToldAmong session stream heard one
  pub here : one.position ≡ greatest.position
  pub most : (end : StreamEnd) → IsToldAmong session stream heard end → end.position ≤ greatest.position
  pub broken : IsTrue greatest.broken ↔ ((end : StreamEnd) × IsToldAmong session stream heard end × IsTrue end.broken)

-- if any of them tells one
abbrev pub IsGreatestEnd : ℤ → ℤ → List (List ℕ) → Option StreamEnd → Type 0
IsGreatestEnd session stream heard None = (end : StreamEnd) → IsToldAmong session stream heard end → ⊥
IsGreatestEnd session stream heard (Some greatest) = IsGreatest session stream heard greatest

-- ---- what shows that a stream is there

-- of this session's stream
pub record IsOwn (session stream : ℤ) (h : Header) : Type 0 where
  pub own_session : h.session ≡ session
  pub own_stream : h.stream ≡ stream

-- the place that a header names by a shape lies above this position
abbrev pub names_above : Geometry → ℕ → Header → Bool
names_above g position h = lies_above (named_by g h) position

-- a DATA frame or a padding of the image's stream, or a heartbeat above the position where the image was joined
abbrev pub IsStreamFrame : ImageParams → ℤ → Wire → Type 0
IsStreamFrame o stream (DATA h flags payload) = IsOwn o.session stream h
IsStreamFrame o stream (PAD h n) = IsOwn o.session stream h
IsStreamFrame o stream (HEARTBEAT h) = IsOwn o.session stream h × IsTrue (names_above o.geometry o.position h)
IsStreamFrame o stream (NAK f) = ⊥
IsStreamFrame o stream (SM asks f) = ⊥
IsStreamFrame o stream (SETUP f) = ⊥

-- a datagram in front of which one stands
pub record BringsStream (o : ImageParams) (stream : ℤ) (bytes : List ℕ) : Type 0 where
  pub frame : Wire
  pub size : ℕ
  pub front : FrontSpells bytes frame size
  pub is : IsStreamFrame o stream frame

-- one of these is such a datagram: the stream was heard
pub record IsHeard (o : ImageParams) (stream : ℤ) (heard : List (List ℕ)) : Type 0 where
  pub bytes : List ℕ
  pub there : Among bytes heard
  pub brings : BringsStream o stream bytes

-- ---- one datagram after the other

-- the greatest end that was told, with this one, and whether the stream is broken off at one of them
abbrev pub with_end : Option StreamEnd → StreamEnd → Option StreamEnd
with_end None end = Some end
with_end (Some before) end = Some (record { position = max before.position end.position; broken = before.broken || end.broken })

-- the end that a SETUP tells of the session's stream is noted, if it tells one
abbrev pub NotesEnd : ℤ → ℤ → Setup → Option StreamEnd → Option StreamEnd → Type 0
NotesEnd session stream f old new =
    ((end : StreamEnd) × EndsAt session stream f end × (new ≡ with_end old end)) ⊎ (((end : StreamEnd) → EndsAt session stream f end → ⊥) × (new ≡ old))

abbrev pub NotesEndIn : ℤ → ℤ → Option Setup → Option StreamEnd → Option StreamEnd → Type 0
NotesEndIn session stream None old new = new ≡ old
NotesEndIn session stream (Some f) old new = NotesEnd session stream f old new

-- the end that a datagram tells, if it tells one
abbrev pub NotesDatagramsEnd : ℤ → ℤ → List ℕ → Option StreamEnd → Option StreamEnd → Type 0
NotesDatagramsEnd session stream bytes old new = (found : Option Setup) × TellsSetup bytes found × NotesEndIn session stream found old new

-- those of these, in their order
abbrev pub NotesEnds : ℤ → ℤ → List (List ℕ) → Option StreamEnd → Option StreamEnd → Type 0
NotesEnds session stream [] old new = new ≡ old
NotesEnds session stream (bytes ∷ heard) old new = (middle : Option StreamEnd) × NotesDatagramsEnd session stream bytes old middle × NotesEnds session stream heard middle new

-- what is noted of one datagram after the other is the greatest end that they tell
abbrev pub NotesGreatestEnds : Type 0
NotesGreatestEnds = (session stream : ℤ) (heard : List (List ℕ)) (end : Option StreamEnd) → NotesEnds session stream heard None end → IsGreatestEnd session stream heard end

-- ---- a party

-- it takes a datagram as its subscriber does, and notes the end that it tells, and that its stream was heard where it brings a frame of that
pub record FollowerHears (f : Follower) (now : ℕ) (bytes : List ℕ) (g : Follower) (given : List (List ℕ)) : Type 0 where
  pub hears : ReceiverHears f.subscriber now bytes g.subscriber given
  pub notes : NotesDatagramsEnd f.opening.session f.stream bytes f.end g.end
  pub heard : IsTrue g.heard ↔ (IsTrue f.heard ⊎ BringsStream f.opening f.stream bytes)
  pub same : g ≡ record f { subscriber = g.subscriber; end = g.end; heard = g.heard }

-- at a moment it gives out what its subscriber does
pub record FollowerTicks (f : Follower) (now : ℕ) (g : Follower) (given : List (List ℕ)) : Type 0 where
  pub ticks : ReceiverTicks f.subscriber now g.subscriber given
  pub same : g ≡ record f { subscriber = g.subscriber }

-- it has noted the ends that these datagrams tell, and whether one of them brings a frame, of the same image's stream
pub record HasNoted (f : Follower) (heard : List (List ℕ)) (g : Follower) : Type 0 where
  pub notes : NotesEnds f.opening.session f.stream heard f.end g.end
  pub hears : IsTrue g.heard ↔ (IsTrue f.heard ⊎ IsHeard f.opening f.stream heard)
  pub opening : g.opening ≡ f.opening
  pub stream : g.stream ≡ f.stream

-- it follows an image that was opened so, of whose stream it has heard nothing yet
pub record IsFresh (f : Follower) (opening : ImageParams) (stream : ℤ) : Type 0 where
  pub own_opening : f.opening ≡ opening
  pub own_stream : f.stream ≡ stream
  pub untold : f.end ≡ None
  pub unheard : f.heard ≡ false
