-- How a publisher announces where its stream ends: by a SETUP of that position whose time to live no sender writes. It is -1 where all was
-- sent that was to be sent, and -2 where the stream is broken off there.
use Rattle.std.specs.Prelude.{◌≡◌, ◌≤◌, ℕ, ℤ, Bool, true, false, List, pos, negsuc, min}
use Rattle.theory.specs.Bytes.{Identity}
use Rattle.theory.specs.Control.{setup_fields}
use Rattle.theory.specs.Position.{Geometry, IsGeometry, max_position, position_of}
use Rattle.theory.specs.Setup.{NamesGeometry}
use Rattle.theory.specs.Wire.{Wire, DATA, PAD, HEARTBEAT, NAK, SM, SETUP, Setup, Spells}
use Rattle.peer.specs.declared.farewell.StreamEnd.{StreamEnd}

-- the time to live that announces an end, or an end at which the stream is broken off
abbrev pub ttl_of : Bool → ℤ
ttl_of false = negsuc 0
ttl_of true = negsuc 1

-- the sender's SETUP at the position where the stream ends, but for the time to live
abbrev pub farewell_fields : Identity → StreamEnd → Setup
farewell_fields s end = record (setup_fields s end.position) { ttl = ttl_of end.broken }

-- where a stream ends that was accepted up to here: no stream goes further than its last position
abbrev pub end_of : Identity → StreamEnd → StreamEnd
end_of s end = record end { position = min end.position (max_position s.geometry) }

-- the datagram that tells that a stream ends here
pub record SpellsFarewell (s : Identity) (end : StreamEnd) (bytes : List ℕ) : Type 0 where
  pub shape : IsGeometry s.geometry
  pub within : end.position ≤ max_position s.geometry
  pub spells : Spells (SETUP (farewell_fields s end)) bytes

-- it tells an end of this session's stream, perhaps one at which that is broken off
pub record IsFarewell (session stream : ℤ) (broken : Bool) (f : Setup) : Type 0 where
  pub own_session : f.session ≡ session
  pub own_stream : f.stream ≡ stream
  pub told : f.ttl ≡ ttl_of broken

-- and that is the position that it names by the shape that it names
pub record EndsAt (session stream : ℤ) (f : Setup) (end : StreamEnd) : Type 0 where
  pub farewell : IsFarewell session stream end.broken f
  pub shape : Geometry
  pub named : NamesGeometry f shape
  pub here : position_of shape f.active_term_id f.term_offset ≡ pos end.position

-- only a SETUP tells one
abbrev pub TellsEnd : ℤ → ℤ → Wire → StreamEnd → Type 0
TellsEnd session stream (DATA h flags payload) end = ⊥
TellsEnd session stream (PAD h n) end = ⊥
TellsEnd session stream (HEARTBEAT h) end = ⊥
TellsEnd session stream (NAK f) end = ⊥
TellsEnd session stream (SM asks f) end = ⊥
TellsEnd session stream (SETUP f) end = EndsAt session stream f end

-- the farewell of a stream tells that stream's end, and no other
pub record TellsItsEnd (s : Identity) (end : StreamEnd) : Type 0 where
  pub told : TellsEnd s.session s.stream (SETUP (farewell_fields s end)) end
  pub only : (other : StreamEnd) → TellsEnd s.session s.stream (SETUP (farewell_fields s end)) other → other ≡ end

-- that of any stream, at any position that it can come to
abbrev pub FarewellsTellEnds : Type 0
FarewellsTellEnds = (s : Identity) (end : StreamEnd) → IsGeometry s.geometry → end.position ≤ max_position s.geometry → TellsItsEnd s end
