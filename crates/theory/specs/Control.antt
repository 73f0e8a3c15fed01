-- The frames by which a sender and a receiver tell each other where they stand.
use Rattle.std.specs.Prelude.{ℕ, ℤ, pos}
use Rattle.theory.specs.Position.{Geometry, id_of, place_of, position_of}
use Rattle.theory.specs.Wire.{HEARTBEAT, Header, NAK, SETUP, SM, Setup, Wire}
use Rattle.theory.specs.Bytes.{Identity, header_at}
use Rattle.theory.specs.Gap.{Gap}

abbrev pub setup_fields : Identity → ℕ → Setup
setup_fields i p = record {
  term_offset = pos (place_of i.geometry p).offset;
  session = i.session;
  stream = i.stream;
  initial_term_id = i.geometry.initial_term_id;
  active_term_id = id_of i.geometry (place_of i.geometry p).count;
  term_length = pos i.geometry.term_length;
  mtu = pos i.geometry.mtu;
  ttl = pos 0;
}

-- the SETUP of a sender at this position
abbrev pub setup_at : Identity → ℕ → Wire
setup_at i p = SETUP (setup_fields i p)

-- the heartbeat of a sender at this position
abbrev pub heartbeat_at : Identity → ℕ → Wire
heartbeat_at i p = HEARTBEAT (header_at i p)

-- the negative acknowledgement that asks for a gap
abbrev pub nak_at : Identity → Gap → Wire
nak_at i gap = NAK (record {
  session = i.session;
  stream = i.stream;
  term_id = id_of i.geometry (place_of i.geometry gap.start).count;
  term_offset = pos (place_of i.geometry gap.start).offset;
  length = pos gap.length;
})

-- the status message of a receiver whose least consumer stands here
abbrev pub status_at : Identity → ℕ → ℕ → ℤ → Wire
status_at i p window receiver = SM 0 (record {
  session = i.session;
  stream = i.stream;
  term_id = id_of i.geometry (place_of i.geometry p).count;
  term_offset = pos (place_of i.geometry p).offset;
  window = pos window;
  receiver = receiver;
})

-- a receiver without an image asks for a SETUP: with the place of the last frame that it met
abbrev pub asking_at : Header → ℤ → Wire
asking_at h receiver = SM 128 (record { session = h.session; stream = h.stream; term_id = h.term_id; term_offset = pos h.term_offset; window = pos 0; receiver = receiver })

-- the position that a header names
abbrev pub named_by : Geometry → Header → ℤ
named_by g h = position_of g h.term_id (pos h.term_offset)
