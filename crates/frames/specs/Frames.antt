-- The frames of the code as frames of the wire.
use Rattle.std.specs.Prelude.{ℕ, Bool, if◌then◌else◌}
use Rattle.theory.specs.Wire as meant
use Rattle.theory.specs.Wire.{Wire, DATA, PAD, HEARTBEAT, NAK, SM, SETUP}
use Rattle.frames.specs.declared.frame.Header.{Header}
use Rattle.frames.specs.declared.frame.Nak.{Nak}
use Rattle.frames.specs.declared.frame.Status.{Status}
use Rattle.frames.specs.declared.frame.Setup.{Setup}
use Rattle.frames.specs.declared.frame.Frame.{Frame}
use Rattle.frames.specs.declared.frame.Frame.TheVariants as kinds

abbrev pub header_of : Header → meant.Header
header_of h = record { term_offset = h.term_offset; session = h.session; stream = h.stream; term_id = h.term_id; reserved = h.reserved }

abbrev pub nak_of : Nak → meant.Nak
nak_of f = record { session = f.session; stream = f.stream; term_id = f.term_id; term_offset = f.term_offset; length = f.length }

abbrev pub status_of : Status → meant.Status
status_of f = record { session = f.session; stream = f.stream; term_id = f.term_id; term_offset = f.term_offset; window = f.window; receiver = f.receiver }

abbrev pub setup_of : Setup → meant.Setup
setup_of f = record { term_offset = f.term_offset; session = f.session; stream = f.stream; initial_term_id = f.initial_term_id; active_term_id = f.active_term_id; term_length = f.term_length; mtu = f.mtu; ttl = f.ttl }

-- the flags of a status message
abbrev pub asks_of : Bool → ℕ
asks_of asks = if asks then 128 else 0

abbrev pub wire : Frame → Wire
wire (kinds.Data header flags payload) = DATA (header_of header) flags payload.now
wire (kinds.Pad header frame_length) = PAD (header_of header) frame_length
wire (kinds.Heartbeat header) = HEARTBEAT (header_of header)
wire (kinds.Nak f) = NAK (nak_of f)
wire (kinds.Status asks f) = SM (asks_of asks) (status_of f)
wire (kinds.Setup f) = SETUP (setup_of f)
