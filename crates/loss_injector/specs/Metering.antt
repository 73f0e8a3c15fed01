-- What a contract sees of a device that counts what frames it is given, and what a datagram makes of its counts.
use Rattle.std.specs.Prelude.{◌≡◌, ℕ, ℤ, ◌+◌, ◌%◌, ◌^◌, ◌+ℤ◌, pos, int_lt, if◌then◌else◌, List, Option, None, Some}
use Rattle.std.specs.Int.{cast_signed, saturate_signed, w32, w64}
use Rattle.theory.specs.Position.{Geometry, position_of}
use Rattle.theory.specs.Wire.{Header, Wire, DATA, PAD, HEARTBEAT, NAK, SM, SETUP}
use Rattle.frames.specs.Fronts.{FrontSpells}

pub record Metering (D : Type 0) : Type 0 where
  pub inner : D
  pub geometry : Geometry
  -- no frame that begins here or further was given yet
  pub furthest : ℤ
  -- how many datagrams it was given for the first time, and again, by the first frame of each
  pub sent : ℕ
  pub resent : ℕ

-- nothing was given yet
abbrev pub metering : {D : Type 0} → D → Geometry → Metering D
metering inner geometry = record { inner = inner; geometry = geometry; furthest = pos 0; sent = 0; resent = 0 }

-- the header of a frame that carries bytes of a stream: a DATA frame or a padding
abbrev pub header_in : Wire → Option Header
header_in (DATA h flags payload) = Some h
header_in (PAD h n) = Some h
header_in (HEARTBEAT h) = None
header_in (NAK f) = None
header_in (SM asks f) = None
header_in (SETUP f) = None

-- where its frame begins
abbrev pub begin_of : Geometry → Header → ℤ
begin_of g h = position_of g h.term_id (cast_signed w32 h.term_offset)

abbrev pub sent_first : {D : Type 0} → Metering D → ℤ → Metering D
sent_first m begin = record m { sent = (m.sent + 1) % 2 ^ 64; furthest = saturate_signed w64 (begin +ℤ pos 1) }

abbrev pub sent_again : {D : Type 0} → Metering D → Metering D
sent_again m = record m { resent = (m.resent + 1) % 2 ^ 64 }

-- behind all that were given it is given for the first time, else again; modulo 2 ^ 64
abbrev pub after_begin : {D : Type 0} → Metering D → ℤ → Metering D
after_begin m begin = if int_lt begin m.furthest then sent_again m else sent_first m begin

abbrev pub after_header : {D : Type 0} → Metering D → Option Header → Metering D
after_header m None = m
after_header m (Some h) = after_begin m (begin_of m.geometry h)

-- a datagram counts by its first frame; any other bytes don't
pub record Meters {D : Type 0} (old : Metering D) (bytes : List ℕ) (new : Metering D) : Type 0 where
  pub frame : (w : Wire) (n : ℕ) → FrontSpells bytes w n → new ≡ after_header old (header_in w)
  pub others : ((w : Wire) (n : ℕ) → FrontSpells bytes w n → ⊥) → new ≡ old
