-- The bytes of committed frames, and the byte at a position.
-- Where no committed frame covers a position it is `Undefined`; inside a padding, behind its header, it is `Empty`.
use Rattle.std.specs.Prelude.{ℕ, ◌-◌, ℤ, pos, Bool, ◌&&◌, List, [], ◌∷◌, nat_le, nat_lt, if◌then◌else◌, slice_get, Option, None, Some, FitsSigned}
use Rattle.std.specs.Int.{w32}
use Rattle.theory.specs.Position.{Geometry, id_of, place_of}
use Rattle.theory.specs.Wire.{DATA, Header, PAD, Wire, spelling}
use Rattle.theory.specs.Placed.{Data, Frame, Pad, Placed, end_of}
use Rattle.theory.specs.Entry.{Entry, committed}

pub record Identity : Type 0 where
  pub geometry : Geometry
  pub session : ℤ
  pub stream : ℤ

pub record IsIdentity (i : Identity) : Type 0 where
  pub session : FitsSigned w32 i.session
  pub stream : FitsSigned w32 i.stream

abbrev pub header_at : Identity → ℕ → Header
header_at i p = record {
  term_offset = (place_of i.geometry p).offset;
  session = i.session;
  stream = i.stream;
  term_id = id_of i.geometry (place_of i.geometry p).count;
  reserved = pos 0;
}

abbrev pub wire_at : Identity → ℕ → Frame → Wire
wire_at i p (Data flags payload) = DATA (header_at i p) flags payload
wire_at i p (Pad n) = PAD (header_at i p) n

-- the bytes of a committed frame
abbrev pub bytes_of : Identity → Placed → List ℕ
bytes_of i s = spelling (wire_at i s.at s.frame)

-- what stands at a position
pub data Cell : Type 0 where
  Undefined : Cell
  Empty : Cell
  Byte : (byte : ℕ) → Cell

abbrev pub cell_of : Option ℕ → Cell
cell_of None = Empty
cell_of (Some b) = Byte b

abbrev pub covers : Placed → ℕ → Bool
covers s p = nat_le s.at p && nat_lt p (end_of s)

abbrev pub cell_in : Identity → List Placed → ℕ → Cell
cell_in i [] p = Undefined
cell_in i (s ∷ ss) p = if covers s p then cell_of (slice_get (bytes_of i s) (p - s.at)) else cell_in i ss p

-- the byte at a position of the log
abbrev pub byte_at : Identity → List Entry → ℕ → Cell
byte_at i es p = cell_in i (committed es) p
