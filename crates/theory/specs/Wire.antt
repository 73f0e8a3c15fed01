-- Frames and datagrams as bytes: what a frame is, and its one spelling.
-- A padding is 32 bytes on the wire, whatever the length that it names. A datagram has DATA frames and behind them at
-- most one padding, or a single frame of any other kind; nothing stands before, between or behind its frames. Which
-- fault of some bytes comes first isn't said here: that stands beside the error type of who reads them.
use Rattle.std.specs.Prelude.{◌≡◌, ℕ, ◌+◌, ◌-◌, ◌%◌, ◌<◌, ◌≤◌, ◌⊎◌, ⊤, ℤ, List, [], ◌∷◌, ◌++◌, length, replicate, FitsSigned}
use Rattle.std.specs.Int.{w16, w32, w64, cast_unsigned, to_le_bytes}
use Rattle.std.specs.List.{flat_map, AllByRecursion}
use Rattle.theory.specs.Position.{aligned}

-- the fields from byte 8 to byte 31 of a data frame, a padding and a heartbeat
pub record Header : Type 0 where
  pub term_offset : ℕ
  pub session : ℤ
  pub stream : ℤ
  pub term_id : ℤ
  pub reserved : ℤ

-- a negative acknowledgement: the range that is asked for again
pub record Nak : Type 0 where
  pub session : ℤ
  pub stream : ℤ
  pub term_id : ℤ
  pub term_offset : ℤ
  pub length : ℤ

-- a status message: where a receiver's consumer stands, and its window
pub record Status : Type 0 where
  pub session : ℤ
  pub stream : ℤ
  pub term_id : ℤ
  pub term_offset : ℤ
  pub window : ℤ
  pub receiver : ℤ

-- the geometry of a stream and a position of it
pub record Setup : Type 0 where
  pub term_offset : ℤ
  pub session : ℤ
  pub stream : ℤ
  pub initial_term_id : ℤ
  pub active_term_id : ℤ
  pub term_length : ℤ
  pub mtu : ℤ
  pub ttl : ℤ

-- a frame on the wire
pub data Wire : Type 0 where
  DATA : (header : Header) (flags : ℕ) (payload : List ℕ) → Wire
  PAD : (header : Header) (frame_length : ℕ) → Wire
  HEARTBEAT : (header : Header) → Wire
  NAK : (fields : Nak) → Wire
  SM : (asks : ℕ) (fields : Status) → Wire
  SETUP : (fields : Setup) → Wire

-- two's complement, little-endian
abbrev pub le32 : ℤ → List ℕ
le32 z = to_le_bytes w32 (cast_unsigned w32 z)

abbrev pub le64 : ℤ → List ℕ
le64 z = to_le_bytes w64 (cast_unsigned w64 z)

-- frame length, version, flags, type
abbrev pub front : ℕ → ℕ → ℕ → List ℕ
front frame_length flags kind = to_le_bytes w32 frame_length ++ 0 ∷ flags ∷ to_le_bytes w16 kind

abbrev pub header_bytes : Header → List ℕ
header_bytes h = to_le_bytes w32 h.term_offset ++ le32 h.session ++ le32 h.stream ++ le32 h.term_id ++ le64 h.reserved

-- zeros to the next multiple of 32
abbrev pub zeros_after : ℕ → List ℕ
zeros_after n = replicate (aligned n - n) 0

abbrev pub spelling : Wire → List ℕ
spelling (DATA h flags payload) = front (32 + length payload) flags 1 ++ header_bytes h ++ payload ++ zeros_after (32 + length payload)
spelling (PAD h n) = front n 192 0 ++ header_bytes h
spelling (HEARTBEAT h) = front 0 192 1 ++ header_bytes h
spelling (NAK f) = front 28 0 2 ++ le32 f.session ++ le32 f.stream ++ le32 f.term_id ++ le32 f.term_offset ++ le32 f.length
spelling (SM asks f) = front 36 asks 3 ++ le32 f.session ++ le32 f.stream ++ le32 f.term_id ++ le32 f.term_offset ++ le32 f.window ++ le64 f.receiver
spelling (SETUP f) = front 40 0 5 ++ le32 f.term_offset ++ le32 f.session ++ le32 f.stream ++ le32 f.initial_term_id ++ le32 f.active_term_id ++ le32 f.term_length ++ le32 f.mtu ++ le32 f.ttl

pub record IsHeader (h : Header) : Type 0 where
  pub unit : h.term_offset % 32 ≡ 0
  pub low : h.term_offset ≤ 16777216
  pub session : FitsSigned w32 h.session
  pub stream : FitsSigned w32 h.stream
  pub term_id : FitsSigned w32 h.term_id
  pub reserved : FitsSigned w64 h.reserved

abbrev pub IsNak : Nak → Type 0
IsNak f = FitsSigned w32 f.session × FitsSigned w32 f.stream × FitsSigned w32 f.term_id × FitsSigned w32 f.term_offset × FitsSigned w32 f.length

abbrev pub IsStatus : Status → Type 0
IsStatus f = FitsSigned w32 f.session × FitsSigned w32 f.stream × FitsSigned w32 f.term_id × FitsSigned w32 f.term_offset × FitsSigned w32 f.window × FitsSigned w64 f.receiver

abbrev pub IsSetup : Setup → Type 0
IsSetup f = FitsSigned w32 f.term_offset × FitsSigned w32 f.session × FitsSigned w32 f.stream × FitsSigned w32 f.initial_term_id × FitsSigned w32 f.active_term_id × FitsSigned w32 f.term_length × FitsSigned w32 f.mtu × FitsSigned w32 f.ttl

abbrev pub IsDataFlags : ℕ → Type 0
IsDataFlags flags = (flags ≡ 0) ⊎ ((flags ≡ 64) ⊎ ((flags ≡ 128) ⊎ (flags ≡ 192)))

-- the values of the table
abbrev pub IsFrame : Wire → Type 0
IsFrame (DATA h flags payload) = IsHeader h × IsDataFlags flags × (32 + length payload ≤ 65504) × (h.term_offset + aligned (32 + length payload) ≤ 16777216) × AllByRecursion (λ b. b < 256) payload
IsFrame (PAD h n) = IsHeader h × (32 ≤ n) × (h.term_offset + aligned n ≤ 16777216)
IsFrame (HEARTBEAT h) = IsHeader h
IsFrame (NAK f) = IsNak f
IsFrame (SM asks f) = ((asks ≡ 0) ⊎ (asks ≡ 128)) × IsStatus f
IsFrame (SETUP f) = IsSetup f

-- the frame has this spelling
abbrev pub Spells : Wire → List ℕ → Type 0
Spells w bytes = IsFrame w × (bytes ≡ spelling w)

-- what may stand behind a data frame
abbrev pub MayFollow : List Wire → Type 0
MayFollow [] = ⊤
MayFollow (DATA h flags payload ∷ ws) = MayFollow ws
MayFollow (PAD h n ∷ []) = ⊤
MayFollow (PAD h n ∷ w ∷ ws) = ⊥
MayFollow (HEARTBEAT h ∷ ws) = ⊥
MayFollow (NAK f ∷ ws) = ⊥
MayFollow (SM asks f ∷ ws) = ⊥
MayFollow (SETUP f ∷ ws) = ⊥

abbrev pub StandTogether : List Wire → Type 0
StandTogether [] = ⊥
StandTogether (DATA h flags payload ∷ ws) = MayFollow ws
StandTogether (PAD h n ∷ ws) = ws ≡ []
StandTogether (HEARTBEAT h ∷ ws) = ws ≡ []
StandTogether (NAK f ∷ ws) = ws ≡ []
StandTogether (SM asks f ∷ ws) = ws ≡ []
StandTogether (SETUP f ∷ ws) = ws ≡ []

abbrev pub SpellsDatagram : List Wire → List ℕ → Type 0
SpellsDatagram ws bytes = StandTogether ws × AllByRecursion IsFrame ws × (bytes ≡ flat_map spelling ws)

-- a spelling is of one frame, and begins no other
abbrev pub HasOneSpelling : Type 0
HasOneSpelling = (a b : Wire) (x y : List ℕ) → IsFrame a → IsFrame b → spelling a ++ x ≡ spelling b ++ y → (a ≡ b) × (x ≡ y)
