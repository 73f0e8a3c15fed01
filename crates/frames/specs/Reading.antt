-- Reading from the front: a frame and the bytes that it takes, or a fault.
use Rattle.std.specs.Prelude.{◌≡◌, ℕ, ◌+◌, ◌%◌, List, length, not, ◌||◌, nat_lt, ◌==◌, if◌then◌else◌, slice_index, slice_range, Result, Ok, Err}
use Rattle.theory.specs.Position.{aligned}
use Rattle.theory.specs.Wire as meant
use Rattle.theory.specs.Wire.{Wire, DATA, PAD, HEARTBEAT, NAK, SM, SETUP}
use Rattle.frames.specs.declared.fault.FrameError.{FrameError}
use Rattle.frames.specs.declared.fault.FrameError.TheVariants.{Short, Version, Kind, Length, Flags, Alignment, Range}
use Rattle.frames.specs.declared.frame.Frame.{Frame}
use Rattle.frames.specs.Frames.{wire}
use Rattle.frames.specs.Fields.{u16_at, u32_at, i32_at, i64_at}
use Rattle.frames.specs.Order.{is_data_flags, is_padded}

-- what a function returned is what reading gives
abbrev pub ReturnsReading : Result (Frame × ℕ) FrameError → Result (Wire × ℕ) FrameError → Type 0
ReturnsReading (Ok found) read = read ≡ Ok (wire found.0, found.1)
ReturnsReading (Err fault) read = read ≡ Err fault

unfoldable pub header_at : List ℕ → meant.Header
header_at bytes = record { term_offset = u32_at bytes 8; session = i32_at bytes 12; stream = i32_at bytes 16; term_id = i32_at bytes 20; reserved = i64_at bytes 24 }

unfoldable pub nak_fields : List ℕ → meant.Nak
nak_fields bytes = record { session = i32_at bytes 8; stream = i32_at bytes 12; term_id = i32_at bytes 16; term_offset = i32_at bytes 20; length = i32_at bytes 24 }

unfoldable pub status_fields : List ℕ → meant.Status
status_fields bytes = record { session = i32_at bytes 8; stream = i32_at bytes 12; term_id = i32_at bytes 16; term_offset = i32_at bytes 20; window = i32_at bytes 24; receiver = i64_at bytes 28 }

unfoldable pub setup_fields : List ℕ → meant.Setup
setup_fields bytes = record { term_offset = i32_at bytes 8; session = i32_at bytes 12; stream = i32_at bytes 16; initial_term_id = i32_at bytes 20; active_term_id = i32_at bytes 24; term_length = i32_at bytes 28; mtu = i32_at bytes 32; ttl = i32_at bytes 36 }

-- each reader has the front of 8 bytes before it, and the version and the type are judged
unfoldable pub nak_at : List ℕ → Result (Wire × ℕ) FrameError
nak_at bytes =
    if nat_lt (length bytes) 28 then Err Short else (
    if not (u32_at bytes 0 == 28) then Err Length else (
    if not (slice_index bytes 5 == 0) then Err Flags else
    Ok (NAK (nak_fields bytes), 28)))

unfoldable pub status_at : List ℕ → Result (Wire × ℕ) FrameError
status_at bytes =
    if nat_lt (length bytes) 36 then Err Short else (
    if not (u32_at bytes 0 == 36) then Err Length else (
    if not (slice_index bytes 5 == 0 || slice_index bytes 5 == 128) then Err Flags else
    Ok (SM (slice_index bytes 5) (status_fields bytes), 36)))

unfoldable pub setup_at : List ℕ → Result (Wire × ℕ) FrameError
setup_at bytes =
    if nat_lt (length bytes) 40 then Err Short else (
    if not (u32_at bytes 0 == 40) then Err Length else (
    if not (slice_index bytes 5 == 0) then Err Flags else
    Ok (SETUP (setup_fields bytes), 40)))

unfoldable pub pad_at : List ℕ → Result (Wire × ℕ) FrameError
pad_at bytes =
    if nat_lt (length bytes) 32 then Err Short else (
    if nat_lt (u32_at bytes 0) 32 || nat_lt 16777216 (u32_at bytes 0) then Err Length else (
    if not (slice_index bytes 5 == 192) then Err Flags else (
    if not (u32_at bytes 8 % 32 == 0) then Err Alignment else (
    if nat_lt 16777216 (u32_at bytes 8 + aligned (u32_at bytes 0)) then Err Range else
    Ok (PAD (header_at bytes) (u32_at bytes 0), 32)))))

-- the header's 32 bytes are there, and the frame length is 0
unfoldable pub heartbeat_at : List ℕ → Result (Wire × ℕ) FrameError
heartbeat_at bytes =
    if not (slice_index bytes 5 == 192) then Err Flags else (
    if not (u32_at bytes 8 % 32 == 0) then Err Alignment else (
    if nat_lt 16777216 (u32_at bytes 8) then Err Range else
    Ok (HEARTBEAT (header_at bytes), 32)))

-- the header's 32 bytes are there, and the frame length is n, from 32 to 65,504
unfoldable pub data_at : List ℕ → ℕ → Result (Wire × ℕ) FrameError
data_at bytes n =
    if not (is_data_flags (slice_index bytes 5)) then Err Flags else (
    if nat_lt (length bytes) (aligned n) then Err Short else (
    if not (u32_at bytes 8 % 32 == 0) then Err Alignment else (
    if not (is_padded bytes n) then Err Alignment else (
    if nat_lt 16777216 (u32_at bytes 8 + aligned n) then Err Range else
    Ok (DATA (header_at bytes) (slice_index bytes 5) (slice_range bytes 32 n), aligned n)))))

unfoldable pub data_or_heartbeat_at : List ℕ → Result (Wire × ℕ) FrameError
data_or_heartbeat_at bytes =
    if nat_lt (length bytes) 32 then Err Short else (
    if u32_at bytes 0 == 0 then heartbeat_at bytes else (
    if nat_lt (u32_at bytes 0) 32 || nat_lt 65504 (u32_at bytes 0) then Err Length else
    data_at bytes (u32_at bytes 0)))

unfoldable pub kind_at : List ℕ → ℕ → Result (Wire × ℕ) FrameError
kind_at bytes kind =
    if kind == 0 then pad_at bytes else (
    if kind == 1 then data_or_heartbeat_at bytes else (
    if kind == 2 then nak_at bytes else (
    if kind == 3 then status_at bytes else (
    if kind == 5 then setup_at bytes else
    Err Kind))))

unfoldable pub reading : List ℕ → Result (Wire × ℕ) FrameError
reading bytes =
    if nat_lt (length bytes) 8 then Err Short else (
    if not (slice_index bytes 4 == 0) then Err Version else
    kind_at bytes (u16_at bytes 6))
