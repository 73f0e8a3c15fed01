-- The tests on bytes, in their order, and the first fault that they find.
use Rattle.std.specs.Prelude.{ℕ, ◌+◌, ◌%◌, List, [], ◌∷◌, length, Bool, not, ◌&&◌, ◌||◌, nat_lt, ◌==◌, if◌then◌else◌, slice_index, slice_range, Option, Some, None}
use Rattle.std.specs.List.{list_all}
use Rattle.theory.specs.Position.{aligned}
use Rattle.frames.specs.declared.fault.FrameError.{FrameError}
use Rattle.frames.specs.declared.fault.FrameError.TheVariants.{Short, Version, Kind, Length, Flags, Alignment, Range}
use Rattle.frames.specs.Fields.{u16_at, u32_at}

-- the types of the table: padding 0, DATA and heartbeat 1, NAK 2, status message 3, SETUP 5
abbrev pub is_kind : ℕ → Bool
is_kind kind = kind == 0 || kind == 1 || kind == 2 || kind == 3 || kind == 5

-- the bytes of the type's header
abbrev pub header_size : ℕ → ℕ
header_size kind = if kind == 2 then 28 else (if kind == 3 then 36 else (if kind == 5 then 40 else 32))

-- the padding, the DATA frame and the heartbeat have a term offset
abbrev pub has_offset : ℕ → Bool
has_offset kind = kind == 0 || kind == 1

abbrev pub is_within : ℕ → ℕ → ℕ → Bool
is_within least greatest n = not (nat_lt n least || nat_lt greatest n)

-- the frame lengths of the table; 0 is the heartbeat's
abbrev pub has_length : ℕ → ℕ → Bool
has_length kind n =
    if kind == 0 then is_within 32 16777216 n else (
    if kind == 1 then n == 0 || is_within 32 65504 n else
    n == header_size kind)

abbrev pub is_data_flags : ℕ → Bool
is_data_flags flags = flags == 0 || flags == 64 || flags == 128 || flags == 192

-- the flags of the table
abbrev pub has_flags : ℕ → ℕ → ℕ → Bool
has_flags kind n flags =
    if kind == 0 then flags == 192 else (
    if kind == 1 then (if n == 0 then flags == 192 else is_data_flags flags) else (
    if kind == 3 then flags == 0 || flags == 128 else
    flags == 0))

-- the bytes from a frame's end to the next multiple of 32 are zero
abbrev pub is_padded : List ℕ → ℕ → Bool
is_padded bytes n = list_all (λ b. b == 0) (slice_range bytes n (aligned n))

-- the tests, each true where it finds its fault
abbrev pub tests : List ℕ → ℕ → ℕ → ℕ → ℕ → ℕ → List (Bool × FrameError)
tests bytes version kind n flags offset =
    (nat_lt (length bytes) 8, Short)
    ∷ (not (version == 0), Version)
    ∷ (not (is_kind kind), Kind)
    ∷ (nat_lt (length bytes) (header_size kind), Short)
    ∷ (not (has_length kind n), Length)
    ∷ (not (has_flags kind n flags), Flags)
    ∷ (kind == 1 && nat_lt (length bytes) (aligned n), Short)
    ∷ ((has_offset kind && not (offset % 32 == 0)) || (kind == 1 && not (is_padded bytes n)), Alignment)
    ∷ (has_offset kind && nat_lt 16777216 (offset + aligned n), Range)
    ∷ []

abbrev pub first : List (Bool × FrameError) → Option FrameError
first [] = None
first (test ∷ others) = if test.0 then Some test.1 else first others

-- the first fault of a frame at the front of the bytes, if there is one
unfoldable pub first_fault : List ℕ → Option FrameError
first_fault bytes = first (tests bytes (slice_index bytes 4) (u16_at bytes 6) (u32_at bytes 0) (slice_index bytes 5) (u32_at bytes 8))
