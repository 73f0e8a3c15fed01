-- A frame as words of eight bytes.
use Rattle.std.specs.Prelude.{ℕ, zero, suc, ◌+◌, ◌/◌, ◌<◌, ◌≤◌, List, [], ◌∷◌, length, drop}
use Rattle.std.specs.List.{AllByRecursion}
use Rattle.std.specs.Int.{w64, from_le_bytes}
use Rattle.theory.specs.Position.{Geometry, aligned}
use Rattle.theory.specs.Placed.{Data, Frame, Pad, frame_length}
use Rattle.theory.specs.Wire.{IsDataFlags, header_bytes}
use Rattle.theory.specs.Bytes.{Identity, bytes_of, header_at}

-- bytes as so many words of eight, little-endian, with zeros behind the last byte
abbrev pub words_in : ℕ → List ℕ → List ℕ
words_in zero bytes = []
words_in (suc n) bytes = from_le_bytes w64 bytes ∷ words_in n (drop 8 bytes)

-- the words that a frame covers, where it begins at this position: its spelling, and the inside of a padding, which is zero
unfoldable pub frame_words : Identity → ℕ → Frame → List ℕ
frame_words i p f = words_in (aligned (frame_length f) / 8) (bytes_of i (record { at = p; frame = f }))

-- those of its header, behind the first one
abbrev pub header_words : Identity → ℕ → List ℕ
header_words i p = words_in 3 (header_bytes (header_at i p))

-- and those of its payload
abbrev pub payload_words : List ℕ → List ℕ
payload_words payload = words_in ((length payload + 7) / 8) payload

-- a message's frame that fits the MTU, or a padding of a term at the most
abbrev pub IsLegal : Geometry → Frame → Type 0
IsLegal g (Data flags payload) = IsDataFlags flags × (32 + length payload ≤ g.mtu) × AllByRecursion (λ b. b < 256) payload
IsLegal g (Pad n) = (32 ≤ n) × (n ≤ g.term_length)
