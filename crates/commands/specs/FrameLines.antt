-- The lines that frames are printed as.
use Rattle.std.specs.Prelude.{ℕ, ◌+◌, List, [], ◌∷◌, ◌++◌, length, codes, decimal}
use Rattle.std.specs.Fmt.{signed_decimal}
use Rattle.std.specs.List.{flat_map}
use Rattle.text.specs.Digits.{hexadecimal, two_digits}
use Rattle.theory.specs.Wire.{Wire, Header, Nak, Status, Setup, DATA, PAD, HEARTBEAT, NAK, SM, SETUP}

-- texts one after the other
abbrev pub joined : List (List ℕ) → List ℕ
joined [] = []
joined (text ∷ []) = text
joined (text ∷ next ∷ texts) = text ++ joined (next ∷ texts)

abbrev pub header_text : Header → List ℕ
header_text h = joined (
    codes "term=" ∷ signed_decimal h.term_id ∷ codes " offset=" ∷ decimal h.term_offset ∷ codes " session=" ∷ signed_decimal h.session
    ∷ codes " stream=" ∷ signed_decimal h.stream ∷ codes " reserved=" ∷ signed_decimal h.reserved ∷ [])

abbrev pub nak_text : Nak → List ℕ
nak_text f = joined (
    codes "session=" ∷ signed_decimal f.session ∷ codes " stream=" ∷ signed_decimal f.stream ∷ codes " term=" ∷ signed_decimal f.term_id
    ∷ codes " offset=" ∷ signed_decimal f.term_offset ∷ codes " length=" ∷ signed_decimal f.length ∷ [])

abbrev pub status_text : Status → List ℕ
status_text f = joined (
    codes "session=" ∷ signed_decimal f.session ∷ codes " stream=" ∷ signed_decimal f.stream ∷ codes " term=" ∷ signed_decimal f.term_id
    ∷ codes " offset=" ∷ signed_decimal f.term_offset ∷ codes " window=" ∷ signed_decimal f.window ∷ codes " receiver=" ∷ signed_decimal f.receiver ∷ [])

abbrev pub setup_lengths_text : Setup → List ℕ
setup_lengths_text f = joined (
    codes "offset=" ∷ signed_decimal f.term_offset ∷ codes " term-length=" ∷ signed_decimal f.term_length ∷ codes " mtu=" ∷ signed_decimal f.mtu
    ∷ codes " ttl=" ∷ signed_decimal f.ttl ∷ [])

abbrev pub setup_text : Setup → List ℕ
setup_text f = joined (
    codes "session=" ∷ signed_decimal f.session ∷ codes " stream=" ∷ signed_decimal f.stream ∷ codes " initial=" ∷ signed_decimal f.initial_term_id
    ∷ codes " active=" ∷ signed_decimal f.active_term_id ∷ codes " " ∷ setup_lengths_text f ∷ [])

-- A frame's line. A DATA frame's length counts its header of 32 bytes.
abbrev pub frame_line : Wire → List ℕ
frame_line (DATA h flags payload) = joined (
    codes "DATA flags=" ∷ two_digits flags ∷ codes " " ∷ header_text h ∷ codes " length=" ∷ decimal (32 + length payload)
    ∷ codes " payload=" ∷ hexadecimal payload ∷ [])
frame_line (PAD h n) = joined (codes "PAD " ∷ header_text h ∷ codes " length=" ∷ decimal n ∷ [])
frame_line (HEARTBEAT h) = codes "HEARTBEAT " ++ header_text h
frame_line (NAK f) = codes "NAK " ++ nak_text f
frame_line (SM asks f) = joined (codes "SM flags=" ∷ two_digits asks ∷ codes " " ∷ status_text f ∷ [])
frame_line (SETUP f) = codes "SETUP " ++ setup_text f

-- the lines of frames, each ended by a line feed
abbrev pub frame_lines : List Wire → List ℕ
frame_lines frames = flat_map (λ frame. frame_line frame ++ 10 ∷ []) frames
