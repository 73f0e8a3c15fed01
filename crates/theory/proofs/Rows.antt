-- Definitions at worked examples: term length 65536, MTU 1408, first term 7, session 1, stream 1001.
use Rattle.std.specs.Prelude.{◌≡◌, ℕ, ◌+◌, ◌-◌, pos, negsuc, true, false, List, [], ◌∷◌, replicate, None}
use Rattle.std.proofs.Common.{refl}
use Rattle.theory.specs.Position.{Geometry, cuts_of, span, framed_length, id_of, position_of, max_message}
use Rattle.theory.specs.Wire.{HEARTBEAT, SETUP, spelling}
use Rattle.theory.specs.Control.{nak_at}
use Rattle.theory.specs.Placed.{Data, Pad, Placed}
use Rattle.theory.specs.Entry.{flags_of}
use Rattle.theory.specs.Bytes.{Identity, bytes_of, header_at}
use Rattle.theory.specs.Assembly.{nothing_heard, after_all}
use Rattle.theory.specs.FlowLimit.{flow_limit}
use Rattle.theory.specs.Resend.{nak_answer, OutOfRange, Taken, Lingering, NotAFrameStart}
use Rattle.theory.specs.Datagrams.{grouped}
use Rattle.theory.specs.Words.{tail_word, fresh_tails, greatest_shown}

abbrev pub the_geometry : Geometry
the_geometry = record { term_length = 65536; mtu = 1408; initial_term_id = pos 7 }

abbrev pub identity : Identity
identity = record { geometry = the_geometry; session = pos 1; stream = pos 1001 }

abbrev pub frame_of : ℕ → ℕ → Placed
frame_of p n = record { at = p; frame = Data 192 (replicate (n - 32) 0) }

abbrev pub pad_of : ℕ → ℕ → Placed
pad_of p n = record { at = p; frame = Pad n }

-- the message abc at 0
abbrev pub abc : List ℕ
abc = 97 ∷ 98 ∷ 99 ∷ []

abbrev abc_bytes : List ℕ
abc_bytes = 0x23 ∷ 0 ∷ 0 ∷ 0 ∷ 0 ∷ 0xc0 ∷ 1 ∷ 0 ∷ 0 ∷ 0 ∷ 0 ∷ 0 ∷ 1 ∷ 0 ∷ 0 ∷ 0 ∷ 0xe9 ∷ 3 ∷ 0 ∷ 0 ∷ 7 ∷ 0 ∷ 0 ∷ 0 ∷ 0 ∷ 0 ∷ 0 ∷ 0 ∷ 0 ∷ 0 ∷ 0 ∷ 0 ∷ 97 ∷ 98 ∷ 99 ∷ replicate 29 0

one_message : bytes_of identity (record { at = 0; frame = Data 192 abc }) ≡ abc_bytes
one_message = refl

-- a message of 3000 bytes
three_frames : cuts_of the_geometry 3000 ≡ 1408 ∷ 1408 ∷ 280 ∷ []
three_frames = refl

three_lengths : framed_length the_geometry 3000 ≡ 3104
three_lengths = refl

three_spans : span (cuts_of the_geometry 3000) ≡ 3104
three_spans = refl

three_flags : (flags_of true (1408 ∷ 280 ∷ []) ∷ flags_of false (280 ∷ []) ∷ flags_of false [] ∷ []) ≡ 0x80 ∷ 0 ∷ 0x40 ∷ []
three_flags = refl

-- the greatest message
greatest : max_message the_geometry ≡ 8192
greatest = refl

greatest_span : span (cuts_of the_geometry 8192) ≡ 8384
greatest_span = refl

padding_bytes : bytes_of identity (pad_of 57184 8352) ≡ 0xa0 ∷ 0x20 ∷ 0 ∷ 0 ∷ 0 ∷ 0xc0 ∷ 0 ∷ 0 ∷ 0x60 ∷ 0xdf ∷ 0 ∷ 0 ∷ 1 ∷ 0 ∷ 0 ∷ 0 ∷ 0xe9 ∷ 3 ∷ 0 ∷ 0 ∷ 7 ∷ 0 ∷ 0 ∷ 0 ∷ 0 ∷ 0 ∷ 0 ∷ 0 ∷ 0 ∷ 0 ∷ 0 ∷ 0 ∷ []
padding_bytes = refl

-- ids wrap
wrapped_id : id_of (record { term_length = 65536; mtu = 1408; initial_term_id = pos 2147483647 }) 1 ≡ negsuc 2147483647
wrapped_id = refl

wrapped_position : position_of (record { term_length = 65536; mtu = 1408; initial_term_id = pos 2147483647 }) (negsuc 2147483647) (pos 0) ≡ pos 65536
wrapped_position = refl

-- the negative acknowledgement of a gap
nak_bytes : spelling (nak_at identity (record { start = 64; length = 64 })) ≡ 0x1c ∷ 0 ∷ 0 ∷ 0 ∷ 0 ∷ 0 ∷ 2 ∷ 0 ∷ 1 ∷ 0 ∷ 0 ∷ 0 ∷ 0xe9 ∷ 3 ∷ 0 ∷ 0 ∷ 7 ∷ 0 ∷ 0 ∷ 0 ∷ 0x40 ∷ 0 ∷ 0 ∷ 0 ∷ 0x40 ∷ 0 ∷ 0 ∷ 0 ∷ []
nak_bytes = refl

-- negative acknowledgements to a sender at 131072
nak_answers : ((nak_answer the_geometry 0 131072 (frame_of 81920 64 ∷ []) [] (pos 81888) (pos 64)) ∷ (nak_answer the_geometry 0 131072 (frame_of 81920 64 ∷ []) [] (pos 81920) (pos 64)) ∷ (nak_answer the_geometry 0 131072 (frame_of 81920 64 ∷ []) (record { at = 81920; length = 64; lingers = false; until = 0 } ∷ []) (pos 81920) (pos 64)) ∷ (nak_answer the_geometry 0 131072 (frame_of 81920 64 ∷ []) [] (pos 81952) (pos 64)) ∷ []) ≡ (OutOfRange ∷ Taken ∷ Lingering ∷ NotAFrameStart ∷ [])
nak_answers = refl

-- the flow limit, newest first
limits : ((flow_limit 0 (record { position = pos 0; window = pos 32768 } ∷ [])) ∷ (flow_limit 0 (record { position = pos 0; window = pos 1408 } ∷ record { position = pos 0; window = pos 32768 } ∷ [])) ∷ (flow_limit 0 (record { position = pos 4096; window = pos 32768 } ∷ record { position = pos 0; window = pos 1408 } ∷ record { position = pos 0; window = pos 32768 } ∷ [])) ∷ []) ≡ (32768 ∷ 32768 ∷ 36864 ∷ [])
limits = refl

lowest_window : flow_limit 36864 (record { position = pos 0; window = negsuc 2147483647 } ∷ []) ≡ 36864
lowest_window = refl

-- an assembler
assembled : after_all nothing_heard (Data 64 (1 ∷ []) ∷ Data 128 (0x61 ∷ 0x62 ∷ []) ∷ Data 192 (0x63 ∷ []) ∷ []) ≡ record { begun = None; given = (0x63 ∷ []) ∷ [] }
assembled = refl

-- further vectors
setup_bytes : spelling (SETUP (record { term_offset = pos 0; session = pos 1; stream = pos 1001; initial_term_id = pos 7; active_term_id = pos 7; term_length = pos 65536; mtu = pos 1408; ttl = pos 0 })) ≡ 0x28 ∷ 0 ∷ 0 ∷ 0 ∷ 0 ∷ 0 ∷ 5 ∷ 0 ∷ 0 ∷ 0 ∷ 0 ∷ 0 ∷ 1 ∷ 0 ∷ 0 ∷ 0 ∷ 0xe9 ∷ 3 ∷ 0 ∷ 0 ∷ 7 ∷ 0 ∷ 0 ∷ 0 ∷ 7 ∷ 0 ∷ 0 ∷ 0 ∷ 0 ∷ 0 ∷ 1 ∷ 0 ∷ 0x80 ∷ 5 ∷ 0 ∷ 0 ∷ 0 ∷ 0 ∷ 0 ∷ 0 ∷ []
setup_bytes = refl

-- the datagrams of abc, a padding and an empty message
datagrams : grouped the_geometry (record { at = 0; frame = Data 192 abc } ∷ pad_of 64 132 ∷ frame_of 224 32 ∷ []) ≡ (record { at = 0; frame = Data 192 abc } ∷ pad_of 64 132 ∷ []) ∷ (frame_of 224 32 ∷ []) ∷ []
datagrams = refl

-- the empty message, and the greatest one up to the term's end
empty_message : span (cuts_of the_geometry 0) ≡ 32
empty_message = refl

beat_bytes : spelling (HEARTBEAT (header_at identity 64)) ≡ 0 ∷ 0 ∷ 0 ∷ 0 ∷ 0 ∷ 0xc0 ∷ 1 ∷ 0 ∷ 0x40 ∷ 0 ∷ 0 ∷ 0 ∷ 1 ∷ 0 ∷ 0 ∷ 0 ∷ 0xe9 ∷ 3 ∷ 0 ∷ 0 ∷ 7 ∷ 0 ∷ 0 ∷ 0 ∷ 0 ∷ 0 ∷ 0 ∷ 0 ∷ 0 ∷ 0 ∷ 0 ∷ 0 ∷ []
beat_bytes = refl

-- the words
fresh : fresh_tails the_geometry 0 0 ≡ record { zero_th = 0x0000000700000000; first = 0x0000000500000000; second = 0x0000000600000000; active = 0 }
fresh = refl

-- of a log that opens in its second term or its third
later_fresh : (fresh_tails the_geometry 1 64 ∷ fresh_tails the_geometry 2 64 ∷ []) ≡ (record { zero_th = 0x0000000700000000; first = 0x0000000800000040; second = 0x0000000600000000; active = 1 } ∷ record { zero_th = 0x0000000700000000; first = 0x0000000800000000; second = 0x0000000900000040; active = 2 } ∷ [])
later_fresh = refl

tripped_words : greatest_shown the_geometry (record { zero_th = 0x0000000700010020; first = 0x0000000800000000; second = 0x0000000600000000; active = 1 }) ≡ pos 65536
tripped_words = refl

fresh_shown : greatest_shown the_geometry (fresh_tails the_geometry 0 64) ≡ pos 64
fresh_shown = refl

last_shown : greatest_shown the_geometry (fresh_tails the_geometry 2147483647 65472) ≡ pos 140737488355264
last_shown = refl

-- the tail word behind abc in a fresh log, and the words that a trip and a rotation leave
tail_words : (tail_word (pos 7) 64 ∷ tail_word (pos 7) (57184 + 8384) ∷ tail_word (pos 8) 0 ∷ []) ≡ (0x0000000700000040 ∷ 0x0000000700010020 ∷ 0x0000000800000000 ∷ [])
tail_words = refl
