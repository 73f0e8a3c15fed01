-- Computed rows: the words of frames.
use Rattle.std.proofs.Common.{◌≡◌, [], ◌∷◌, take, refl}
use Rattle.std.specs.Prelude.{pos}
use Rattle.theory.specs.Bytes.{Identity}
use Rattle.theory.specs.Placed.{Data, Pad}
use Rattle.theory.specs.Position.{Geometry}
use Rattle.position.specs.Words.{frame_words}

abbrev shape : Geometry
shape = record { term_length = 65536; mtu = 1408; initial_term_id = pos 7 }

abbrev stream : Identity
stream = record { geometry = shape; session = pos 1; stream = pos 1001 }

-- three bytes at the start
three_bytes : frame_words stream 0 (Data 192 (97 ∷ 98 ∷ 99 ∷ [])) ≡ 0x0001c00000000023 ∷ 0x0000000100000000 ∷ 0x00000007000003e9 ∷ 0 ∷ 0x636261 ∷ 0 ∷ 0 ∷ 0 ∷ []
unfolding frame_words
three_bytes = refl

-- a padding up to the term's end
term_end : take 6 (frame_words stream 57184 (Pad 8352)) ≡ 0x0000c000000020a0 ∷ 0x000000010000df60 ∷ 0x00000007000003e9 ∷ 0 ∷ 0 ∷ 0 ∷ []
unfolding frame_words
term_end = refl
