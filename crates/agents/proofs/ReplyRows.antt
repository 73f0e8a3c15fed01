-- What goes out besides frames of the log, as bytes, at worked examples: term length 65536, MTU 1408, first term 7, session 1, stream 1001.
use Rattle.std.specs.Prelude.{◌≡◌, pos, [], ◌∷◌}
use Rattle.std.proofs.Common.{refl}
use Rattle.theory.specs.Control.{asking_at, heartbeat_at, status_at}
use Rattle.theory.specs.Wire.{Header, spelling}
use Rattle.theory.proofs.Rows.{identity}

-- a heartbeat of position 65600: term 8, offset 64, and no length
heartbeat : spelling (heartbeat_at identity 65600) ≡ 0 ∷ 0 ∷ 0 ∷ 0 ∷ 0 ∷ 0xc0 ∷ 1 ∷ 0 ∷ 64 ∷ 0 ∷ 0 ∷ 0 ∷ 1 ∷ 0 ∷ 0 ∷ 0 ∷ 0xe9 ∷ 3 ∷ 0 ∷ 0 ∷ 8 ∷ 0 ∷ 0 ∷ 0 ∷ 0 ∷ 0 ∷ 0 ∷ 0 ∷ 0 ∷ 0 ∷ 0 ∷ 0 ∷ []
heartbeat = refl

-- a frame of term 8 at offset 64 that met no image
abbrev met : Header
met = record { term_offset = 64; session = pos 1; stream = pos 1001; term_id = pos 8; reserved = pos 5 }

-- receiver 3 asks for a SETUP: flag 80, the frame's place, and no window
asking : spelling (asking_at met (pos 3)) ≡ 36 ∷ 0 ∷ 0 ∷ 0 ∷ 0 ∷ 0x80 ∷ 3 ∷ 0 ∷ 1 ∷ 0 ∷ 0 ∷ 0 ∷ 0xe9 ∷ 3 ∷ 0 ∷ 0 ∷ 8 ∷ 0 ∷ 0 ∷ 0 ∷ 64 ∷ 0 ∷ 0 ∷ 0 ∷ 0 ∷ 0 ∷ 0 ∷ 0 ∷ 3 ∷ 0 ∷ 0 ∷ 0 ∷ 0 ∷ 0 ∷ 0 ∷ 0 ∷ []
asking = refl

-- and tells its place and a window of 32768
telling : spelling (status_at identity 65600 32768 (pos 3)) ≡ 36 ∷ 0 ∷ 0 ∷ 0 ∷ 0 ∷ 0 ∷ 3 ∷ 0 ∷ 1 ∷ 0 ∷ 0 ∷ 0 ∷ 0xe9 ∷ 3 ∷ 0 ∷ 0 ∷ 8 ∷ 0 ∷ 0 ∷ 0 ∷ 64 ∷ 0 ∷ 0 ∷ 0 ∷ 0 ∷ 0x80 ∷ 0 ∷ 0 ∷ 3 ∷ 0 ∷ 0 ∷ 0 ∷ 0 ∷ 0 ∷ 0 ∷ 0 ∷ []
telling = refl
