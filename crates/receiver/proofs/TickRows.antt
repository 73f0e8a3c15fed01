-- What a receiver asks for and tells at its ticks, at worked examples.
use Rattle.std.specs.Prelude.{◌≡◌, ℕ, pos, List, [], ◌∷◌, map, None, Some}
use Rattle.std.proofs.Common.{refl}
use Rattle.theory.specs.Position.{Geometry}
use Rattle.theory.specs.Bytes.{Identity}
use Rattle.theory.specs.Wire.{Header, Wire, spelling}
use Rattle.theory.specs.Consumer.{consumer_at}
use Rattle.theory.specs.Control.{asking_at, nak_at, status_at}
use Rattle.theory.specs.Image.{after_heartbeat, image_at}
use Rattle.theory.proofs.Rows.{frame_of}
use Rattle.receiver.specs.Receiving.{Receiver, gap_in, listening, replies, ticked}

abbrev the_geometry : Geometry
the_geometry = record { term_length = 65536; mtu = 1408; initial_term_id = pos 7 }

abbrev met : Header
met = record { term_offset = 64; session = pos 1; stream = pos 1001; term_id = pos 7; reserved = pos 0 }

abbrev unmet : Receiver
unmet = record (listening (pos 1) (pos 1001) 32768 (pos 3) 1 8192) { unmet = Some met }

-- it asks once for the place of the frame that it met
asks : replies unmet 5 ≡ asking_at met (pos 3) ∷ []
asks = refl

asks_once : (replies (ticked unmet 5) 6 ∷ replies (ticked unmet 5) 1000000000 ∷ []) ≡ [] ∷ [] ∷ []
asks_once = refl

-- an image's first tick tells, at the greatest moment that was seen; then 200 ms later, or where the least consumer has moved by a quarter of the window
abbrev seated : Receiver
seated = record (listening (pos 1) (pos 1001) 32768 (pos 3) 1 8192) { image = Some (record { geometry = the_geometry; image = image_at 64 32768 1 }); clock = 9 }

abbrev told : Receiver
told = ticked seated 4

abbrev further : ℕ → Receiver
further p = record told { image = Some (record { geometry = the_geometry; image = record (image_at 64 32768 1) { consumers = consumer_at p ∷ [] } }) }

its_moment : told.told ≡ Some (record { now = 9; position = 64 })
its_moment = refl

tells : (replies seated 4 ∷ replies told 200000008 ∷ replies told 200000009 ∷ replies (further 8224) 10 ∷ replies (further 8256) 10 ∷ []) ≡
    (status_at (record { geometry = the_geometry; session = pos 1; stream = pos 1001 }) 64 32768 (pos 3) ∷ []) ∷ [] ∷ (status_at (record { geometry = the_geometry; session = pos 1; stream = pos 1001 }) 64 32768 (pos 3) ∷ []) ∷ [] ∷ (status_at (record { geometry = the_geometry; session = pos 1; stream = pos 1001 }) 8256 32768 (pos 3) ∷ []) ∷ []
tells = refl

-- ---- an image from 0 with [0, 64) and [128, 192), whose consumer has been told of

abbrev the_identity : Identity
the_identity = record { geometry = the_geometry; session = pos 1; stream = pos 1001 }

abbrev gapped : Receiver
gapped = record (listening (pos 1) (pos 1001) 32768 (pos 3) 1 8192) { image = Some (record { geometry = the_geometry; image = record (image_at 0 32768 1) { stored = frame_of 128 64 ∷ frame_of 0 64 ∷ []; high = 192 } }); told = Some (record { now = 0; position = 0 }) }

-- what goes out at one tick after the other
abbrev sent : Receiver → List ℕ → List (List Wire)
sent r [] = []
sent r (now ∷ later) = replies r now ∷ sent (ticked r now) later

abbrev the_nak : Wire
the_nak = nak_at the_identity (record { start = 64; length = 64 })

-- its gap is asked for a millisecond after it was first seen, and then each millisecond
asks_again : sent gapped (0 ∷ 999999 ∷ 1000000 ∷ 1999999 ∷ 2000000 ∷ []) ≡ [] ∷ [] ∷ (the_nak ∷ []) ∷ [] ∷ (the_nak ∷ []) ∷ []
asks_again = refl

nak_bytes : map spelling (replies (ticked gapped 0) 1000000) ≡ (0x1c ∷ 0 ∷ 0 ∷ 0 ∷ 0 ∷ 0 ∷ 2 ∷ 0 ∷ 1 ∷ 0 ∷ 0 ∷ 0 ∷ 0xe9 ∷ 3 ∷ 0 ∷ 0 ∷ 7 ∷ 0 ∷ 0 ∷ 0 ∷ 0x40 ∷ 0 ∷ 0 ∷ 0 ∷ 0x40 ∷ 0 ∷ 0 ∷ 0 ∷ []) ∷ []
nak_bytes = refl

-- before the status message, where that is due too; without an image nothing is scanned
in_order : (sent gapped (0 ∷ 200000000 ∷ []) ∷ sent (record gapped { image = None }) (0 ∷ 200000000 ∷ []) ∷ []) ≡ ([] ∷ (the_nak ∷ status_at the_identity 0 32768 (pos 3) ∷ []) ∷ []) ∷ ([] ∷ [] ∷ []) ∷ []
in_order = refl

-- a gap below the position of a heartbeat
beaten : gap_in (record { geometry = the_geometry; image = after_heartbeat the_geometry (record (image_at 0 32768 1) { stored = frame_of 0 64 ∷ []; high = 64 }) 0 (pos 128) }) ≡ Some (record { start = 64; length = 64 })
beaten = refl
