-- Cycles at worked moments.
use Rattle.std.specs.Prelude.{◌≡◌, ℕ, Bool, true, false, List, [], ◌∷◌, Some}
use Rattle.std.proofs.Common.{refl}
use Rattle.theory.specs.Placed.{Placed}
use Rattle.theory.specs.Bytes.{wire_at}
use Rattle.theory.specs.Control.{heartbeat_at, setup_at}
use Rattle.theory.proofs.Rows.{frame_of, identity, pad_of, the_geometry}
use Rattle.sender.specs.Resending.Handler.{fresh}
use Rattle.sender.specs.Cycling.{Cycle, is_heard, sent_wires}
use Rattle.sender.specs.Sending.{Sending, is_beat_due, all_noted}

-- a sender that sent something last at 7
abbrev sender : ℕ → Bool → Sending ℕ ℕ
sender clock heard = record { identity = identity; reads = 0; flow = 0; naming = record { clock = 0; last = Some 0; heard = heard }; heard = heard; handler = fresh the_geometry 0; last = Some 7; clock = clock }

abbrev cycle : Bool → List (List Placed) → List (List Placed) → Bool → Cycle
cycle setup new again beat = record { setup = setup; fresh = new; again = again; beat = beat }

-- a tenth of a second after that, if a status message has come and nothing else goes out
beats :
    (is_beat_due (sender 100000006 true) (cycle false [] [] false)
    ∷ is_beat_due (sender 100000007 true) (cycle false [] [] false)
    ∷ is_beat_due (sender 100000007 false) (cycle false [] [] false)
    ∷ is_beat_due (sender 100000007 true) (cycle true [] [] false)
    ∷ is_beat_due (sender 100000007 true) (cycle false ((frame_of 0 32 ∷ []) ∷ []) [] false)
    ∷ is_beat_due (sender 100000007 true) (cycle false [] ((frame_of 0 32 ∷ []) ∷ []) false) ∷ []) ≡ (false ∷ true ∷ false ∷ false ∷ false ∷ false ∷ [])
beats = refl

-- a SETUP alone doesn't count as sent
counts : (is_heard (cycle true [] [] false) ∷ is_heard (cycle false [] [] true) ∷ is_heard (cycle true ((frame_of 0 32 ∷ []) ∷ []) [] false) ∷ is_heard (cycle false [] [] false) ∷ []) ≡ (false ∷ true ∷ true ∷ false ∷ [])
counts = refl

-- the SETUP names where the sender stood, the heartbeat where it stands
goes_out : sent_wires identity 64 96 (cycle true ((frame_of 64 32 ∷ []) ∷ []) [] true) ≡ (setup_at identity 64 ∷ []) ∷ (wire_at identity 64 (frame_of 64 32).frame ∷ []) ∷ (heartbeat_at identity 96 ∷ []) ∷ []
goes_out = refl

-- frames can be asked for again until the sender is more than three quarters of a term further
starts : ((all_noted (fresh the_geometry 0) (frame_of 0 64 ∷ frame_of 64 32 ∷ [])).starts ∷ (all_noted (fresh the_geometry 0) (frame_of 0 64 ∷ frame_of 64 32 ∷ pad_of 96 49088 ∷ [])).starts ∷ []) ≡ ((0 ∷ 64 ∷ []) ∷ (64 ∷ 96 ∷ []) ∷ [])
starts = refl
