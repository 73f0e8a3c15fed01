-- Deadlines at worked moments, and what the tables and bounds refuse.
use Rattle.std.specs.Prelude.{◌≡◌, ℕ, ◌-◌, ◌%◌, ◌^◌, pos, true, false, List, [], ◌∷◌}
use Rattle.std.proofs.Common.{⊎_elim, ◌<◌, refl, arith, sym, ap, ◌∙◌}
use Rattle.theory.specs.Position.{count_of, IsTermLength}
use Rattle.theory.specs.Wire.{Header, Setup, DATA, PAD, HEARTBEAT, NAK, StandTogether, SM, spelling}
use Rattle.theory.specs.Wire
use Rattle.theory.specs.Setup.{NamesPosition}
use Rattle.theory.specs.Timing.{deadline, seen, is_setup_due, is_heartbeat_due, is_status_due, LastStatus}
use Rattle.theory.specs.Resend.{Action, nak_answer, Full, Taken, Lingering}
use Rattle.theory.proofs.Rows.{the_geometry, frame_of}

setups : (is_setup_due [] true 5 ∷ is_setup_due (0 ∷ []) false 99999999 ∷ is_setup_due (0 ∷ []) false 100000000 ∷ is_setup_due (0 ∷ []) true 100000000 ∷ []) ≡ (true ∷ false ∷ true ∷ false ∷ [])
setups = refl

heartbeats : (is_heartbeat_due [] false 0 ∷ is_heartbeat_due [] true 0 ∷ is_heartbeat_due (7 ∷ []) true 100000006 ∷ is_heartbeat_due (7 ∷ []) true 100000007 ∷ []) ≡ (false ∷ true ∷ false ∷ true ∷ [])
heartbeats = refl

abbrev first : LastStatus
first = record { now = 0; position = 64 }

statuses : (is_status_due [] 32768 0 0 ∷ is_status_due (first ∷ []) 32768 8255 199999999 ∷ is_status_due (first ∷ []) 32768 8256 1 ∷ is_status_due (first ∷ []) 32768 64 200000000 ∷ []) ≡ (true ∷ false ∷ true ∷ true ∷ [])
statuses = refl

-- no deadline lies beyond the greatest moment, and time doesn't go back
ends : (deadline (2 ^ 64 - 1) 100000000 ∷ deadline 5 7 ∷ seen 9 4 ∷ seen 4 9 ∷ []) ≡ ((2 ^ 64 - 1) ∷ 12 ∷ 9 ∷ 9 ∷ [])
ends = refl

-- ---- sixteen actions are kept, and no more

abbrev action : ℕ → Action
action p = record { at = p; length = 64; lingers = false; until = 0 }

abbrev fifteen : List Action
fifteen = action 1 ∷ action 2 ∷ action 3 ∷ action 4 ∷ action 5 ∷ action 6 ∷ action 7 ∷ action 8 ∷ action 9 ∷ action 10 ∷ action 11 ∷ action 12 ∷ action 13 ∷ action 14 ∷ action 15 ∷ []

fullness :
    (nak_answer the_geometry 0 131072 (frame_of 81920 64 ∷ []) fifteen (pos 81920) (pos 64)
    ∷ nak_answer the_geometry 0 131072 (frame_of 81920 64 ∷ []) (action 16 ∷ fifteen) (pos 81920) (pos 64)
    ∷ nak_answer the_geometry 0 131072 (frame_of 81920 64 ∷ []) (action 81920 ∷ fifteen) (pos 81920) (pos 64) ∷ []) ≡ (Taken ∷ Full ∷ Lingering ∷ [])
fullness = refl

-- ---- what may not stand in a datagram

nothing_alone : StandTogether [] → ⊥
nothing_alone h = h

no_beat_behind : (h k : Header) (p : List ℕ) → StandTogether (DATA h 192 p ∷ HEARTBEAT k ∷ []) → ⊥
no_beat_behind h k p x = x

no_data_behind_pad : (h k : Header) (p : List ℕ) → StandTogether (DATA h 192 p ∷ PAD h 64 ∷ DATA k 192 p ∷ []) → ⊥
no_data_behind_pad h k p x = x

no_two_naks : (f k : Wire.Nak) → StandTogether (NAK f ∷ NAK k ∷ []) → ⊥
no_two_naks f k x = absurd (cc)

-- a term of 65537 bytes is none
no_odd_term : IsTermLength 16777217 → ⊥
no_odd_term t = absurd (omega (arith, t.greatest))

-- an offset of half a unit is no position
no_half_unit : (f : Setup) → f.term_offset ≡ pos 33 → (p : ℕ) → NamesPosition f the_geometry p → ⊥
no_half_unit f e p n = let same : pos n.offset ≡ pos 33 = sym n.placed ∙ e in let is : n.offset ≡ 33 = cc in let unit : n.offset % 32 ≡ 0 = n.unit in absurd (omega arith)

-- the offset that is a term's length is a position in the last term alone
no_whole_offset : (f : Setup) → f.term_offset ≡ pos 65536 → f.active_term_id ≡ pos 7 → (p : ℕ) → NamesPosition f the_geometry p → ⊥
no_whole_offset f e a p n =
    let same : pos n.offset ≡ pos 65536 = sym n.placed ∙ e in
    let is : n.offset ≡ 65536 = cc in
    let counted : pos n.count ≡ pos 0 = sym n.counted ∙ ap (count_of the_geometry) a in
    let first : n.count ≡ 0 = cc in
    ⊎_elim (λ (l : n.offset < 65536). absurd (omega arith)) (λ (l : (n.offset ≡ 65536) × (n.count ≡ 2147483647)). absurd (omega (arith, l.1))) n.inside
