-- Messages that aren't of one receiver from the start to the tail.
use Rattle.std.proofs.Common.{◌≡◌, ◌⊎◌, pos, negsuc, ◌≤◌, [], ◌∷◌, None, Some, ℕ, ℤ, true, false, refl, inl, inr, sym, ◌∙◌, ⊎_elim, arith}
use Rattle.theory.specs.Bytes.{Identity}
use Rattle.theory.specs.Wire.{NAK, SM, Nak, Status}
use Rattle.peer.specs.Endings.{IsOneFromStart, is_silent, patience}
use Rattle.peer.specs.Attending.{after_all, newcomer, nobody}
use Rattle.peer.specs.Farewells.{farewell_fields}
use Rattle.peer.specs.Screening.{verdict_of}
use Rattle.peer.specs.declared.farewell.StreamEnd.{StreamEnd}
use Rattle.peer.specs.Watching.{Watched, after_frame, behind_of, due_of, new_watch, screened, screened_of, told, told_by, with_told}
use Rattle.peer.specs.declared.screen.Bounds.{Bounds}
use Rattle.peer.specs.declared.screen.Verdict.TheVariants.{Passes, Tells, Disbelieved, Held, Misses, LeftBehind, Unanswered}

-- one that told 0 and then 64
whole : IsOneFromStart 0 64 ((pos 1, 0) ∷ (pos 1, 64) ∷ [])
whole = record { receiver = pos 1; one = (refl, (refl, tt)); start_told = refl; tail_told = inr (inl (omega arith)) }

joined_late : IsOneFromStart 0 64 ((pos 1, 32) ∷ (pos 1, 64) ∷ []) → ⊥
joined_late h = let told : 32 ≡ 0 = h.start_told in absurd (omega (arith, told))

left_early : IsOneFromStart 0 64 ((pos 1, 0) ∷ (pos 1, 32) ∷ []) → ⊥
left_early h = ⊎_elim (λ (first : 64 ≤ 0). absurd (omega (arith, first))) (λ (rest : (64 ≤ 32) ⊎ ⊥). ⊎_elim (λ (second : 64 ≤ 32). absurd (omega (arith, second))) (λ (none : ⊥). none) rest) h.tail_told

two_came : IsOneFromStart 0 64 ((pos 1, 0) ∷ (pos 2, 64) ∷ []) → ⊥
two_came h = let other : pos 1 ≡ pos 2 = h.one.0 ∙ sym h.one.1.0 in absurd (grind (arith, other))

nobody_came : IsOneFromStart 0 0 [] → ⊥
nobody_came h = h.start_told

-- ---- for how long is waited: for the first status message, and for a further one

waits_for_the_first : patience None 15 60 ≡ 60
waits_for_the_first = refl

lingers_for_more : patience (Some (newcomer (pos 1) 0)) 15 60 ≡ 15
lingers_for_more = refl

waits_still : is_silent (nobody 0) (Some 59) 15 60 ≡ false
waits_still = refl

gives_up_waiting : is_silent (nobody 0) (Some 60) 15 60 ≡ true
gives_up_waiting = refl

lingers_still : is_silent (after_all (nobody 0) ((pos 1, 0) ∷ [])) (Some 14) 15 60 ≡ false
lingers_still = refl

gives_up_lingering : is_silent (after_all (nobody 0) ((pos 1, 0) ∷ [])) (Some 15) 15 60 ≡ true
gives_up_lingering = refl

-- ---- what is believed of a stream of which 64 bytes were sent

abbrev stream : Identity
stream = record { geometry = record { term_length = 65536; mtu = 1408; initial_term_id = pos 7 }; session = pos 1; stream = pos 1001 }

abbrev sent : Bounds
sent = record { sent_to = 64; asked = None }

abbrev telling : ℤ → ℤ → ℤ → ℤ → Status
telling session number offset window = record { session = session; stream = number; term_id = pos 7; term_offset = offset; window = window; receiver = pos 9 }

what_was_sent_tells : verdict_of stream sent (SM 0 (telling (pos 1) (pos 1001) (pos 64) (pos 128))) ≡ Tells (pos 9) 64
what_was_sent_tells = refl

more_is_disbelieved : verdict_of stream sent (SM 0 (telling (pos 1) (pos 1001) (pos 96) (pos 128))) ≡ Disbelieved
more_is_disbelieved = refl

half_a_term_tells : verdict_of stream sent (SM 0 (telling (pos 1) (pos 1001) (pos 64) (pos 32768))) ≡ Tells (pos 9) 64
half_a_term_tells = refl

one_byte_more_is_disbelieved : verdict_of stream sent (SM 0 (telling (pos 1) (pos 1001) (pos 64) (pos 32769))) ≡ Disbelieved
one_byte_more_is_disbelieved = refl

another_session_passes : verdict_of stream sent (SM 0 (telling (pos 2) (pos 1001) (pos 96) (pos 32769))) ≡ Passes
another_session_passes = refl

another_stream_passes : verdict_of stream sent (SM 0 (telling (pos 1) (pos 1002) (pos 96) (pos 32769))) ≡ Passes
another_stream_passes = refl

-- ---- what waits: those of the cycle have asked for half a term

abbrev missing : ℤ → Nak
missing bytes = record { session = pos 1; stream = pos 1001; term_id = pos 7; term_offset = pos 0; length = bytes }

abbrev full : Watched
full = record (new_watch stream 0 None) { bounds = record { sent_to = 64; asked = Some 32768 } }

abbrev waits : Watched
waits = after_frame full (NAK (missing (pos 32)))

no_room_is_left : screened_of full (NAK (missing (pos 32))) ≡ Held
no_room_is_left = refl

it_is_passed_over : waits.passed ≡ 1
it_is_passed_over = refl

one_waits_at_a_time : screened_of waits (NAK (missing (pos 64))) ≡ Unanswered
one_waits_at_a_time = refl

status_messages_behind_it_tell : screened_of waits (SM 0 (telling (pos 1) (pos 1001) (pos 64) (pos 128))) ≡ Tells (pos 9) 64
status_messages_behind_it_tell = refl

not_in_the_same_cycle : due_of waits ≡ None
not_in_the_same_cycle = refl

in_the_next_cycle : due_of (told waits 64) ≡ Some (missing (pos 32))
in_the_next_cycle = refl

-- ---- the ends that were told

abbrev ends_at : ℕ → StreamEnd
ends_at position = record { position = position; broken = false }

first_end : with_told None (ends_at 64) ≡ record { least = 64; greatest = 64; broken = false }
first_end = refl

end_behind : with_told (Some (with_told None (ends_at 64))) (ends_at 96) ≡ record { least = 64; greatest = 96; broken = false }
end_behind = refl

end_before : with_told (Some (with_told None (ends_at 64))) (ends_at 32) ≡ record { least = 32; greatest = 64; broken = false }
end_before = refl

broken_off_behind : with_told (Some (with_told None (record { position = 64; broken = true }))) (ends_at 64) ≡ record { least = 64; greatest = 64; broken = true }
broken_off_behind = refl

an_end_has_its_own_ttl : (farewell_fields stream (ends_at 64)).ttl ≡ negsuc 0
an_end_has_its_own_ttl = refl

one_that_is_broken_off_has_another : (farewell_fields stream (record { position = 64; broken = true })).ttl ≡ negsuc 1
one_that_is_broken_off_has_another = refl

-- ---- who is left behind: one that stands at 64 of a stream that was sent up to 49,280, of which 49,152 bytes can be sent again

abbrev stands : ℕ → Watched
stands sent_to = told (told_by (new_watch stream 0 (Some 49152)) (pos 9) 64) sent_to

within_reach_is_heard : screened (stands 49216) (Tells (pos 9) 64) ≡ Tells (pos 9) 64
within_reach_is_heard = refl

out_of_reach_is_left_behind : screened (stands 49248) (Tells (pos 9) 64) ≡ LeftBehind (pos 9) 64
out_of_reach_is_left_behind = refl

nothing_is_sent_again : screened (stands 49248) (Misses 1408) ≡ Unanswered
nothing_is_sent_again = refl

another_id_is_heard : screened (stands 49248) (Tells (pos 8) 49248) ≡ Tells (pos 8) 49248
another_id_is_heard = refl

an_old_message_leaves_nobody_behind : screened (told (told_by (stands 0) (pos 9) 1024) 49248) (Tells (pos 9) 64) ≡ Tells (pos 9) 64
an_old_message_leaves_nobody_behind = refl

one_receiver_is_never_left_behind : screened (told (told_by (new_watch stream 0 None) (pos 9) 64) 49248) (Tells (pos 9) 64) ≡ Tells (pos 9) 64
one_receiver_is_never_left_behind = refl

lies_so_far_behind : behind_of (stands 49248) ≡ Some (record { missing = 49184; reach = 49152 })
lies_so_far_behind = refl
