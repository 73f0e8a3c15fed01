-- Units with their contents, datagrams, what opens an image, and what a network gives, at worked examples.
use Rattle.std.specs.Prelude.{◌≡◌, ◌⊎◌, ◌≤◌, ℕ, ◌+◌, ◌*◌, ◌/◌, ◌%◌, pos, negsuc, false, List, [], ◌∷◌, length, replicate, None, Some}
use Rattle.std.proofs.Common.{refl, inl, inr, arith, sym, ap}
use Rattle.std.specs.List.{AllByRecursion}
use Rattle.theory.specs.Position.{IsGeometry, IsMtu}
use Rattle.theory.specs.Wire.{Setup}
use Rattle.theory.specs.Placed.{Among, Data, Placed, end_of}
use Rattle.theory.specs.Bytes.{bytes_of}
use Rattle.theory.specs.Units.{Got}
use Rattle.theory.specs.Datagrams.{cycle_datagrams, grouped, resend_datagrams}
use Rattle.theory.specs.Resend.{Action, resend_range}
use Rattle.theory.specs.Consumer.{consumer_at}
use Rattle.theory.specs.Image.{Image, IsWindow, after_heartbeat}
use Rattle.theory.specs.ImageLaws.{IsMarked}
use Rattle.theory.specs.Setup.{BadPosition, HasSetupFault}
use Rattle.theory.specs.Timing.{Scanned, scan}
use Rattle.theory.specs.Loss.{IsVerdict, Rates, given, Pass, Drop, Repeat, Hold}
use Rattle.theory.proofs.Rows.{abc, frame_of, identity, pad_of, the_geometry}

-- ---- units

-- abc at 0, and a padding of 132 bytes behind it
abbrev some_frames : List Placed
some_frames = record { at = 0; frame = Data 192 abc } ∷ pad_of 64 132 ∷ []

header_unit : Got identity some_frames 0 (0x23 ∷ 0 ∷ 0 ∷ 0 ∷ 0 ∷ 0xc0 ∷ 1 ∷ 0 ∷ 0 ∷ 0 ∷ 0 ∷ 0 ∷ 1 ∷ 0 ∷ 0 ∷ 0 ∷ 0xe9 ∷ 3 ∷ 0 ∷ 0 ∷ 7 ∷ replicate 11 0)
header_unit = (record { frame = record { at = 0; frame = Data 192 abc }; among = inl refl; unit = 0; inside = omega arith; here = refl }, refl)

payload_unit : Got identity some_frames 32 (97 ∷ 98 ∷ 99 ∷ replicate 29 0)
payload_unit = (record { frame = record { at = 0; frame = Data 192 abc }; among = inl refl; unit = 1; inside = omega arith; here = refl }, refl)

padding_header : Got identity some_frames 64 (bytes_of identity (pad_of 64 132))
padding_header = (record { frame = pad_of 64 132; among = inr (inl refl); unit = 0; inside = omega arith; here = refl }, refl)

-- behind its header a padding has empty units, up to its end
empty_unit : Got identity some_frames 96 []
empty_unit = (record { frame = pad_of 64 132; among = inr (inl refl); unit = 1; inside = omega arith; here = refl }, refl)

last_unit : Got identity some_frames 192 []
last_unit = (record { frame = pad_of 64 132; among = inr (inl refl); unit = 4; inside = omega arith; here = refl }, refl)

-- ---- datagrams

-- two frames of 704 bytes share a datagram, and frames of two terms don't
together : grouped the_geometry (frame_of 0 704 ∷ frame_of 704 704 ∷ frame_of 1408 32 ∷ []) ≡ (frame_of 0 704 ∷ frame_of 704 704 ∷ []) ∷ (frame_of 1408 32 ∷ []) ∷ []
together = refl

two_terms : grouped the_geometry (frame_of 65504 32 ∷ frame_of 65536 32 ∷ []) ≡ (frame_of 65504 32 ∷ []) ∷ (frame_of 65536 32 ∷ []) ∷ []
two_terms = refl

-- a frame may end at the limit, and of a padding the header; behind one that may not nothing is sent
under_limit : (cycle_datagrams the_geometry 128 (frame_of 0 64 ∷ frame_of 64 64 ∷ frame_of 128 32 ∷ []) ∷ cycle_datagrams the_geometry 96 (frame_of 0 64 ∷ pad_of 64 6400 ∷ []) ∷ cycle_datagrams the_geometry 95 (frame_of 0 64 ∷ frame_of 64 64 ∷ frame_of 32 32 ∷ []) ∷ []) ≡ ((frame_of 0 64 ∷ frame_of 64 64 ∷ []) ∷ []) ∷ ((frame_of 0 64 ∷ pad_of 64 6400 ∷ []) ∷ []) ∷ ((frame_of 0 64 ∷ []) ∷ []) ∷ []
under_limit = refl

-- at most 16 datagrams in a cycle, and 15 in a resend
at_most : (length (cycle_datagrams the_geometry 65536 (replicate 17 (frame_of 0 1408))) ∷ length (resend_datagrams the_geometry (replicate 17 (frame_of 0 1408))) ∷ []) ≡ 16 ∷ 15 ∷ []
at_most = refl

-- ---- what is sent again

abbrev asks : ℕ → ℕ → Action
asks p n = record { at = p; length = n; lingers = false; until = 0 }

-- from the first start in the range, to what was asked for, the sender or the term's end; a start behind three quarters of a term is none
ranges : (resend_range the_geometry 131072 (0 ∷ 81920 ∷ 81984 ∷ []) (asks 81920 64) ∷ resend_range the_geometry 131072 (0 ∷ 81920 ∷ 81984 ∷ []) (asks 81921 128) ∷ resend_range the_geometry 131072 (65472 ∷ 131008 ∷ []) (asks 131008 2147483647) ∷ resend_range the_geometry 131072 (65472 ∷ 81920 ∷ []) (asks 65536 32768) ∷ resend_range the_geometry 131072 (81856 ∷ 81952 ∷ []) (asks 65536 32768) ∷ resend_range the_geometry 131072 (81856 ∷ []) (asks 81856 64) ∷ []) ≡ Some (record { start = 81920; length = 64 }) ∷ Some (record { start = 81984; length = 65 }) ∷ Some (record { start = 131008; length = 64 }) ∷ Some (record { start = 81920; length = 16384 }) ∷ Some (record { start = 81952; length = 16352 }) ∷ None ∷ []
ranges = refl

-- ---- a gap that grew is told as it is, and another gap isn't told at the deadline of the first

abbrev first_scan : Scanned
first_scan = scan (record { clock = 7; active = None; deadline = 0 }) 5 (Some (record { start = 64; length = 64 }))

tells_now : ((scan first_scan.watch 1000006 (Some (record { start = 64; length = 128 }))).told ∷ (scan first_scan.watch 1000007 (Some (record { start = 64; length = 128 }))).told ∷ (scan first_scan.watch 1000007 (Some (record { start = 96; length = 32 }))).told ∷ (scan first_scan.watch 1000007 None).told ∷ (scan (scan first_scan.watch 1000007 None).watch 1000008 (Some (record { start = 64; length = 64 }))).told ∷ []) ≡ None ∷ Some (record { start = 64; length = 128 }) ∷ None ∷ None ∷ None ∷ []
tells_now = refl

-- ---- the high-water mark

abbrev marked_at : ℕ → Image
marked_at high = record { join = 0; window = 32768; stored = frame_of 0 64 ∷ []; high = high; consumers = consumer_at 0 ∷ [] }

-- a heartbeat before the stream changes nothing
early_beat : after_heartbeat the_geometry (marked_at 64) 0 (negsuc 95) ≡ marked_at 64
early_beat = refl

no_far_mark : IsMarked the_geometry (marked_at 49153) → ⊥
no_far_mark m = none 49153 refl m.reached
  where
    none : (high : ℕ) → high ≡ 49153 → (high ≡ 0) ⊎ (((s : Placed) × Among s (frame_of 0 64 ∷ []) × (high ≡ end_of s)) ⊎ AllByRecursion (λ r. high ≤ r.at + 3 * 65536 / 4) (consumer_at 0 ∷ [])) → ⊥
    none high far (inl e) = absurd (omega arith)
    none high far (inr (inl (s, inl e, h))) = let end : end_of s ≡ 64 = ap end_of e in absurd (omega arith)
    none high far (inr (inl (s, inr a, h))) = absurd a
    none high far (inr (inr h)) = absurd (omega (arith, h.0))

-- ---- a SETUP with two faults: the position comes before the window

abbrev twice_wrong : Setup
twice_wrong = record { term_offset = pos 33; session = pos 1; stream = pos 1001; initial_term_id = pos 7; active_term_id = pos 7; term_length = pos 65536; mtu = pos 1408; ttl = pos 0 }

pub legal : IsGeometry the_geometry
legal = record { term = record { power = (16, refl); least = omega arith; greatest = omega arith }; mtu = record { unit = refl; least = omega arith; greatest = omega arith; within = omega arith }; initial = record { sfits = omega arith } }

position_first : HasSetupFault twice_wrong 64 BadPosition
position_first = (the_geometry, record { term_length = refl; mtu = refl; initial = refl; legal = legal }, λ p n. let same : pos n.offset ≡ pos 33 = sym n.placed in let is : n.offset ≡ 33 = cc in let unit : n.offset % 32 ≡ 0 = n.unit in absurd (omega arith))

-- ---- a network: what passes goes before what was held

out_and_held : (given None (1 ∷ []) Pass ∷ given (Some (2 ∷ [])) (1 ∷ []) Pass ∷ given (Some (2 ∷ [])) (1 ∷ []) Drop ∷ given None (1 ∷ []) Repeat ∷ given (Some (2 ∷ [])) (1 ∷ []) Repeat ∷ given None (1 ∷ []) Hold ∷ given (Some (2 ∷ [])) (1 ∷ []) Hold ∷ []) ≡
    record { out = (1 ∷ []) ∷ []; held = None } ∷ record { out = (1 ∷ []) ∷ (2 ∷ []) ∷ []; held = None } ∷ record { out = []; held = Some (2 ∷ []) } ∷ record { out = (1 ∷ []) ∷ (1 ∷ []) ∷ []; held = None } ∷ record { out = (1 ∷ []) ∷ (1 ∷ []) ∷ (2 ∷ []) ∷ []; held = None } ∷ record { out = []; held = Some (1 ∷ []) } ∷ record { out = (1 ∷ []) ∷ (2 ∷ []) ∷ []; held = None } ∷ []
out_and_held = refl

abbrev rates : Rates
rates = record { drop = 100; repeat = 50; hold = 50 }

verdicts : IsVerdict rates 99 Drop × IsVerdict rates 100 Repeat × IsVerdict rates 149 Repeat × IsVerdict rates 150 Hold × IsVerdict rates 199 Hold × IsVerdict rates 200 Pass × IsVerdict rates 1099 Drop
verdicts = (omega arith, (omega arith, omega arith), (omega arith, omega arith), (omega arith, omega arith), (omega arith, omega arith), omega arith, omega arith)

no_verdicts : (IsVerdict rates 100 Drop → ⊥) × (IsVerdict rates 99 Repeat → ⊥) × (IsVerdict rates 200 Hold → ⊥) × (IsVerdict rates 199 Pass → ⊥)
no_verdicts = (λ h. absurd (omega (arith, h)), λ h. absurd (omega (arith, h.0)), λ h. absurd (omega (arith, h.1)), λ h. absurd (omega (arith, h)))

-- ---- windows and MTUs that are none: too small, too large, no whole units

no_windows : (IsWindow 65536 1408 1376 → ⊥) × (IsWindow 65536 1408 32800 → ⊥) × (IsWindow 65536 1408 1424 → ⊥)
no_windows = (λ w. absurd (omega (arith, w.least)), λ w. absurd (omega (arith, w.greatest)), λ w. absurd (omega (arith, w.unit)))

no_mtus : (IsMtu 65536 224 → ⊥) × (IsMtu 65536 8224 → ⊥) × (IsMtu 16777216 65536 → ⊥) × (IsMtu 65536 272 → ⊥)
no_mtus = (λ m. absurd (omega (arith, m.least)), λ m. absurd (omega (arith, m.within)), λ m. absurd (omega (arith, m.greatest)), λ m. absurd (omega (arith, m.unit)))
