-- The sender's and the receiver's definitions at worked examples: limits, resends, timing, the frames that they tell each other by.
use Rattle.std.specs.Prelude.{◌≡◌, ℕ, ◌-◌, ◌*◌, pos, negsuc, false, List, [], ◌∷◌, length, None, Some}
use Rattle.std.proofs.Common.{refl, inl, inr, arith}
use Rattle.theory.specs.Position.{position_of}
use Rattle.theory.specs.Wire.{spelling, Header, IsFrame, IsDataFlags, DATA, PAD, SM}
use Rattle.theory.specs.Placed.{Placed}
use Rattle.theory.specs.Gap.{Gap}
use Rattle.theory.specs.FlowLimit.{flow_limit}
use Rattle.theory.specs.GroupLimit.{GroupEvent, StatusCame, Ticked, group_limit}
use Rattle.theory.specs.Resend.{Action, kept, nak_answer, OutOfRange, resent, answered}
use Rattle.theory.specs.Control.{setup_at, status_at}
use Rattle.theory.specs.Timing.{Scanned, scan}
use Rattle.theory.specs.Wire
use Rattle.theory.proofs.Rows.{identity, the_geometry, frame_of}

abbrev t1 : List GroupEvent
t1 = StatusCame (pos 0) (pos 0) (pos 32768) 0 ∷ []

abbrev t2 : List GroupEvent
t2 = StatusCame (pos 1) (pos 0) (pos 1408) 1000000 ∷ t1

abbrev t3 : List GroupEvent
t3 = StatusCame (pos 1) (pos 1024) (pos 1408) 2000000 ∷ t2

abbrev t4 : List GroupEvent
t4 = StatusCame (pos 0) (pos 4096) (pos 32768) 3000000 ∷ t3

abbrev t5 : List GroupEvent
t5 = Ticked 5002000000 ∷ t4

abbrev t6 : List GroupEvent
t6 = Ticked 5002000001 ∷ t5

abbrev t7 : List GroupEvent
t7 = Ticked 5003000001 ∷ t6

abbrev t8 : List GroupEvent
t8 = StatusCame (pos 1) (pos 1024) (pos 1408) 5003000002 ∷ t7

group_rows : (group_limit 2 0 t1 ∷ group_limit 2 0 t2 ∷ group_limit 2 0 t3 ∷ group_limit 2 0 t4 ∷ group_limit 2 0 t5 ∷ group_limit 2 0 t6 ∷ group_limit 2 0 t7 ∷ group_limit 2 0 t8 ∷ []) ≡ (0 ∷ 1408 ∷ 2432 ∷ 2432 ∷ 2432 ∷ 36864 ∷ 36864 ∷ 36864 ∷ [])
group_rows = refl

-- a receiver outside the group moves nothing, also when another has fallen silent
outside : (group_limit 2 0 (StatusCame (pos 2) (pos 0) (pos 64) 5002000001 ∷ t5) ∷ group_limit 2 0 (StatusCame (negsuc 0) (pos 0) (pos 64) 5002000001 ∷ t5) ∷ []) ≡ (2432 ∷ 2432 ∷ [])
outside = refl

-- a moment smaller than one that was seen counts as the one seen, of a tick too
abbrev u3 : List GroupEvent
u3 = Ticked 6000000000 ∷ StatusCame (pos 1) (pos 0) (pos 2000) 0 ∷ StatusCame (pos 0) (pos 0) (pos 1000) 0 ∷ []

abbrev u4 : List GroupEvent
u4 = StatusCame (pos 1) (pos 0) (pos 5000) 1000000000 ∷ u3

backwards : (group_limit 2 0 u3 ∷ group_limit 2 0 u4 ∷ group_limit 2 0 (Ticked 11000000000 ∷ u4) ∷ group_limit 2 0 (StatusCame (pos 0) (pos 0) (pos 9000) 6000000001 ∷ u4) ∷ []) ≡ (1000 ∷ 5000 ∷ 5000 ∷ 5000 ∷ [])
backwards = refl

-- and of one that comes from outside the group, which counts for nothing else
abbrev v4 : List GroupEvent
v4 = StatusCame (pos 2) (pos 0) (pos 9) 6000000000 ∷ StatusCame (pos 1) (pos 0) (pos 5000) 2000000000 ∷ StatusCame (pos 0) (pos 0) (pos 1000) 0 ∷ []

late_tick : (group_limit 2 0 v4 ∷ group_limit 2 0 (Ticked 0 ∷ v4) ∷ []) ≡ (1000 ∷ 5000 ∷ [])
late_tick = refl

abbrev gap : Gap
gap = record { start = 64; length = 64 }

abbrev w0 : Scanned
w0 = scan (record { clock = 0; active = None; deadline = 0 }) 0 (Some gap)

abbrev w1 : Scanned
w1 = scan w0.watch 999999 (Some gap)

abbrev w2 : Scanned
w2 = scan w1.watch 1000000 (Some gap)

abbrev w3 : Scanned
w3 = scan w2.watch 1999999 (Some gap)

abbrev w4 : Scanned
w4 = scan w3.watch 2000000 (Some gap)

scans : (w0.told ∷ w1.told ∷ w2.told ∷ w3.told ∷ w4.told ∷ []) ≡ (None ∷ None ∷ Some gap ∷ None ∷ Some gap ∷ [])
scans = refl

status_bytes : spelling (status_at identity 0 32768 (pos 42)) ≡ 0x24 ∷ 0 ∷ 0 ∷ 0 ∷ 0 ∷ 0 ∷ 3 ∷ 0 ∷ 1 ∷ 0 ∷ 0 ∷ 0 ∷ 0xe9 ∷ 3 ∷ 0 ∷ 0 ∷ 7 ∷ 0 ∷ 0 ∷ 0 ∷ 0 ∷ 0 ∷ 0 ∷ 0 ∷ 0 ∷ 0x80 ∷ 0 ∷ 0 ∷ 0x2a ∷ 0 ∷ 0 ∷ 0 ∷ 0 ∷ 0 ∷ 0 ∷ 0 ∷ []
status_bytes = refl

setup_bytes : spelling (setup_at identity 0) ≡ 0x28 ∷ 0 ∷ 0 ∷ 0 ∷ 0 ∷ 0 ∷ 5 ∷ 0 ∷ 0 ∷ 0 ∷ 0 ∷ 0 ∷ 1 ∷ 0 ∷ 0 ∷ 0 ∷ 0xe9 ∷ 3 ∷ 0 ∷ 0 ∷ 7 ∷ 0 ∷ 0 ∷ 0 ∷ 7 ∷ 0 ∷ 0 ∷ 0 ∷ 0 ∷ 0 ∷ 1 ∷ 0 ∷ 0x80 ∷ 5 ∷ 0 ∷ 0 ∷ 0 ∷ 0 ∷ 0 ∷ 0 ∷ []
setup_bytes = refl

-- a sender at 131072
abbrev three : List Placed
three = frame_of 65472 64 ∷ frame_of 65536 64 ∷ frame_of 131008 64 ∷ []

abbrev nak_of : ℕ → ℕ → Action
nak_of p n = record { at = p; length = n; lingers = false; until = 0 }

abbrev four : List Placed
four = frame_of 131008 64 ∷ frame_of 131072 64 ∷ []

resends : (resent the_geometry 131072 three (nak_of 131008 2147483647) ∷ resent the_geometry 131136 four (nak_of 131008 128) ∷ resent the_geometry 131072 three (nak_of 65472 128) ∷ []) ≡ ((frame_of 131008 64 ∷ []) ∷ (frame_of 131008 64 ∷ []) ∷ [] ∷ [])
resends = refl

hostile_naks : (nak_answer the_geometry 0 131072 three [] (pos 65536) (pos 0) ∷ nak_answer the_geometry 0 131072 three [] (pos 65536) (negsuc 0) ∷ nak_answer the_geometry 0 131072 three [] (pos 131072) (pos 64) ∷ nak_answer the_geometry 0 131072 three [] (negsuc 31) (pos 64) ∷ []) ≡ (OutOfRange ∷ OutOfRange ∷ OutOfRange ∷ OutOfRange ∷ [])
hostile_naks = refl

farthest : flow_limit 0 (record { position = position_of the_geometry (negsuc 2147483641) (pos 2147483647); window = pos 2147483647 } ∷ []) ≡ 141 * 1000000000000 - 258216742914
farthest = refl

-- it lingers for 60 ms
lingers_on : (length (kept 59999999 (answered 0 (nak_of 64 64) (nak_of 64 64 ∷ []))) ∷ length (kept 60000000 (answered 0 (nak_of 64 64) (nak_of 64 64 ∷ []))) ∷ []) ≡ (1 ∷ 0 ∷ [])
lingers_on = refl

-- flags and lengths that stand in no table
no_flag : (h : Header) (p : List ℕ) → IsFrame (DATA h 0xe0 p) → ⊥
no_flag h p f = no f.1
  where
    no : IsDataFlags 0xe0 → ⊥
    no (inl e) = absurd (omega (arith, e))
    no (inr (inl e)) = absurd (omega (arith, e))
    no (inr (inr (inl e))) = absurd (omega (arith, e))
    no (inr (inr (inr e))) = absurd (omega (arith, e))

no_ask : (s : Wire.Status) → IsFrame (SM 0x40 s) → ⊥
no_ask s (inl e, f) = absurd (omega (arith, e))
no_ask s (inr e, f) = absurd (omega (arith, e))

no_short_pad : (h : Header) → IsFrame (PAD h 31) → ⊥
no_short_pad h f = absurd (omega (arith, f.1))

no_long_data : (h : Header) (p : List ℕ) → length p ≡ 65473 → IsFrame (DATA h 0xc0 p) → ⊥
no_long_data h p e f = absurd (omega (arith, f.2, e))
