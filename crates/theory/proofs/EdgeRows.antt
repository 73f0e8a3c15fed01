-- Definitions at their edges: a group before all were heard, a consumer that joined, a padding's room, the greatest limit,
-- windows.
use Rattle.std.specs.Prelude.{◌≡◌, pos, negsuc, true, false, List, [], ◌∷◌}
use Rattle.std.proofs.Common.{refl, arith}
use Rattle.theory.specs.Assembly.{nothing_heard}
use Rattle.theory.specs.Consumer.{Consumer, consumer_at, moved, passed_by}
use Rattle.theory.specs.Datagrams.{sent_end, wire_size}
use Rattle.theory.specs.FlowLimit.{clipped}
use Rattle.theory.specs.GroupLimit.{GroupEvent, StatusCame, Ticked, all_heard, clock_of, group_limit, is_same}
use Rattle.theory.specs.Image.{IsWindow}
use Rattle.theory.specs.Placed.{Pad}
use Rattle.theory.proofs.Rows.{frame_of, pad_of}

-- ---- a group, before all of it were heard

-- of two the last alone, and of three the first and the last
last_alone : (group_limit 2 0 (StatusCame (pos 1) (pos 0) (pos 1408) 0 ∷ []) ∷ group_limit 3 0 (StatusCame (pos 2) (pos 0) (pos 2048) 1 ∷ StatusCame (pos 0) (pos 0) (pos 1408) 0 ∷ []) ∷ []) ≡ (0 ∷ 0 ∷ [])
last_alone = refl

-- the middle one too, and then it is the least of the three
all_three : group_limit 3 0 (StatusCame (pos 1) (pos 0) (pos 1024) 2 ∷ StatusCame (pos 2) (pos 0) (pos 2048) 1 ∷ StatusCame (pos 0) (pos 0) (pos 1408) 0 ∷ []) ≡ 1024
all_three = refl

-- one with the id -1 is none of the group, so it doesn't stand for one that wasn't heard
abbrev before_all : List GroupEvent
before_all = StatusCame (negsuc 0) (pos 0) (pos 64) 1 ∷ StatusCame (pos 0) (pos 0) (pos 1408) 0 ∷ []

minus_one : (group_limit 2 0 before_all ∷ group_limit 2 0 (Ticked 2 ∷ before_all) ∷ group_limit 1 0 (Ticked 2 ∷ StatusCame (negsuc 0) (pos 0) (pos 64) 1 ∷ []) ∷ []) ≡ (0 ∷ 0 ∷ 0 ∷ [])
minus_one = refl

minus_one_heard : (all_heard 2 before_all ∷ all_heard 1 before_all ∷ is_same (negsuc 0) 0 ∷ is_same (negsuc 0) 1 ∷ []) ≡ (false ∷ true ∷ false ∷ false ∷ [])
minus_one_heard = refl

-- the clock begins at 0, so that the first moment is the one that it has
clocks : (clock_of [] ∷ clock_of (Ticked 5 ∷ []) ∷ clock_of (Ticked 3 ∷ Ticked 5 ∷ []) ∷ []) ≡ (0 ∷ 5 ∷ 5 ∷ [])
clocks = refl

-- ---- a consumer that joined at 64

joined : consumer_at 64 ≡ record { join = 64; at = 64; lost = false; heard_to = 64; assembly = nothing_heard }
joined = refl

-- past a frame of 96 bytes that its assembler refused it stands behind that, has lost it, and has heard what it had
passed : passed_by (consumer_at 64) (frame_of 64 96) ≡ record { join = 64; at = 160; lost = true; heard_to = 64; assembly = nothing_heard }
passed = refl

-- a frame that it heard it has heard, too, and one that it lost before stays lost
abbrev behind : Consumer
behind = moved (passed_by (consumer_at 64) (frame_of 64 96)) (pad_of 160 64)

heard : (behind.join ∷ behind.at ∷ behind.heard_to ∷ []) ≡ (64 ∷ 224 ∷ 224 ∷ [])
heard = refl

still_lost : behind.lost ≡ true
still_lost = refl

-- ---- a padding goes out as its header alone, whatever it covers

padding_size : (wire_size (pad_of 64 132) (Pad 132) ∷ wire_size (pad_of 64 32) (Pad 32) ∷ wire_size (frame_of 64 132) (frame_of 64 132).frame ∷ []) ≡ (32 ∷ 32 ∷ 160 ∷ [])
padding_size = refl

padding_end : (sent_end (pad_of 64 132) (Pad 132) ∷ sent_end (frame_of 64 132) (frame_of 64 132).frame ∷ []) ≡ (96 ∷ 224 ∷ [])
padding_end = refl

-- ---- how far a status message allows

greatest : (clipped (pos 9223372036854775806) ∷ clipped (pos 9223372036854775807) ∷ clipped (pos 9223372036854775808) ∷ clipped (pos 18446744073709551615) ∷ []) ≡ (9223372036854775806 ∷ 9223372036854775807 ∷ 9223372036854775807 ∷ 9223372036854775807 ∷ [])
greatest = refl

negatives : (clipped (negsuc 0) ∷ clipped (negsuc 31) ∷ clipped (negsuc 9223372036854775807) ∷ clipped (pos 0) ∷ []) ≡ (0 ∷ 0 ∷ 0 ∷ 0 ∷ [])
negatives = refl

-- ---- windows, of terms of 65536 bytes and an MTU of 1408

least_window : IsWindow 65536 1408 1408
least_window = record { unit = refl; least = omega arith; greatest = omega arith }

half_a_term : IsWindow 65536 1408 32768
half_a_term = record { unit = refl; least = omega arith; greatest = omega arith }

more_than_half : IsWindow 65536 1408 32800 → ⊥
more_than_half w = let high = w.greatest in omega arith

less_than_the_mtu : IsWindow 65536 1408 1376 → ⊥
less_than_the_mtu w = let low = w.least in omega arith

no_multiple : IsWindow 65536 1408 1424 → ⊥
no_multiple w = let unit = w.unit in omega arith
