-- An image's definitions at worked examples.
use Rattle.std.specs.Prelude.{◌≡◌, ℕ, pos, negsuc, true, false, List, [], ◌∷◌, map, Some}
use Rattle.std.proofs.Common.{refl}
use Rattle.theory.specs.Placed.{Placed}
use Rattle.theory.specs.Units.{contiguous}
use Rattle.theory.specs.Gap.{gap_of}
use Rattle.theory.specs.Consumer.{consumer_at, least_of}
use Rattle.theory.specs.Insert.{Insert, head_of, insert_answer, insert_answer_at, CrossesTerm, Below, OverWindow, Duplicate, Overlap, Stored}
use Rattle.theory.specs.Image.{Image, after_heartbeat, is_accepted}
use Rattle.theory.proofs.Rows.{the_geometry, frame_of, pad_of}

abbrev answer : List Placed → ℕ → ℕ → Placed → Insert
answer frames least window s = insert_answer the_geometry (map head_of frames) least window (head_of s)

-- an image with a gap
abbrev gapped : List Placed
gapped = frame_of 0 64 ∷ frame_of 128 64 ∷ []

gap_end : contiguous gapped 0 192 ≡ 64
gap_end = refl

gap_found : gap_of 65536 gapped 192 (contiguous gapped 0 192) ≡ Some (record { start = 64; length = 64 })
gap_found = refl

gap_filled : contiguous (frame_of 64 64 ∷ gapped) 0 192 ≡ 192
gap_filled = refl

-- what an image answers
same_again : ((answer gapped 0 32768 (frame_of 64 64)) ∷ (answer (frame_of 64 64 ∷ gapped) 0 32768 (frame_of 64 64)) ∷ []) ≡ (Stored ∷ Duplicate ∷ [])
same_again = refl

overlapping : ((answer (frame_of 0 64 ∷ []) 0 32768 (frame_of 32 64)) ∷ (answer (frame_of 0 64 ∷ []) 64 32768 (frame_of 32 64)) ∷ []) ≡ (Overlap ∷ Below ∷ [])
overlapping = refl

at_window : ((answer (pad_of 32736 32736 ∷ []) 32736 32768 (frame_of 65472 96)) ∷ (answer (pad_of 32736 32736 ∷ []) 32736 32768 (frame_of 65472 64)) ∷ (answer (pad_of 32736 32736 ∷ []) 32736 32768 (pad_of 65472 64)) ∷ []) ≡ (CrossesTerm ∷ OverWindow ∷ Stored ∷ [])
at_window = refl

padding_counts : contiguous (pad_of 65472 64 ∷ pad_of 32736 32736 ∷ []) 32736 65536 ≡ 65536
padding_counts = refl

-- heartbeats
abbrev small : Image
small = record { join = 0; window = 32768; stored = frame_of 0 64 ∷ []; high = 64; consumers = consumer_at 0 ∷ [] }

heard_beat : (after_heartbeat the_geometry small 0 (pos 128)).high ≡ 128
heard_beat = refl

beat_gap : gap_of 65536 (frame_of 0 64 ∷ []) 128 (contiguous (frame_of 0 64 ∷ []) 0 128) ≡ Some (record { start = 64; length = 64 })
beat_gap = refl

beat_range : ((is_accepted the_geometry small.high 0 49184) ∷ (is_accepted the_geometry small.high 0 49152) ∷ []) ≡ (false ∷ true ∷ [])
beat_range = refl

-- before the first term: a whole unit at -32 is below, two units cross
negative : (insert_answer_at the_geometry [] 0 32768 (negsuc 31) false 32 ∷ insert_answer_at the_geometry [] 0 32768 (negsuc 31) false 64 ∷ []) ≡ (Below ∷ CrossesTerm ∷ [])
negative = refl

-- hostile frames on an image that holds [32704, 32768)
abbrev one_held : List Placed
one_held = frame_of 32704 64 ∷ []

hostile : (answer [] 0 32768 (frame_of 32704 64) ∷ answer one_held 0 32768 (pad_of 32736 32800) ∷ answer one_held 0 32768 (pad_of 32768 32768) ∷ answer one_held 0 32768 (frame_of 32736 64) ∷ insert_answer_at the_geometry (map head_of one_held) 0 32768 (negsuc 63) false 64 ∷ insert_answer_at the_geometry (map head_of one_held) 0 32768 (negsuc 31) false 64 ∷ answer one_held 0 32768 (frame_of 32704 33) ∷ answer one_held 0 32768 (frame_of 65536 64) ∷ []) ≡ (Stored ∷ Overlap ∷ OverWindow ∷ OverWindow ∷ Below ∷ CrossesTerm ∷ Overlap ∷ OverWindow ∷ [])
hostile = refl

-- the least of several consumers
leasts : (least_of (consumer_at 64 ∷ consumer_at 32 ∷ consumer_at 96 ∷ []) ∷ least_of (consumer_at 64 ∷ []) ∷ []) ≡ (32 ∷ 64 ∷ [])
leasts = refl
