-- Bits of an image's units, at rest, while a frame is stored, and while units are cleared.
use Rattle.std.specs.Prelude.{◌≡◌, ℕ, suc, ◌+◌, ◌*◌, ◌/◌, ◌%◌, ◌^◌, ◌<◌, ◌≤◌, ◌⊎◌, max, bit_and, bit_or, List, ◌∷◌, length, slice_index}
use Rattle.std.specs.Int.{bit_at, bit_not, w64}
use Rattle.image_rule.specs.declared.view.Frame.{Frame}
use Rattle.image_rule.specs.declared.view.Held.{Held}
use Rattle.image_rule.specs.declared.view.Key.{Key}
use Rattle.image_rule.specs.declared.view.View.{View}
use Rattle.image_rule.specs.Frames.{Among, Covers, Has, IsSpelt, StartsAt, end_of, held_bit, image_length, ring, start_bit}
use Rattle.image_rule.specs.Rule.{Sound}
use Rattle.image_rule.specs.Steps.{May, changed}

-- the ones of a word are its bits from one on, below another
pub record IsMask (m low high : ℕ) : Type 0 where
  pub small : m < 2 ^ 64
  pub inside : (b : ℕ) → low ≤ b → b < high → bit_at m b ≡ 1
  pub outside : (b : ℕ) → (b < low) ⊎ (high ≤ b) → bit_at m b ≡ 0

abbrev pub InRun : ℕ → ℕ → ℕ → Type 0
InRun from to u = (from ≤ u) × (u < to)

-- from the floor on, in a ring, the held bits are those of stored frames and of the units of one run
pub record IsMarked (key : Key) (h : Held) (from to : ℕ) : Type 0 where
  pub long : length h.words ≡ image_length (ring key)
  pub joined : key.join ≤ h.floor
  pub below : (u : ℕ) → Has h.got u → u < h.floor + (ring key)
  pub set : (u : ℕ) → h.floor ≤ u → u < h.floor + (ring key) → Has h.got u ⊎ InRun from to u → held_bit (ring key) h.words u ≡ 1
  pub only : (u : ℕ) → h.floor ≤ u → u < h.floor + (ring key) → held_bit (ring key) h.words u ≡ 1 → Has h.got u ⊎ InRun from to u

-- from this unit on the start bits are those of stored frames and of the units of one run; from the floor to it there are none
pub record IsStarted (key : Key) (h : Held) (low from to : ℕ) : Type 0 where
  pub set : (u : ℕ) → low ≤ u → u < h.floor + (ring key) → StartsAt h.got u ⊎ InRun from to u → start_bit (ring key) h.words u ≡ 1
  pub only : (u : ℕ) → h.floor ≤ u → u < h.floor + (ring key) → start_bit (ring key) h.words u ≡ 1 → (low ≤ u) × (StartsAt h.got u ⊎ InRun from to u)

-- at rest: from the floor on, in a ring, a held bit is set for each unit that was stored, a start bit for each frame's first
-- unit, and no other; and the frames' words stand
pub record IsExact (key : Key) (h : Held) : Type 0 where
  pub sound : Sound key h
  pub marked : IsMarked key h 0 0
  pub started : IsStarted key h h.floor 0 0

-- a frame that may be inserted
pub record MayInsert (key : Key) (h : Held) (f : Frame) : Type 0 where
  pub from : h.floor ≤ f.unit
  pub near : end_of f < h.floor + (ring key)
  pub full : 0 < f.units
  pub fits : length f.bytes ≤ 32 * f.units
  pub low : end_of f ≤ 2 ^ 56
  pub spelt : IsSpelt key.identity f
  pub free : (u : ℕ) → Covers f u → Has h.got u → ⊥

-- ---- a frame is stored

-- the frame's start bit and the held bits of a run are set, and nothing else has changed
pub record Marked (key : Key) (v : View) (f : Frame) (from to : ℕ) (w : View) : Type 0 where
  pub after : w ≡ record v { held = w.held }
  pub floor : w.held.floor ≡ v.held.floor
  pub got : w.held.got ≡ v.held.got
  pub freed : w.held.freed ≡ v.held.freed
  pub out : w.held.out ≡ v.held.out
  pub marked : IsMarked key w.held from to
  pub started : IsStarted key w.held w.held.floor f.unit (f.unit + 1)
  pub sound : Sound key w.held

-- a frame was stored, and nothing else has changed
pub record Stored (key : Key) (v : View) (f : Frame) (w : View) : Type 0 where
  pub after : w ≡ record v { held = w.held }
  pub floor : w.held.floor ≡ v.held.floor
  pub got : w.held.got ≡ f ∷ v.held.got
  pub freed : w.held.freed ≡ v.held.freed
  pub out : w.held.out ≡ 0
  pub exact : IsExact key w.held

-- the first unit of the word behind that of a frame's first unit
abbrev pub next_word : Frame → ℕ
next_word f = (f.unit / 64 + 1) * 64

-- where the units of a frame end that don't lie in its first word
abbrev pub rest_end : Frame → ℕ
rest_end f = max (next_word f) (end_of f)

-- the ones of some mask go into a word
abbrev pub set_word : Held → ℕ → ℕ → ℕ
set_word h k m = bit_or (slice_index h.words k) m

-- the bits of so many units from one on, in the word at a place
abbrev pub MaySet : Key → View → ℕ → ℕ → ℕ → ℕ → List Frame → Type 0
MaySet key v k at count floor got = (m : ℕ) → IsMask m (at % 64) (at % 64 + count) → May key v k (set_word v.held k m) floor got

pub record SetsBits (v : View) (k at count floor : ℕ) (got : List Frame) (w : View) : Type 0 where
  pub bits : ℕ
  pub mask : IsMask bits (at % 64) (at % 64 + count)
  pub after : w ≡ record v { held = changed v.held k (set_word v.held k bits) floor got }

-- and with them a frame is stored
pub record StoresBits (v : View) (k at count : ℕ) (f : Frame) (w : View) : Type 0 where
  pub bits : ℕ
  pub mask : IsMask bits (at % 64) (at % 64 + count)
  pub after : w ≡ record v { held = record (changed v.held k (set_word v.held k bits) v.held.floor (f ∷ v.held.got)) { out = 0 } }

-- ---- consumers are looked at, and what all have left is cleared

-- the least unit at which a consumer among so many was seen; frames aren't cut there, and all before it was stored
pub record Sweeps (key : Key) (v : View) (count least : ℕ) (w : View) : Type 0 where
  pub after : w ≡ record v { seen = w.seen; looks = w.looks }
  pub all : length w.seen ≡ length v.seen
  -- it looked once at each of them, in this call, and at no other
  pub looked : (j : ℕ) → j < count → slice_index w.looks j ≡ suc (slice_index v.looks j)
  pub others : (j : ℕ) → count ≤ j → slice_index w.looks j ≡ slice_index v.looks j
  pub whole : length w.looks ≡ length v.looks
  pub grown : (j : ℕ) → slice_index v.seen j ≤ slice_index w.seen j
  pub lowest : (j : ℕ) → j < count → least ≤ slice_index w.seen j
  pub one : (j : ℕ) × (j < count) × (slice_index w.seen j ≡ least)
  -- none of them stands within a frame, and all before each was stored
  pub each : (j u : ℕ) → j < count → v.held.floor ≤ u → u < slice_index w.seen j → Has v.held.got u
  pub uncut : (j : ℕ) (f : Frame) → j < count → Among f v.held.got → f.unit < slice_index w.seen j → end_of f ≤ slice_index w.seen j
  pub from : v.held.floor ≤ least
  pub reached : (u : ℕ) → v.held.floor ≤ u → u < least → Has v.held.got u
  pub edge : (f : Frame) → Among f v.held.got → f.unit < least → end_of f ≤ least

-- the ones of some mask are taken out of a word
abbrev pub clear_word : Held → ℕ → ℕ → ℕ
clear_word h k m = bit_and (slice_index h.words k) (bit_not w64 m)

abbrev pub MayDrop : Key → View → ℕ → ℕ → ℕ → ℕ → List Frame → Type 0
MayDrop key v k at count floor got = (m : ℕ) → IsMask m (at % 64) (at % 64 + count) → May key v k (clear_word v.held k m) floor got

pub record DropsBits (v : View) (k at count floor : ℕ) (got : List Frame) (w : View) : Type 0 where
  pub bits : ℕ
  pub mask : IsMask bits (at % 64) (at % 64 + count)
  pub after : w ≡ record v { held = changed v.held k (clear_word v.held k bits) floor got }

-- the start bits from the floor to a unit were cleared, and nothing else has changed
pub record Emptied (key : Key) (v : View) (low : ℕ) (w : View) : Type 0 where
  pub after : w ≡ record v { held = w.held }
  pub floor : w.held.floor ≡ v.held.floor
  pub got : w.held.got ≡ v.held.got
  pub freed : w.held.freed ≡ v.held.freed
  pub out : w.held.out ≡ v.held.out
  pub marked : IsMarked key w.held 0 0
  pub started : IsStarted key w.held low 0 0
  pub sound : Sound key w.held

-- the floor has risen, and nothing else has changed
pub record Cleared (key : Key) (v : View) (floor : ℕ) (w : View) : Type 0 where
  pub after : w ≡ record v { held = w.held }
  pub floor_is : w.held.floor ≡ floor
  pub got : w.held.got ≡ v.held.got
  pub freed : w.held.freed ≡ v.held.freed
  pub out : w.held.out ≡ v.held.out
  pub exact : IsExact key w.held

-- a floor to which may be cleared
pub record MayRise (key : Key) (v : View) (floor : ℕ) : Type 0 where
  pub from : v.held.floor ≤ floor
  pub near : floor ≤ v.held.floor + (ring key)
  pub passed : (j : ℕ) → j < length v.seen → floor ≤ slice_index v.seen j

-- none of these units was stored
abbrev pub AreFree : Held → ℕ → ℕ → Type 0
AreFree h from to = (u : ℕ) → from ≤ u → u < to → Has h.got u → ⊥
