-- What the inserter's looks say.
use Rattle.std.specs.Prelude.{◌≡◌, ℕ, ◌+◌, ◌*◌, ◌/◌, ◌%◌, ◌<◌, ◌≤◌, ◌↔◌, take}
use Rattle.std.specs.Int.{bit_at, to_le_bytes, w64}
use Rattle.theory.specs.Placed as placed
use Rattle.theory.specs.Placed.{Placed}
use Rattle.theory.specs.Units.{HasUnit}
use Rattle.position.specs.declared.head.FrameHead.{FrameHead}
use Rattle.position.specs.Heads.{head_of}
use Rattle.image_rule.specs.declared.view.Frame.{Frame}
use Rattle.image_rule.specs.Frames.{Among}
use Rattle.image.specs.Handles.{InserterSeat, floor_of, stored_by}

-- none of the units between two positions was stored
abbrev pub AreFree : InserterSeat → ℕ → ℕ → Type 0
AreFree n from to = (p : ℕ) → from ≤ p → p < to → HasUnit (stored_by n) p → ⊥

-- the word of these units: a position's bit is set where a unit was stored there, for each from the floor on, below three terms
-- more
abbrev pub TellsUnits : InserterSeat → ℕ → ℕ → Type 0
TellsUnits n index word =
    (p : ℕ) → p % 32 ≡ 0 → floor_of n ≤ p → p < floor_of n + 3 * n.key.identity.geometry.term_length → p % (3 * n.key.identity.geometry.term_length) / 2048 ≡ index → (bit_at word (p % 2048 / 32) ≡ 1) ↔ HasUnit (stored_by n) p

-- the first bytes of each frame that was stored there, which is one
abbrev pub IsFirstWord : InserterSeat → ℕ → ℕ → Type 0
IsFirstWord n position word = (f : Frame) → Among f n.view.held.got → 32 * f.unit ≡ position → to_le_bytes w64 word ≡ take 8 f.bytes

abbrev pub IsHeadOf : InserterSeat → ℕ → FrameHead → Type 0
IsHeadOf n position head = (s : Placed) → placed.Among s (stored_by n) → s.at ≡ position → head ≡ head_of position s.frame
