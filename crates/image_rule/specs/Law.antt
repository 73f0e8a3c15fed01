-- What the rule says of a consumer at the moment of a look, and what each kind of step is to the stream.
use Rattle.std.specs.Prelude.{◌≡◌, ℕ, ◌+◌, ◌*◌, ◌/◌, ◌%◌, ◌^◌, ◌<◌, ◌≤◌, List, ◌∷◌, [], slice_index, slice_set}
use Rattle.std.specs.Int.{bit_at}
use mathlib.Core.Option.{Option, some}
use lib.ListN.{get_elem?}
use Rattle.atomic_table.specs.Table.{State}
use Rattle.theory.specs.Placed as placed
use Rattle.theory.specs.Placed.{Placed}
use Rattle.theory.specs.Units.{HasUnit, IsContiguous}
use Rattle.region.specs.declared.access.ReadAccess.{ReadAccess}
use Rattle.image_rule.specs.declared.view.Frame.{Frame}
use Rattle.image_rule.specs.declared.view.Key.{Key}
use Rattle.image_rule.specs.declared.view.Site.{Site}
use Rattle.image_rule.specs.declared.view.View.{View}
use Rattle.image_rule.specs.Frames.{end_of, held_place, image_length, placed_all, placed_of, ring}
use Rattle.image_rule.specs.Rule.{ImageRuled, consumer_place, image_place}
use Rattle.image_rule.specs.Steps.{Changes, Commits, Fetches, Frees, Looks, MayClear, MayCommit, MayFree, MayMark, MayMove, MayStore, MayTake, Mine, Moves, Sweeps, TakesSlots, told}

-- a consumer whose held bit is zero stands at the end of what was stored without a gap
abbrev pub EndsWithoutBit : Type 0
EndsWithoutBit =
    (t : Site) (s : State ReadAccess View) (r : ImageRuled t s) (j u : ℕ) → j < t.key.consumers → slice_index s.words (consumer_place j) ≡ 32 * u
    → bit_at (slice_index s.words (image_place + held_place (ring t.key) u)) (u % 64) ≡ 0 → IsContiguous (placed_all r.held.got) (32 * t.key.join) (slice_index s.words (consumer_place j))

-- ---- events and looks

-- the consumers stand where they stood
abbrev pub SamePositions : Key → List ℕ → List ℕ → Type 0
SamePositions key words after = (j : ℕ) → j < key.consumers → slice_index after (consumer_place j) ≡ slice_index words (consumer_place j)

-- nothing more was stored
pub record IsLook (key : Key) (words after : List ℕ) (v w : View) : Type 0 where
  pub inserting : w.inserting ≡ v.inserting
  pub stored : w.held.got ≡ v.held.got
  pub positions : SamePositions key words after

-- one frame more was stored, whose units were not
pub record IsInsert (key : Key) (words after : List ℕ) (v w : View) (s : Placed) : Type 0 where
  pub inserting : w.inserting ≡ v.inserting
  pub stored : placed_all w.held.got ≡ s ∷ placed_all v.held.got
  pub apart : (p : ℕ) → HasUnit (s ∷ []) p → HasUnit (placed_all v.held.got) p → ⊥
  pub positions : SamePositions key words after

-- a consumer goes past one of the stored frames, which starts where it stands
pub record IsMove (key : Key) (got : List Frame) (words after : List ℕ) (v w : View) (number : ℕ) (past : Placed) : Type 0 where
  pub inserting : w.inserting ≡ v.inserting
  pub stored : w.held.got ≡ v.held.got
  pub among : placed.Among past (placed_all got)
  pub here : past.at ≡ slice_index words (consumer_place number)
  pub there : slice_index after (consumer_place number) ≡ placed.end_of past
  pub others : (j : ℕ) → j < key.consumers → (j ≡ number → ⊥) → slice_index after (consumer_place j) ≡ slice_index words (consumer_place j)

-- a step on the word i, whatever stands, keeps the rule, tells this of its seat, and is such an event
abbrev pub Stepping : Site → ℕ → Mine → ℕ → (ℕ → ℕ) → (ℕ → Mine → Type 0) → (List Frame → List ℕ → List ℕ → View → Type 0) → Type 0
Stepping t id m i f told event = (s : State ReadAccess View) (r : ImageRuled t s) → get_elem? s.views id ≡ some m.0 → slice_index s.words i < 2 ^ 64
    → (w : Mine) × (homes : List (Option ReadAccess)) × ImageRuled t (record { words = slice_set s.words i (f (slice_index s.words i)); homes = homes; views = slice_set s.views id w.0 }) × told (slice_index s.words i) w × event r.held.got s.words (slice_set s.words i (f (slice_index s.words i))) w.0

abbrev pub Looking : Site → ℕ → Mine → ℕ → (ℕ → ℕ) → (ℕ → Mine → Type 0) → Type 0
Looking t id m i f told = Stepping t id m i f told (λ _ words after w. IsLook t.key words after m.0 w)

-- the kinds: of the stores of words of held bits the one that stores a frame is an event, and a reader's store of its position
pub record StepsAreEvents : Type 0 where
  pub load_position : (t : Site) (id : ℕ) (m : Mine) (j : ℕ) → m.0.inserting ≡ 1 → j < t.key.consumers → Looking t id m (consumer_place j) (λ n. n) (told (Sweeps j) m)
  pub store_later_bits : (t : Site) (id : ℕ) (m : Mine) (k x : ℕ) → m.0.inserting ≡ 1 → MayMark t.key m.0.held k x → Looking t id m (image_place + k) (λ _. x) (λ _. told (λ v n w. Changes k n v.held.floor v.held.got v w) m x)
  pub store_start_bits : (t : Site) (id : ℕ) (m : Mine) (k x : ℕ) → m.0.inserting ≡ 1 → ring t.key / 64 ≤ k → k < ring t.key / 64 * 2 → Looking t id m (image_place + k) (λ _. x) (λ _. told (λ v n w. Changes k n v.held.floor v.held.got v w) m x)
  pub clear_bits : (t : Site) (id : ℕ) (m : Mine) (floor k x : ℕ) → m.0.inserting ≡ 1 → m.0.held.out ≡ 0 → MayClear t.key m.0.held m.0.seen floor k x → Looking t id m (image_place + k) (λ _. x) (λ _. told (λ v n w. Changes k n floor v.held.got v w) m x)
  pub take_slots : (t : Site) (id : ℕ) (m : Mine) (u i : ℕ) → MayTake t.key m.0 u → Looking t id m i (λ n. n) (λ _. TakesSlots t u m)
  pub free_slots : (t : Site) (id : ℕ) (m : Mine) (f : Frame) (i : ℕ) → MayFree t f m → Looking t id m i (λ n. n) (Frees f m)
  pub insert : (t : Site) (id : ℕ) (m : Mine) (f : Frame) (k x : ℕ) → m.0.inserting ≡ 1 → MayStore t.key m.0.held f k x → MayCommit t f m
      → Stepping t id m (image_place + k) (λ _. x) (λ _. Commits k f m x) (λ _ words after w. IsInsert t.key words after m.0 w (placed_of f))
  pub load_own_bits : (t : Site) (id : ℕ) (m : Mine) → m.0.reading.reads ≡ 1 → Looking t id m (image_place + held_place (ring t.key) m.0.reading.unit) (λ n. n) (Looks t m)
  pub load_bits : (t : Site) (id : ℕ) (m : Mine) (k : ℕ) → m.0.inserting ≡ 1 → k < image_length (ring t.key) → Looking t id m (image_place + k) (λ n. n) (told (Fetches k) m)
  pub move : (t : Site) (id : ℕ) (m : Mine) (f : Frame) → MayMove t f m
      → Stepping t id m (consumer_place m.0.reading.number) (λ _. 32 * end_of f) (λ _. Moves f m (32 * end_of f)) (λ got words after w. IsMove t.key got words after m.0 w m.0.reading.number (placed_of f))
