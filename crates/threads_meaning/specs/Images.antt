-- An image that threads share, as an image of the model; and which event of the model each step on its words is.
-- What the model has and the table hasn't: the window and the high-water mark are the inserter's own, and no words; so is what
-- an assembler makes of the frames that a consumer passes.
use Rattle.std.specs.Prelude.{◌≡◌, ◌⊎◌, ℕ, ◌+◌, ◌*◌, ◌/◌, ◌^◌, ◌<◌, ◌≤◌, List, [], ◌∷◌, ◌++◌, length, map, Some, slice_get, slice_index, slice_set}
use mathlib.Core.Option.{some}
use lib.ListN.{get_elem?}
use Rattle.atomic_table.specs.Table.{State}
use Rattle.region.specs.declared.access.ReadAccess.{ReadAccess}
use Rattle.theory.specs.Consumer.{Consumer}
use Rattle.theory.specs.Image.{Image, ImageEvent, ImageStep, Inserted, Lose, Poll, image_at}
use Rattle.theory.specs.Insert.{Stored, head_of, insert_answer}
use Rattle.theory.specs.Placed.{Placed}
use Rattle.theory.specs.Position.{Geometry}
use Rattle.image_rule.specs.declared.view.Frame.{Frame}
use Rattle.image_rule.specs.declared.view.Site.{Site}
use Rattle.image_rule.specs.declared.view.View.{View}
use Rattle.image_rule.specs.Frames.{end_of, held_place, image_length, placed_all, placed_of, ring}
use Rattle.image_rule.specs.Law.{IsInsert, IsLook, IsMove}
use Rattle.image_rule.specs.Rule.{Begun, ImageRuled, consumer_place, image_place, whole_seat}
use Rattle.image_rule.specs.Says.{join_of}
use Rattle.image_rule.specs.Steps.{Changes, Commits, Fetches, Frees, Looks, MayClear, MayCommit, MayFree, MayMark, MayMove, MayStore, MayTake, Mine, Moves, Sweeps, TakesSlots, told}
use Rattle.model.specs.Headline.{HasLogBytes, HasPolled, StayWithin}
use Rattle.model.specs.World.{AtImage, Event, IsOpened, Run, World}

abbrev pub Table : Type 0
Table = State ReadAccess View

-- ---- what an image is

-- a consumer with this number, which stands where its word says
pub record StandsAt (words : List ℕ) (consumers : List Consumer) (number : ℕ) : Type 0 where
  pub consumer : Consumer
  pub is : slice_get consumers number ≡ Some consumer
  pub here : slice_index words (consumer_place number) ≡ consumer.at

-- the words and seats of a table are this image: what was stored is what the inserter's seat has, in the order in which it was
-- stored, and each consumer's word is where that stands
pub record IsImageOf (t : Site) (s : Table) (i : Image) : Type 0 where
  pub ruled : ImageRuled t s
  pub seat : ℕ
  pub inserter : View
  pub there : get_elem? s.views seat ≡ some inserter
  pub inserts : inserter.inserting ≡ 1
  pub join : i.join ≡ join_of t.key
  pub stored : i.stored ≡ placed_all inserter.held.got
  pub count : length i.consumers ≡ t.key.consumers
  pub consumers : (j : ℕ) → j < t.key.consumers → StandsAt s.words i.consumers j

-- ---- steps

-- what one step does to the table: it looks, stores a frame, or moves a consumer past a frame
pub data Kind : Type 0 where
  Look : Kind
  Store : (frame : Frame) → Kind
  Move : (number : ℕ) (frame : Frame) → Kind

-- what the law of the steps on an image's words says of a step of each kind, by the frames that were stored, the words before and
-- after, and the seat before and after
abbrev pub IsKind : Site → Kind → List Frame → List ℕ → List ℕ → View → View → Type 0
IsKind t Look got words after v w = IsLook t.key words after v w
IsKind t (Store f) got words after v w = IsInsert t.key words after v w (placed_of f) × (v.inserting ≡ 1)
IsKind t (Move j f) got words after v w = IsMove t.key got words after v w j (placed_of f) × (j < t.key.consumers)

-- a seat has made such a step, in whatever thread
pub record StepsTo (t : Site) (s : Table) (k : Kind) (s' : Table) : Type 0 where
  pub before : ImageRuled t s
  pub after : ImageRuled t s'
  pub seat : ℕ
  pub old : View
  pub new : View
  pub there : get_elem? s.views seat ≡ some old
  pub views : s'.views ≡ slice_set s.views seat new
  pub is : IsKind t k before.held.got s.words s'.words old new

-- behind a step of a seat on the word i, which tells this of the seat: the table that it leads to, by a step of this kind
pub record HasKind (t : Site) (s : Table) (k : Kind) (seat i : ℕ) (f : ℕ → ℕ) (told : ℕ → Mine → Type 0) : Type 0 where
  pub after : Table
  pub mine : Mine
  pub words : after.words ≡ slice_set s.words i (f (slice_index s.words i))
  pub views : after.views ≡ slice_set s.views seat mine.0
  pub tells : told (slice_index s.words i) mine
  pub steps : StepsTo t s k after

-- a seat may make the step, whose word is one
abbrev pub IsReady : Table → ℕ → Mine → ℕ → Type 0
IsReady s seat m i = (get_elem? s.views seat ≡ some m.0) × (slice_index s.words i < 2 ^ 64)

-- the kinds of step on an image's words: the store of the word of held bits that stores a frame, a reader's store of its position,
-- and those that are looks
pub record StepsHaveKinds : Type 0 where
  pub insert : (t : Site) (s : Table) (id : ℕ) (m : Mine) (f : Frame) (k x : ℕ) → ImageRuled t s → IsReady s id m (image_place + k) → m.0.inserting ≡ 1 → MayStore t.key m.0.held f k x → MayCommit t f m
      → HasKind t s (Store f) id (image_place + k) (λ _. x) (λ _. Commits k f m x)
  pub move : (t : Site) (s : Table) (id : ℕ) (m : Mine) (f : Frame) → ImageRuled t s → IsReady s id m (consumer_place m.0.reading.number) → MayMove t f m
      → HasKind t s (Move m.0.reading.number f) id (consumer_place m.0.reading.number) (λ _. 32 * end_of f) (λ _. Moves f m (32 * end_of f))
  pub load_position : (t : Site) (s : Table) (id : ℕ) (m : Mine) (j : ℕ) → ImageRuled t s → IsReady s id m (consumer_place j) → m.0.inserting ≡ 1 → j < t.key.consumers
      → HasKind t s Look id (consumer_place j) (λ n. n) (told (Sweeps j) m)
  pub store_later_bits : (t : Site) (s : Table) (id : ℕ) (m : Mine) (k x : ℕ) → ImageRuled t s → IsReady s id m (image_place + k) → m.0.inserting ≡ 1 → MayMark t.key m.0.held k x
      → HasKind t s Look id (image_place + k) (λ _. x) (λ _. told (λ v n w. Changes k n v.held.floor v.held.got v w) m x)
  pub store_start_bits : (t : Site) (s : Table) (id : ℕ) (m : Mine) (k x : ℕ) → ImageRuled t s → IsReady s id m (image_place + k) → m.0.inserting ≡ 1 → ring t.key / 64 ≤ k → k < ring t.key / 64 * 2
      → HasKind t s Look id (image_place + k) (λ _. x) (λ _. told (λ v n w. Changes k n v.held.floor v.held.got v w) m x)
  pub clear_bits : (t : Site) (s : Table) (id : ℕ) (m : Mine) (floor k x : ℕ) → ImageRuled t s → IsReady s id m (image_place + k) → m.0.inserting ≡ 1 → m.0.held.out ≡ 0 → MayClear t.key m.0.held m.0.seen floor k x
      → HasKind t s Look id (image_place + k) (λ _. x) (λ _. told (λ v n w. Changes k n floor v.held.got v w) m x)
  pub take_slots : (t : Site) (s : Table) (id : ℕ) (m : Mine) (u i : ℕ) → ImageRuled t s → IsReady s id m i → MayTake t.key m.0 u → HasKind t s Look id i (λ n. n) (λ _. TakesSlots t u m)
  pub free_slots : (t : Site) (s : Table) (id : ℕ) (m : Mine) (f : Frame) (i : ℕ) → ImageRuled t s → IsReady s id m i → MayFree t f m → HasKind t s Look id i (λ n. n) (Frees f m)
  pub load_own_bits : (t : Site) (s : Table) (id : ℕ) (m : Mine) → ImageRuled t s → IsReady s id m (image_place + held_place (ring t.key) m.0.reading.unit) → m.0.reading.reads ≡ 1
      → HasKind t s Look id (image_place + held_place (ring t.key) m.0.reading.unit) (λ n. n) (Looks t m)
  pub load_bits : (t : Site) (s : Table) (id : ℕ) (m : Mine) (k : ℕ) → ImageRuled t s → IsReady s id m (image_place + k) → m.0.inserting ≡ 1 → k < image_length (ring t.key)
      → HasKind t s Look id (image_place + k) (λ n. n) (told (Fetches k) m)

-- ---- events

-- the events of the model that a step is, of an image that may be given these frames: a look is none; a frame that is stored is one
-- that was given, and the model's answer to it is that it is stored; who moves past a frame heard it, or lost it
abbrev pub IsEvent : Geometry → List Placed → Image → Kind → List ImageEvent → Image → Type 0
IsEvent g given i Look events new = (events ≡ []) × (new ≡ i)
IsEvent g given i (Store f) events new =
    (least : ℕ) × (events ≡ Inserted least (placed_of f) ∷ []) × (insert_answer g (map head_of i.stored) least i.window (head_of (placed_of f)) ≡ Stored)
    × ImageStep g given i (Inserted least (placed_of f)) new
IsEvent g given i (Move j f) events new =
    ((events ≡ Poll j (placed_of f) ∷ []) × ImageStep g given i (Poll j (placed_of f)) new) ⊎ ((events ≡ Lose j (placed_of f) ∷ []) × ImageStep g given i (Lose j (placed_of f)) new)

-- a table that shows an image shows, behind a step, any image to which the events of that step lead
abbrev pub StepsAreEvents : Type 0
StepsAreEvents =
    (t : Site) (s s' : Table) (k : Kind) (g : Geometry) (given : List Placed) (i new : Image) (events : List ImageEvent)
    → IsImageOf t s i → StepsTo t s k s' → IsEvent g given i k events new → IsImageOf t s' new

-- a consumer may always be moved in the model where it is moved in the table
abbrev pub MovesAreEvents : Type 0
MovesAreEvents =
    (t : Site) (s s' : Table) (j : ℕ) (f : Frame) (g : Geometry) (given : List Placed) (i : Image)
    → IsImageOf t s i → StepsTo t s (Move j f) s' → (new : Image) × ImageStep g given i (Lose j (placed_of f)) new

-- a table that was just opened shows an image that has stored nothing, whose consumers stand at the join
abbrev pub OpensImage : Type 0
OpensImage = (t : Site) (s : Table) (window : ℕ) → ImageRuled t s → Begun t.key s.words → s.views ≡ whole_seat t ∷ [] → IsImageOf t s (image_at (join_of t.key) window t.key.consumers)

-- ---- the headline, of a table

-- each byte that it has stored is the publisher's, its consumers stay within what is contiguous, and that within the mark, and what
-- each was given is a prefix's messages
pub record IsHonest (w : World) (i : Image) : Type 0 where
  pub rebuilt : HasLogBytes w.log i
  pub bounded : StayWithin i.stored i.join i.high (map (λ r. r.at) i.consumers)
  pub polled : (j : ℕ) (r : Consumer) → slice_get i.consumers j ≡ Some r → HasPolled w.log.entries r × (r.join ≡ i.join)

-- in a world that a run leads to, an image that a table shows
pub record IsInWorld (t : Site) (s : Table) (w : World) (which : ℕ) (i : Image) : Type 0 where
  pub there : slice_get w.images which ≡ Some (Some i)
  pub shown : IsImageOf t s i

-- each event of the image is one of the world
abbrev pub in_world : ℕ → List ImageEvent → List Event
in_world which events = map (AtImage which) events

-- a step on the words of such a table goes on with the run, and what the headline says of its image holds behind it, too
pub record GoesOn (t : Site) (s : Table) (first w : World) (events : List Event) (which : ℕ) (new : Image) : Type 0 where
  pub world : World
  pub run : Run first events world
  pub shown : IsInWorld t s world which new
  pub honest : IsHonest world new

abbrev pub TablesAreInRuns : Type 0
TablesAreInRuns =
    (t : Site) (s s' : Table) (k : Kind) (first w : World) (past : List Event) (which : ℕ) (i new : Image) (events : List ImageEvent)
    → IsOpened first → Run first past w → IsInWorld t s w which i → StepsTo t s k s' → IsEvent w.log.identity.geometry w.sender.sent i k events new
    → GoesOn t s' first w (past ++ in_world which events) which new
