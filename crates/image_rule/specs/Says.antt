-- What the rule says of an image's table, whatever its words and seats are, in the words of the stream.
use Rattle.std.specs.Prelude.{◌≡◌, ℕ, ◌+◌, ◌*◌, ◌/◌, ◌%◌, ◌<◌, ◌≤◌, ◌⊎◌, List, [], ◌∷◌, length, slice_index, take}
use Rattle.std.specs.Int.{bit_at}
use Rattle.std.specs.List.{AllByRecursion}
use mathlib.Core.Option.{some}
use lib.ListN.{get_elem?}
use Rattle.atomic_table.specs.Table.{State}
use Rattle.theory.specs.Placed.{Among, Placed, end_of}
use Rattle.theory.specs.Units.{HasUnit, IsContiguous}
use Rattle.theory.specs.Bytes.{bytes_of}
use Rattle.region.specs.declared.access.ReadAccess.{ReadAccess}
use Rattle.image_rule.specs.declared.view.Key.{Key}
use Rattle.image_rule.specs.declared.view.Site.{Site}
use Rattle.image_rule.specs.declared.view.View.{View}
use Rattle.image_rule.specs.Frames.{HasStart, IsContent, byte_place, held_place, placed_all, ring, slot_of}
use Rattle.image_rule.specs.Rule.{ImageRuled, IsWithReader, consumer_place, image_place}

-- the position at which the image joins the stream
abbrev pub join_of : Key → ℕ
join_of key = 32 * key.join

-- the held bit of the unit that begins at a position
abbrev pub bit_there : Key → List ℕ → ℕ → ℕ
bit_there key words p = bit_at (slice_index words (image_place + held_place (ring key) (p / 32))) (p / 32 % 64)

-- a stored frame stands there: it begins at a whole unit, and the held bit of its first unit is set
pub record StandsThere (key : Key) (words : List ℕ) (s : Placed) : Type 0 where
  pub unit : s.at % 32 ≡ 0
  pub content : IsContent s.frame
  pub marked : bit_there key words s.at ≡ 1

-- a part of the right to read a frame's memory, which begins with its bytes, as on the wire
pub record ShowsFrame (t : Site) (s : Placed) (part : ReadAccess) : Type 0 where
  pub identity : part.identity ≡ t.region.identity
  pub at : part.at ≡ byte_place (ring t.key) (s.at / 32)
  pub bytes : take (length (bytes_of t.key.identity s)) part.items ≡ bytes_of t.key.identity s

-- a consumer's part of a frame lies in its slot, or is with its reader, which stands there
abbrev pub HasPart : Site → State ReadAccess View → ℕ → Placed → Type 0
HasPart t x j s = ((part : ReadAccess) × (get_elem? x.homes (slot_of (ring t.key) (s.at / 32) j) ≡ some (some part)) × ShowsFrame t s part) ⊎ IsWithReader x (s.at / 32) j

-- a consumer stands in whole units, at the edge of frames, with all stored from the join to it, and with all kept that it may
-- read yet; a set bit there is that of a frame which begins there, and without one it stands at the contiguous end
pub record IsStanding (key : Key) (words : List ℕ) (stored : List Placed) (cleared end position : ℕ) : Type 0 where
  pub unit : position % 32 ≡ 0
  pub from : join_of key ≤ position
  pub kept : cleared ≤ position
  pub below : position ≤ end
  pub edge : (s : Placed) → Among s stored → s.at < position → end_of s ≤ position
  pub shows : bit_there key words position ≡ 1 → HasStart stored position
  pub ends : bit_there key words position ≡ 0 → position ≡ end

-- the inserter's seat has just these frames, and clears so far
pub record KnowsStored (stored : List Placed) (cleared : ℕ) (v : View) : Type 0 where
  pub all : placed_all v.held.got ≡ stored
  pub floor : 32 * v.held.floor ≡ cleared

-- a reader's seat is one of the consumers, and its word is where it says
pub record IsConsumer (key : Key) (words : List ℕ) (v : View) : Type 0 where
  pub number : v.reading.number < key.consumers
  pub position : slice_index words (consumer_place v.reading.number) ≡ 32 * v.reading.unit

pub record Says (t : Site) (x : State ReadAccess View) (key : Key) (words : List ℕ) (seats : List View) : Type 0 where
  -- the frames that were ever stored, and the position below which none need stand any more
  pub stored : List Placed
  pub cleared : ℕ
  -- the end of what was stored without a gap
  pub end : ℕ
  -- two of them that have a unit in common are one
  pub apart : (s t : Placed) (p : ℕ) → Among s stored → Among t stored → HasUnit (s ∷ []) p → HasUnit (t ∷ []) p → s ≡ t
  -- from there on each stands as it was stored
  pub stands : (s : Placed) → Among s stored → cleared ≤ s.at → StandsThere key words s
  -- each consumer has its part of each that it hasn't left
  pub parts : (s : Placed) (j : ℕ) → Among s stored → j < key.consumers → slice_index words (consumer_place j) ≤ s.at → HasPart t x j s
  pub contiguous : IsContiguous stored (join_of key) end
  -- no mark is below it, which the join and the ends of all stored frames are not above
  pub marks : (mark : ℕ) → join_of key ≤ mark → AllByRecursion (λ s. end_of s ≤ mark) stored → end ≤ mark
  pub consumers : (j : ℕ) → j < key.consumers → IsStanding key words stored cleared end (slice_index words (consumer_place j))
  -- who inserts is one seat, which knows what was stored
  pub inserter : (i : ℕ) (v : View) → get_elem? seats i ≡ some v → v.inserting ≡ 1 → KnowsStored stored cleared v
  pub one : (i j : ℕ) (v w : View) → get_elem? seats i ≡ some v → get_elem? seats j ≡ some w → v.inserting ≡ 1 → w.inserting ≡ 1 → i ≡ j
  -- no two readers are one consumer, and what any seat knows was stored
  pub readers : (i : ℕ) (v : View) → get_elem? seats i ≡ some v → v.reading.reads ≡ 1 → IsConsumer key words v
  pub numbers : (i j : ℕ) (v w : View) → get_elem? seats i ≡ some v → get_elem? seats j ≡ some w → v.reading.reads ≡ 1 → w.reading.reads ≡ 1 → v.reading.number ≡ w.reading.number → i ≡ j
  pub known : (i : ℕ) (v : View) (s : Placed) → get_elem? seats i ≡ some v → Among s (placed_all v.reading.known) → Among s stored

-- whatever state the rule holds of
abbrev pub RuleSays : Type 0
RuleSays = (t : Site) (s : State ReadAccess View) → ImageRuled t s → Says t s t.key s.words s.views
