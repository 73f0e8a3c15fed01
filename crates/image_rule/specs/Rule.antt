-- The rule over a table's state, and the first seat.
use Rattle.std.specs.Prelude.{◌≡◌, ℕ, zero, suc, max, ◌+◌, ◌*◌, ◌%◌, ◌^◌, ◌<◌, ◌≤◌, ◌-◌, ◌⊎◌, List, [], ◌∷◌, ◌++◌, length, replicate, slice_index}
use mathlib.Core.Option.{some}
use lib.ListN.{get_elem?}
use Rattle.atomic_table.specs.Table.{State}
use Rattle.image_rule.specs.declared.view.Frame.{Frame}
use Rattle.image_rule.specs.declared.view.Held.{Held}
use Rattle.image_rule.specs.declared.view.Key.{Key}
use Rattle.region.specs.declared.access.ReadAccess.{ReadAccess}
use Rattle.image_rule.specs.declared.view.Reading.{Reading}
use Rattle.image_rule.specs.declared.view.Site.{Site}
use Rattle.image_rule.specs.declared.view.View.{View}
use Rattle.image_rule.specs.Frames.{Among, Covers, Has, IsPart, IsSpelt, Reached, StartsAt, end_of, held_bit, image_length, ring, slot_of}

-- the word of a consumer's position, on a cache line of its own; the image's words come behind all of them
abbrev pub consumer_place : ℕ → ℕ
consumer_place j = 16 * j

abbrev pub image_place : ℕ
image_place = 128

pub record IsKey (key : Key) : Type 0 where
  pub some : 0 < (ring key)
  pub whole : (ring key) % 64 ≡ 0
  pub bytes : 32 * (ring key) ≡ 3 * key.identity.geometry.term_length
  pub short : key.identity.geometry.term_length ≤ 16777216
  pub few : key.consumers ≤ 8

-- what was stored is apart; whoever stands where all before was stored finds
-- a bit only where a frame was stored
pub record Sound (key : Key) (h : Held) : Type 0 where
  pub joined : key.join ≤ h.floor
  pub long : length h.words ≡ image_length (ring key)
  pub full : (f : Frame) → Among f h.got → 0 < f.units
  pub near : (f : Frame) → Among f h.got → end_of f < h.floor + (ring key)
  pub fits : (f : Frame) → Among f h.got → length f.bytes ≤ 32 * f.units
  pub low : (f : Frame) → Among f h.got → end_of f ≤ 2 ^ 56
  pub spelt : (f : Frame) → Among f h.got → IsSpelt key.identity f
  pub apart : (f g : Frame) (u : ℕ) → Among f h.got → Among g h.got → Covers f u → Covers g u → f ≡ g
  pub marked : (f : Frame) → Among f h.got → h.floor ≤ f.unit → held_bit (ring key) h.words f.unit ≡ 1
  pub honest : (u : ℕ) → h.floor ≤ u → u < h.floor + (ring key) → Reached key.join h.got u → held_bit (ring key) h.words u ≡ 1 → Has h.got u

-- a consumer may stand at this unit: all before it was stored, it is the edge of frames, and not below the floor
pub record Stands (key : Key) (h : Held) (u : ℕ) : Type 0 where
  pub from : h.floor ≤ u
  pub reached : Reached key.join h.got u
  pub edge : (f : Frame) → Among f h.got → f.unit < u → end_of f ≤ u

pub record StandsAt (key : Key) (h : Held) (word : ℕ) : Type 0 where
  pub unit : ℕ
  pub is : word ≡ 32 * unit
  pub stands : Stands key h unit

-- who sits where: the inserter's seat, and each consumer's
pub record Owners : Type 0 where
  pub inserter : ℕ
  pub sits : ℕ → ℕ

pub record Inserts (key : Key) (h : Held) (o : Owners) (i : ℕ) (v : View) : Type 0 where
  pub seat : o.inserter ≡ i
  pub held : v.held ≡ h
  pub seen : length v.seen ≡ key.consumers
  pub looks : length v.looks ≡ key.consumers

pub record Reads (key : Key) (o : Owners) (words : List ℕ) (i : ℕ) (v : View) : Type 0 where
  pub inside : v.reading.number < key.consumers
  pub seat : o.sits v.reading.number ≡ i
  pub position : slice_index words (consumer_place v.reading.number) ≡ 32 * v.reading.unit
  pub dealt : v.undealt ≡ 0

pub record Deals (key : Key) (o : Owners) (words : List ℕ) (i j : ℕ) : Type 0 where
  pub inside : j < key.consumers
  pub seat : o.sits j ≡ i
  pub position : slice_index words (consumer_place j) ≡ 32 * key.join

pub record Knows (key : Key) (h : Held) (o : Owners) (words : List ℕ) (i : ℕ) (v : View) : Type 0 where
  pub inserts : v.inserting ≡ 1 → Inserts key h o i v
  pub few : length v.seen ≤ key.consumers
  pub swept : (j : ℕ) → j < length v.seen → 32 * slice_index v.seen j ≤ slice_index words (consumer_place j)
  pub reads : v.reading.reads ≡ 1 → Reads key o words i v
  pub deals : (j : ℕ) → j < v.undealt → Deals key o words i j
  pub known : (f : Frame) → Among f v.reading.known → Among f h.got

-- what the words and the seats are, where the inserter holds this, and these sit there
pub record WordsRuled (key : Key) (s : State ReadAccess View) (held : Held) (owners : Owners) : Type 0 where
  pub is_key : IsKey key
  pub sound : Sound key held
  pub long : length s.words ≡ image_place + image_length (ring key)
  pub mirrors : (k : ℕ) → k < image_length (ring key) → slice_index s.words (image_place + k) ≡ slice_index held.words k
  pub stands : (j : ℕ) → j < key.consumers → StandsAt key held (slice_index s.words (consumer_place j))
  pub each : (i : ℕ) (v : View) → get_elem? s.views i ≡ some v → Knows key held owners s.words i v

-- ---- memory

-- the round and the account by which the frame that begins at a unit may be read
abbrev pub Rounds : Type 0
Rounds = ℕ → ℕ × ℕ

-- a reader has its part of the frame where it stands
pub record Holds (v : View) : Type 0 where
  pub reads : v.reading.reads ≡ 1
  pub holds : v.reading.holds ≡ 1

pub record IsHolding (h : Held) (rounds : Rounds) (v : View) : Type 0 where
  pub round : v.reading.round ≡ (rounds v.reading.unit).0
  pub book : v.reading.book ≡ (rounds v.reading.unit).1
  pub starts : StartsAt h.got v.reading.unit

-- a slot's value is a part of the frame that begins at the unit, if one does whose memory wasn't taken back
abbrev pub IsPartAt : Site → Held → Rounds → ℕ → ReadAccess → Type 0
IsPartAt t h rounds u g = (f : Frame) → Among f h.got → f.unit ≡ u → h.freed ≤ u → IsPart (ring t.key) t.region f (rounds u).0 (rounds u).1 g

pub record IsHome (t : Site) (s : State ReadAccess View) (h : Held) (rounds : Rounds) (u j : ℕ) : Type 0 where
  pub part : ReadAccess
  pub there : get_elem? s.homes (slot_of (ring t.key) u j) ≡ some (some part)
  pub is : IsPartAt t h rounds u part

-- the part is with its reader
pub record IsWithReader (s : State ReadAccess View) (u j : ℕ) : Type 0 where
  pub seat : ℕ
  pub view : View
  pub there : get_elem? s.views seat ≡ some view
  pub holds : Holds view
  pub number : view.reading.number ≡ j
  pub unit : view.reading.unit ≡ u

-- no frame begins at the unit, or all consumers have left it
abbrev pub IsLeft : Site → State ReadAccess View → Held → ℕ → Type 0
IsLeft t s h u = (StartsAt h.got u → ⊥) ⊎ ((j : ℕ) → j < t.key.consumers → 32 * u < slice_index s.words (consumer_place j))

-- each part of a frame that isn't left lies in its slot, or is with its reader
pub record MemoryRuled (t : Site) (s : State ReadAccess View) (h : Held) (rounds : Rounds) : Type 0 where
  pub shelves : length s.homes ≡ 8 * ring t.key
  pub freed : (j : ℕ) → j < t.key.consumers → 32 * h.freed ≤ slice_index s.words (consumer_place j)
  pub holding : (i : ℕ) (v : View) → get_elem? s.views i ≡ some v → Holds v → IsHolding h rounds v
  pub left : (u : ℕ) → h.out ≡ suc u → IsLeft t s h u
  pub slots : (u j : ℕ) → h.floor ≤ u → u < h.floor + ring t.key → j < 8 → IsHome t s h rounds u j ⊎ ((h.out ≡ suc u) ⊎ IsWithReader s u j)

pub record ImageRuled (t : Site) (s : State ReadAccess View) : Type 0 where
  pub held : Held
  pub owners : Owners
  pub rounds : Rounds
  pub words : WordsRuled t.key s held owners
  pub memory : MemoryRuled t s held rounds

-- ---- the first seat

abbrev pub first_held : Key → Held
first_held key = record { floor = key.join; got = []; words = replicate (image_length (ring key)) 0; freed = key.join; out = 0 }

abbrev pub no_reading : Reading
no_reading = record { reads = 0; number = 0; unit = 0; misses = 0; known = []; holds = 0; round = 0; book = 0 }

abbrev pub first_seat : Key → View
first_seat key = record { inserting = 1; held = first_held key; seen = replicate key.consumers key.join; looks = replicate key.consumers 0; undealt = key.consumers; reading = no_reading }

abbrev pub whole_seat : Site → View
whole_seat t = first_seat t.key

-- so many consumers stand at a unit, and the other words are as they were
pub record BeginsAt (count unit : ℕ) (words after : List ℕ) : Type 0 where
  pub wide : length after ≡ length words
  pub consumers : (j : ℕ) → j < count → slice_index after (consumer_place j) ≡ 32 * unit
  pub others : (i : ℕ) → image_place ≤ i → slice_index after i ≡ slice_index words i

-- the words of an image that opens
pub record Begun (key : Key) (words : List ℕ) : Type 0 where
  pub long : length words ≡ image_place + image_length (ring key)
  pub consumers : (j : ℕ) → j < key.consumers → slice_index words (consumer_place j) ≡ 32 * key.join
  pub zeros : (k : ℕ) → k < image_length (ring key) → slice_index words (image_place + k) ≡ 0

-- ---- seats are dealt, and told

abbrev pub empty_held : Held
empty_held = record { floor = 0; got = []; words = []; freed = 0; out = 0 }

-- a seat that knows these frames, and that consumers stand there or further on
abbrev pub news_seat : List Frame → List ℕ → View
news_seat known seen = record { inserting = 0; held = empty_held; seen = seen; looks = []; undealt = 0; reading = record no_reading { known = known } }

abbrev pub dealing_seat : View → View
dealing_seat v = record v { undealt = v.undealt - 1 }

abbrev pub reader_seat : ℕ → View → View
reader_seat unit v = record (news_seat [] []) { reading = record no_reading { reads = 1; number = v.undealt - 1; unit = unit } }

abbrev pub told_seat : View → View → View
told_seat v w = record v { seen = w.seen; reading = record v.reading { known = v.reading.known ++ w.reading.known } }

-- that a consumer stands at a unit or further on, and of those before it nothing
abbrev pub only_at : ℕ → ℕ → List ℕ
only_at zero unit = unit ∷ []
only_at (suc n) unit = 0 ∷ only_at n unit

abbrev pub findings_seat : View → View
findings_seat v = news_seat v.reading.known (only_at v.reading.number v.reading.unit)

-- the greater of what two say of each, of as many as the first says something
abbrev pub greater_each : List ℕ → List ℕ → List ℕ
greater_each [] ys = []
greater_each (x ∷ xs) [] = x ∷ xs
greater_each (x ∷ xs) (y ∷ ys) = max x y ∷ greater_each xs ys

abbrev pub attending_seat : View → View → View
attending_seat v w = record v { seen = greater_each v.seen w.seen; reading = record v.reading { known = v.reading.known ++ w.reading.known } }
