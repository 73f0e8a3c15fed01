-- What each kind of step asks and tells.
use Rattle.std.specs.Prelude.{◌≡◌, pos, ℕ, zero, suc, ◌+◌, ◌*◌, ◌/◌, ◌%◌, ◌^◌, ◌<◌, ◌≤◌, ◌⊎◌, List, [], ◌∷◌, length, slice_index, slice_set}
use Rattle.std.specs.Int.{bit_at}
use Rattle.atomic_table.specs.Table.{Me}
use Rattle.region.specs.declared.access.ReadAccess.{ReadAccess}
use Rattle.region.specs.declared.access.RegionKey.{RegionKey}
use Rattle.theory.specs.Bytes.{Identity}
use Rattle.image_rule.specs.declared.view.Frame.{Frame}
use Rattle.image_rule.specs.declared.view.Held.{Held}
use Rattle.image_rule.specs.declared.view.Key.{Key}
use Rattle.image_rule.specs.declared.view.Site.{Site}
use Rattle.image_rule.specs.declared.view.View.{View}
use Rattle.image_rule.specs.Frames.{Among, Covers, Has, IsPart, IsSpelt, Says, StartsAt, end_of, held_bit, held_place, ring, slot_of}
use Rattle.image_rule.specs.Rule.{IsPartAt, Rounds, Sound, Stands}

-- a table that no call picks
abbrev pub no_site : Site
no_site = record { key = record { identity = record { geometry = record { term_length = 0; mtu = 0; initial_term_id = pos 0 }; session = pos 0; stream = pos 0 }; join = 0; consumers = 0 }; region = record { identity = record { life = 0; names = []; block = 0; first = 0 } } }

abbrev pub Mine : Type 0
Mine = Me ReadAccess View

-- no slot is taken
abbrev pub told : (View → ℕ → View → Type 0) → Mine → ℕ → Mine → Type 0
told then m n m' = (m'.1 ≡ m.1) × then m.0 n m'.0

-- ---- a reader

abbrev pub with_known : View → Frame → View
with_known v f = record v { reading = record v.reading { known = f ∷ v.reading.known } }

-- it has its part of a frame, of this round and this account
abbrev pub holding : View → ℕ → ℕ → View
holding v round book = record v { reading = record v.reading { holds = 1; round = round; book = book } }

-- a frame begins where the reader stands, and it knows it from then on; one that it knew there is the same
pub record FindsFrame (v w : View) : Type 0 where
  pub frame : Frame
  pub here : frame.unit ≡ v.reading.unit
  pub low : end_of frame ≤ 2 ^ 56
  pub says : Says frame
  pub only : (g : Frame) → Among g v.reading.known → g.unit ≡ v.reading.unit → g ≡ frame
  pub after : w ≡ holding (with_known v frame) w.reading.round w.reading.book

abbrev pub with_miss : View → View
with_miss v = record v { reading = record v.reading { misses = suc v.reading.misses } }

-- a reader takes its part of a frame, behind what it carries
pub record TakesPart (n : ℕ) (region : RegionKey) (f : Frame) (before : List (ℕ × ReadAccess)) (number : ℕ) (w : View) (mine : List (ℕ × ReadAccess)) : Type 0 where
  pub part : ReadAccess
  pub is : IsPart n region f w.reading.round w.reading.book part
  pub after : mine ≡ (slot_of n f.unit number, part) ∷ before

-- a frame begins where a reader stands: it knows it, and has its part of it; it takes it, where it hasn't
pub record FindsPart (t : Site) (m m' : Mine) : Type 0 where
  pub found : FindsFrame m.0 m'.0
  pub has : m.0.reading.holds ≡ 1 → (m'.1 ≡ m.1) × (m'.0.reading.round ≡ m.0.reading.round) × (m'.0.reading.book ≡ m.0.reading.book)
  pub takes : m.0.reading.holds ≡ 0 → TakesPart (ring t.key) t.region found.frame m.1 m.0.reading.number m'.0 m'.1

-- by the bit of where it stands: without it the reader knows no frame there
pub record Looks (t : Site) (m : Mine) (n : ℕ) (m' : Mine) : Type 0 where
  pub none : bit_at n (m.0.reading.unit % 64) ≡ 0 → (m'.0 ≡ with_miss m.0) × (m'.1 ≡ m.1) × ((g : Frame) → Among g m.0.reading.known → g.unit ≡ m.0.reading.unit → ⊥)
  pub found : bit_at n (m.0.reading.unit % 64) ≡ 1 → FindsPart t m m'

-- a reader knows a frame where it stands
pub record IsBefore (f : Frame) (v : View) : Type 0 where
  pub reads : v.reading.reads ≡ 1
  pub known : Among f v.reading.known
  pub here : f.unit ≡ v.reading.unit

-- it has its part of it, and carries that
pub record MayMove (t : Site) (f : Frame) (m : Mine) : Type 0 where
  pub before : IsBefore f m.0
  pub holds : m.0.reading.holds ≡ 1
  pub carries : TakesPart (ring t.key) t.region f [] m.0.reading.number m.0 m.1

abbrev pub moved_to : View → ℕ → View
moved_to v u = record v { reading = record v.reading { unit = u; holds = 0 } }

abbrev pub Moves : Frame → Mine → ℕ → Mine → Type 0
Moves f m n m' = (m'.0 ≡ moved_to m.0 (end_of f)) × (m'.1 ≡ [])

-- ---- the inserter

-- a consumer stands at a unit, not below the one where it was seen before
pub record Sweeps (j : ℕ) (v : View) (n : ℕ) (w : View) : Type 0 where
  pub unit : ℕ
  pub is : n ≡ 32 * unit
  pub further : slice_index v.seen j ≤ unit
  pub from : v.held.floor ≤ unit
  pub reached : (u : ℕ) → v.held.floor ≤ u → u < unit → Has v.held.got u
  pub edge : (f : Frame) → Among f v.held.got → f.unit < unit → end_of f ≤ unit
  pub after : w ≡ record v { seen = slice_set v.seen j unit; looks = slice_set v.looks j (suc (slice_index v.looks j)) }

-- nobody else stores these words
abbrev pub Fetches : ℕ → View → ℕ → View → Type 0
Fetches k v n w = (n ≡ slice_index v.held.words k) × (w ≡ v)

-- a reader stands where it was seen, or further on, and within no frame that it knows
pub record Settles (v w : View) : Type 0 where
  pub further : slice_index v.seen v.reading.number ≤ v.reading.unit
  pub edge : (f : Frame) → Among f v.reading.known → f.unit < v.reading.unit → end_of f ≤ v.reading.unit
  pub after : w ≡ v

-- what it knows was stored by it, and so was all up to where consumers were seen
pub record Confirms (v w : View) : Type 0 where
  pub stored : (f : Frame) → Among f v.reading.known → Among f v.held.got
  pub reached : (j u : ℕ) → j < length v.seen → v.held.floor ≤ u → u < slice_index v.seen j → Has v.held.got u
  pub after : w ≡ v

-- the inserter's image after a store
abbrev pub changed : Held → ℕ → ℕ → ℕ → List Frame → Held
changed h k x floor got = record h { floor = floor; got = got; words = slice_set h.words k x }

abbrev pub Changes : ℕ → ℕ → ℕ → List Frame → View → View → Type 0
Changes k x floor got v w = w ≡ record v { held = changed v.held k x floor got }

-- what a store may do: what was stored stays, and who stands at or above the floor may stand there still
pub record May (key : Key) (v : View) (k x floor : ℕ) (got : List Frame) : Type 0 where
  pub inserts : v.inserting ≡ 1
  pub sound : Sound key v.held → Sound key (changed v.held k x floor got)
  pub grows : (f : Frame) → Among f v.held.got → Among f got
  pub stands : Sound key v.held → (u : ℕ) → Stands key v.held u → floor ≤ u → Stands key (changed v.held k x floor got) u
  pub seen : (floor ≡ v.held.floor) ⊎ ((j : ℕ) → j < length v.seen → floor ≤ slice_index v.seen j)

-- the floor stays, or rises where no slots are out, by a ring at the most
abbrev pub MayRaise : Key → View → ℕ → Type 0
MayRaise key v floor = (floor ≡ v.held.floor) ⊎ ((v.held.out ≡ 0) × (v.held.floor ≤ floor) × (floor ≤ v.held.floor + ring key))

-- ---- the kinds of store

-- in the window, a word of held bits keeps each bit that is set
abbrev pub Keeps : Key → Held → ℕ → ℕ → Type 0
Keeps key h k x = (u : ℕ) → h.floor ≤ u → u < h.floor + (ring key) → held_place (ring key) u ≡ k → held_bit (ring key) h.words u ≡ 1 → bit_at x (u % 64) ≡ 1

-- there is a unit before this one that wasn't stored, so no consumer comes here
pub record IsAhead (key : Key) (h : Held) (u : ℕ) : Type 0 where
  pub unit : ℕ
  pub from : key.join ≤ unit
  pub before : unit < u
  pub free : Has h.got unit → ⊥

-- bits of a frame are set before it is stored
pub record MayMark (key : Key) (h : Held) (k x : ℕ) : Type 0 where
  pub inside : k < (ring key) / 64
  pub keeps : Keeps key h k x
  pub ahead : (u : ℕ) → h.floor ≤ u → u < h.floor + (ring key) → held_place (ring key) u ≡ k → bit_at x (u % 64) ≡ 1 → (held_bit (ring key) h.words u ≡ 1) ⊎ IsAhead key h u

-- the bit of a frame's first unit is set, and the frame is stored: its words stand, and there is no bit but of frames
pub record MayStore (key : Key) (h : Held) (f : Frame) (k x : ℕ) : Type 0 where
  pub from : h.floor ≤ f.unit
  pub near : end_of f < h.floor + (ring key)
  pub full : 0 < f.units
  pub fits : length f.bytes ≤ 32 * f.units
  pub low : end_of f ≤ 2 ^ 56
  pub spelt : IsSpelt key.identity f
  pub free : (u : ℕ) → Covers f u → Has h.got u → ⊥
  pub there : held_place (ring key) f.unit ≡ k
  pub keeps : Keeps key h k x
  pub marked : bit_at x (f.unit % 64) ≡ 1
  pub honest : (u : ℕ) → h.floor ≤ u → u < h.floor + (ring key) → held_bit (ring key) (slice_set h.words k x) u ≡ 1 → Has (f ∷ h.got) u

-- units that all consumers have left lose their bits, and the floor rises
pub record MayClear (key : Key) (h : Held) (seen : List ℕ) (floor k x : ℕ) : Type 0 where
  pub inside : k < (ring key) / 64
  pub from : h.floor ≤ floor
  pub passed : (j : ℕ) → j < length seen → floor ≤ slice_index seen j
  pub near : floor ≤ h.floor + (ring key)
  pub there : (u : ℕ) → h.floor ≤ u → u < floor → held_place (ring key) u ≡ k
  pub gone : (u : ℕ) → h.floor ≤ u → u < floor → bit_at x (u % 64) ≡ 0
  pub rest : (u : ℕ) → floor ≤ u → u < h.floor + (ring key) → held_place (ring key) u ≡ k → bit_at x (u % 64) ≡ held_bit (ring key) h.words u

-- ---- the slots of a unit

-- the slots of a unit's parts, so many of them from the first on, were taken over what was carried
abbrev pub TakenOver : Site → (ReadAccess → Type 0) → ℕ → ℕ → List (ℕ × ReadAccess) → List (ℕ × ReadAccess) → Type 0
TakenOver t is u zero before after = after ≡ before
TakenOver t is u (suc k) before after = (g : ReadAccess) × (rest : List (ℕ × ReadAccess)) × is g × TakenOver t is u k before rest × (after ≡ (slot_of (ring t.key) u k, g) ∷ rest)

-- all eight of them, and nothing else
abbrev pub Carries : Site → (ReadAccess → Type 0) → ℕ → List (ℕ × ReadAccess) → Type 0
Carries t is u mine = TakenOver t is u 8 [] mine

-- the slots of a unit in a ring from the floor on, where no frame begins, or one that all consumers were seen behind
pub record MayTake (key : Key) (v : View) (u : ℕ) : Type 0 where
  pub inserts : v.inserting ≡ 1
  pub idle : v.held.out ≡ 0
  pub from : v.held.floor ≤ u
  pub near : u < v.held.floor + ring key
  pub left : (StartsAt v.held.got u → ⊥) ⊎ ((j : ℕ) → j < length v.seen → u < slice_index v.seen j)

abbrev pub with_out : View → ℕ → View
with_out v n = record v { held = record v.held { out = n } }

-- the inserter takes them: each has a part of the frame that begins there, if one does whose memory wasn't taken back
pub record TakesSlots (t : Site) (u : ℕ) (m m' : Mine) : Type 0 where
  pub rounds : Rounds
  pub after : m'.0 ≡ with_out m.0 (suc u)
  pub carries : TakenOver t (IsPartAt t m.0.held rounds u) u 8 m.1 m'.1

-- the frame's parts, of one round and one account, are carried to its slots
pub record MayCommit (t : Site) (f : Frame) (m : Mine) : Type 0 where
  pub out : m.0.held.out ≡ suc f.unit
  pub round : ℕ
  pub book : ℕ
  pub carries : Carries t (IsPart (ring t.key) t.region f round book) f.unit m.1

-- the frame is stored, and each consumer has its part
abbrev pub Commits : ℕ → Frame → Mine → ℕ → Mine → Type 0
Commits k f m x m' = (m'.0 ≡ record m.0 { held = record (changed m.0.held k x m.0.held.floor (f ∷ m.0.held.got)) { out = 0 } }) × (m'.1 ≡ [])

-- a frame up to which memory was taken back, and that all consumers were seen behind: its slots are given back with anything
pub record MayFree (t : Site) (f : Frame) (m : Mine) : Type 0 where
  pub inserts : m.0.inserting ≡ 1
  pub among : Among f m.0.held.got
  pub from : m.0.held.floor ≤ f.unit
  pub here : f.unit ≡ m.0.held.freed
  pub out : m.0.held.out ≡ suc f.unit
  pub passed : (j : ℕ) → j < length m.0.seen → end_of f ≤ slice_index m.0.seen j
  pub carries : Carries t (λ _. Unit {0}) f.unit m.1

-- its memory was taken back
abbrev pub Frees : Frame → Mine → ℕ → Mine → Type 0
Frees f m n m' = (m'.0 ≡ record m.0 { held = record m.0.held { freed = end_of f; out = 0 } }) × (m'.1 ≡ [])
