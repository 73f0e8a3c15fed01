-- The rule over a table's state, and the first seat.
-- The stream's words are those that `LogRuled` speaks of. They exist in the proofs alone: the table has the control words
-- and, for each unit, the first word of the frame that begins there; all other bytes of a committed frame lie in memory,
-- and slots have the right to read them, or to write what is room.
use Rattle.std.specs.Prelude.{◌≡◌, ℕ, ◌+◌, ◌*◌, ◌%◌, ◌^◌, ◌<◌, ◌≤◌, ◌⊎◌, List, [], length, map, replicate, slice_index}
use mathlib.Core.Option.{some}
use lib.ListN.{get_elem?}
use Rattle.atomic_table.specs.Table.{State}
use Rattle.theory.specs.Entry.{length_of}
use Rattle.theory.specs.Placed.{Among}
use Rattle.theory.specs.Position.{Geometry, greatest_claim}
use Rattle.theory.specs.Refusal.{limit_in}
use Rattle.position.specs.Contents.{bytes_in}
use Rattle.publication.specs.declared.pass.FrameWords.{FrameWords}
use Rattle.publication.specs.declared.pass.Pass.{Pass}
use Rattle.publication.specs.declared.pass.Reading.{Reading}
use Rattle.region.specs.declared.access.Access.{Access}
use Rattle.log_rule.specs.declared.claims.view.View.{View}
use Rattle.log_rule.specs.declared.rule.Key.{Key}
use Rattle.log_rule.specs.Claims.Plays.{pass_in}
use Rattle.log_rule.specs.Claims.Rule.{weight}
use Rattle.log_rule.specs.Claims.Sums.{total}
use Rattle.log_rule.specs.Edges.{AreCommitted, IsAmong, begins_at, claimed_sum}
use Rattle.log_rule.specs.Kept.{IsThere}
use Rattle.log_rule.specs.Readings.{end_of}
use Rattle.log_rule.specs.Table as words
use Rattle.log_rule.specs.Table.{LogRuled}
use Rattle.log_memory.specs.declared.view.LogView.{LogView}
use Rattle.log_memory.specs.declared.view.Part.{Part}
use Rattle.log_memory.specs.declared.view.Site.{Site}
use Rattle.log_memory.specs.Places.{head_place, slot_of, units}

abbrev pub Board : Type 0
Board = State Access LogView

abbrev pub view_in : LogView → View
view_in v = v.view

abbrev pub passes_of : List LogView → List Pass
passes_of views = map pass_in (map view_in views)

abbrev pub shape : Site → Geometry
shape t = t.key.identity.geometry

abbrev pub term : Site → ℕ
term t = t.key.identity.geometry.term_length

abbrev pub ring : Site → ℕ
ring t = units t.key.identity.geometry

-- the end of what was claimed
abbrev pub tail_in : Key → List Pass → ℕ
tail_in key passes = key.start + total (weight length_of) passes

-- ---- what lies in a slot

-- the right to write the unit whose first slot has this number, which is zeros
pub record IsRoom (t : Site) (k : ℕ) (g : Access) : Type 0 where
  pub identity : g.write.identity ≡ t.region.identity
  pub at : g.write.at ≡ 4 * k
  pub zeros : g.write.items ≡ replicate 32 0

-- an eighth of the right to read the frame whose first unit's first slot has this number: its words, of this round and this account
pub record IsPart (t : Site) (k : ℕ) (ws : List ℕ) (life book : ℕ) (g : Access) : Type 0 where
  pub identity : g.read.identity ≡ t.region.identity
  pub at : g.read.at ≡ 4 * k
  pub count : g.read.count ≡ 2 ^ 60
  pub round : g.read.round ≡ record { life = life; book = book }
  pub items : g.read.items ≡ bytes_in ws

-- a slot is at home, with such a value
pub record IsHome (s : Board) (k : ℕ) (is : Access → Type 0) : Type 0 where
  pub access : Access
  pub there : get_elem? s.homes k ≡ some (some access)
  pub so : is access

-- a slot is at home, whatever it has
abbrev pub IsThereAny : Board → ℕ → Type 0
IsThereAny s k = IsHome s k (λ _. Unit {0})

-- ---- the words

-- the words behind the control words are of 64 bits
abbrev pub AreSmall : List ℕ → Type 0
AreSmall stream = (i : ℕ) → 208 ≤ i → slice_index stream i < 2 ^ 64

-- the control words are those of the stream; the word of a unit below which memory wasn't taken back is that of the committed frame that begins there, or zero
pub record WordsRuled (t : Site) (s : Board) (stream : List ℕ) (freed : ℕ) : Type 0 where
  pub long : length s.words ≡ 208 + ring t
  pub small : AreSmall stream
  pub controls : (i : ℕ) → i < 208 → slice_index s.words i ≡ slice_index stream i
  pub heads : (f : FrameWords) → IsAmong (passes_of s.views) f → freed ≤ f.start → slice_index s.words (head_place (ring t) f.start) ≡ slice_index f.words 0
  pub rest : (p : ℕ) → p % 32 ≡ 0 → freed ≤ p → p < freed + 3 * term t → ((f : FrameWords) → IsAmong (passes_of s.views) f → f.start ≡ p → ⊥) → slice_index s.words (head_place (ring t) p) ≡ 0

-- ---- the memory

-- the round and the account by which the frame at a position may be read
abbrev pub Rounds : Type 0
Rounds = ℕ → ℕ × ℕ

-- a seat has the part of the frame at a position that is a consumer's
pub record HasPart (v : LogView) (p j : ℕ) : Type 0 where
  pub has : v.part.has ≡ 1
  pub number : v.part.number ≡ j
  pub at : v.part.at ≡ p

pub record IsWithReader (s : Board) (p j : ℕ) : Type 0 where
  pub seat : ℕ
  pub view : LogView
  pub there : get_elem? s.views seat ≡ some view
  pub part : HasPart view p j

-- a unit is room: its slots are at home, with the right to write it
pub record IsFree (t : Site) (s : Board) (p : ℕ) : Type 0 where
  pub room : IsHome s (slot_of (ring t) p 0) (IsRoom t (slot_of (ring t) p 0))
  pub others : (j : ℕ) → j < 8 → IsThereAny s (slot_of (ring t) p j)

-- the room of an open frame of the seat's pass is at home
pub record IsParked (t : Site) (s : Board) (v : LogView) (f : FrameWords) : Type 0 where
  pub draft : Among f v.view.pass.work.drafts
  pub room : (p : ℕ) → p % 32 ≡ 0 → f.start ≤ p → p < end_of f → IsFree t s p

abbrev pub IsPartOf : Site → Rounds → FrameWords → Access → Type 0
IsPartOf t rounds f = IsPart t (slot_of (ring t) f.start 0) f.words (rounds f.start).0 (rounds f.start).1

-- each part of a frame is at home, or with its reader; the slots of its other units are at home
pub record Lies (t : Site) (s : Board) (rounds : Rounds) (f : FrameWords) : Type 0 where
  pub parts : (j : ℕ) → j < 8 → IsHome s (slot_of (ring t) f.start j) (IsPartOf t rounds f) ⊎ IsWithReader s f.start j
  pub inside : (p j : ℕ) → p % 32 ≡ 0 → f.start < p → p < end_of f → j < 8 → IsThereAny s (slot_of (ring t) p j)

-- who stands there needs nothing below a position: neither what lies behind, nor what it may read again, a term below
pub record IsBeyond (t : Site) (passes : List Pass) (gone p : ℕ) : Type 0 where
  pub passed : gone ≤ p
  pub back : (f : FrameWords) → IsAmong passes f → p ≤ f.start + term t → gone ≤ f.start

-- a reader's part is of a committed frame, which lies a term below that reader at the most
pub record IsHeld (t : Site) (passes : List Pass) (rounds : Rounds) (v : LogView) : Type 0 where
  pub frame : FrameWords
  pub among : IsAmong passes frame
  pub here : frame.start ≡ v.part.at
  pub round : v.part.round ≡ (rounds v.part.at).0
  pub book : v.part.book ≡ (rounds v.part.at).1
  pub reading : Reading
  pub mine : Among reading v.view.pass.reading
  pub number : reading.number ≡ v.part.number
  pub low : reading.number < 8
  pub near : reading.position ≤ v.part.at + term t

-- a frame of which the memory is out
pub record IsOut (passes : List Pass) (freed out : ℕ) : Type 0 where
  pub frame : FrameWords
  pub among : IsAmong passes frame
  pub here : frame.start ≡ freed
  pub long : out ≡ 8 * length frame.words

-- who is the keeper knows what was taken back, and that nobody needs it
pub record KnowsRoom (t : Site) (passes : List Pass) (freed out : ℕ) (v : LogView) : Type 0 where
  pub freed_is : v.room.freed ≡ freed
  pub out_is : v.room.out ≡ out
  pub cleaned : v.view.pass.keeping.cleaned ≤ freed
  pub seen : (j : ℕ) → IsThere v.view.pass.keeping.there j → IsBeyond t passes (freed + out) (slice_index v.view.pass.keeping.positions j)

-- a frame begins there, or the stream ends
abbrev pub IsEdgeOf : Key → List Pass → ℕ → Type 0
IsEdgeOf key passes p = (p ≡ tail_in key passes) ⊎ (0 < claimed_sum (begins_at p) passes)

pub record MemoryRuled (t : Site) (s : Board) (freed out : ℕ) (rounds : Rounds) : Type 0 where
  pub shelves : length s.homes ≡ 8 * ring t
  pub unit : freed % 32 ≡ 0
  -- what is taken back ends at a frame's edge, with all below it committed
  pub edge : IsEdgeOf t.key (passes_of s.views) (freed + out)
  pub passed : AreCommitted (passes_of s.views) (freed + out)
  -- what may be claimed ends below the end of room
  pub ahead : limit_in (slice_index s.words 0) + greatest_claim (shape t) * 8 < freed + 3 * term t
  pub free : (p : ℕ) → p % 32 ≡ 0 → tail_in t.key (passes_of s.views) ≤ p → p < freed + 3 * term t → IsFree t s p
  pub frames : (f : FrameWords) → IsAmong (passes_of s.views) f → freed + out ≤ f.start → Lies t s rounds f
  pub taken : 0 < out → IsOut (passes_of s.views) freed out
  pub held : (i : ℕ) (v : LogView) → get_elem? s.views i ≡ some v → v.part.has ≡ 1 → IsHeld t (passes_of s.views) rounds v
  pub readers : (i : ℕ) (v : LogView) (r : Reading) → get_elem? s.views i ≡ some v → Among r v.view.pass.reading → r.number < 8 → IsBeyond t (passes_of s.views) (freed + out) r.position
  pub keeper : (i : ℕ) (v : LogView) → get_elem? s.views i ≡ some v → v.view.pass.keeping.right ≡ 1 → KnowsRoom t (passes_of s.views) freed out v
  pub parked : (i : ℕ) (v : LogView) (f : FrameWords) → get_elem? s.views i ≡ some v → Among f v.parked → IsParked t s v f

-- the state that the stream's words make
abbrev pub stream_state : List ℕ → List LogView → State (Unit {0}) View
stream_state stream views = record { words = stream; homes = []; views = map view_in views }

pub record LogMemoryRuled (t : Site) (s : Board) : Type 0 where
  pub stream : List ℕ
  pub freed : ℕ
  pub out : ℕ
  pub rounds : Rounds
  pub ruled : LogRuled t.key (stream_state stream s.views)
  pub words : WordsRuled t s stream freed
  pub memory : MemoryRuled t s freed out rounds

-- ---- the first seat

abbrev pub no_part : Part
no_part = record { has = 0; number = 0; at = 0; round = 0; book = 0 }

abbrev pub whole_seat : Site → LogView
whole_seat t = record { view = words.whole_seat t.key; part = no_part; room = record { freed = t.key.start; out = 0 }; parked = [] }
