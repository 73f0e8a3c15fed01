-- What each kind of step asks and tells.
use Rattle.std.specs.Prelude.{◌≡◌, ◌≢◌, ℕ, zero, suc, ◌+◌, ◌-◌, ◌*◌, ◌/◌, ◌%◌, ◌^◌, ◌<◌, ◌≤◌, ◌⊎◌, List, [], ◌∷◌, ◌++◌, drop, length, max, slice_index}
use mathlib.Core.Option.{none}
use Rattle.atomic_table.specs.Table.{Me, Step, step}
use Rattle.theory.specs.Placed.{Among}
use Rattle.theory.specs.Position.{framed_length, greatest_claim}
use Rattle.theory.specs.Refusal.{limit_in}
use Rattle.theory.specs.Words.{offset_in}
use Rattle.position.specs.Contents.{bytes_in}
use Rattle.publication.specs.declared.pass.FrameWords.{FrameWords}
use Rattle.publication.specs.declared.pass.Pass.{Pass}
use Rattle.publication.specs.declared.pass.Reading.{Reading}
use Rattle.publication.specs.Steps as steps
use Rattle.publication.specs.Steps.{addition, blank, frame, geometry_of, start_in, term_of, with_work}
use Rattle.region.specs.declared.access.Access.{Access}
use Rattle.log_rule.specs.declared.claims.view.View.{View}
use Rattle.log_rule.specs.Claims.Memory.{IsCommittedFrame}
use Rattle.log_rule.specs.Claims.Sure.{LearnsControls}
use Rattle.log_rule.specs.Claims.Plays as words
use Rattle.log_rule.specs.Claims.Plays.{playing}
use Rattle.log_rule.specs.Keepings.{least_there, with_keeping}
use Rattle.log_rule.specs.Kept.{IsThere}
use Rattle.log_rule.specs.Readings as readings
use Rattle.log_rule.specs.Readings.{IsConsumer, reading}
use Rattle.log_rule.specs.Shares.{claimed_bytes}
use Rattle.log_memory.specs.declared.view.LogView.{LogView}
use Rattle.log_memory.specs.declared.view.Site.{Site}
use Rattle.log_memory.specs.Places.{slot_of}
use Rattle.log_memory.specs.Rule.{IsPart, IsRoom, ring}

abbrev pub Mine : Type 0
Mine = Me Access LogView

-- a seat by what it knows of the stream
abbrev pub as_view : LogView → words.Mine
as_view v = (v.view, [])

-- no step in particular
abbrev pub any_step : Step (Unit {0})
any_step = step 0 0 0 0 none

-- a step that moves no memory
pub record Rests (then : words.Mine → ℕ → words.Mine → Type 0) (m : Mine) (n : ℕ) (m' : Mine) : Type 0 where
  pub carried : m'.1 ≡ m.1
  pub part : m'.0.part ≡ m.0.part
  pub room : m'.0.room ≡ m.0.room
  pub parked : m'.0.parked ≡ m.0.parked
  pub told : then (as_view m.0) n (as_view m'.0)

-- ---- slots that follow one another

-- so many slots from the number k on, each with such a value, are carried over what was carried before
abbrev pub Carries : (ℕ → Access → Type 0) → ℕ → ℕ → List (ℕ × Access) → List (ℕ × Access) → Type 0
Carries is k zero before mine = mine ≡ before
Carries is k (suc count) before mine = (g : Access) × (rest : List (ℕ × Access)) × (mine ≡ (k, g) ∷ rest) × is k g × Carries is (suc k) count before rest

-- of the eight slots of a unit the first has the right to write it
abbrev pub IsRoomAt : Site → ℕ → Access → Type 0
IsRoomAt t k g = k % 8 ≡ 0 → IsRoom t k g

-- the first eight, from the number k on, have the parts of a frame
abbrev pub IsPartAt : Site → ℕ → List ℕ → ℕ → ℕ → ℕ → Access → Type 0
IsPartAt t k ws round book i g = i < k + 8 → IsPart t k ws round book g

-- the slots of a range of whole units: eight for each 32 bytes
abbrev pub CarriesRange : Site → (ℕ → Access → Type 0) → ℕ → ℕ → List (ℕ × Access) → List (ℕ × Access) → Type 0
CarriesRange t is start bytes before mine = Carries is (slot_of (ring t) start 0) (bytes / 4) before mine

-- ---- an addition takes the room of what it claims

-- no two begin at one position
abbrev pub AreApart : List FrameWords → Type 0
AreApart [] = Unit {0}
AreApart (f ∷ fs) = ((g : FrameWords) → Among g fs → g.start ≢ f.start) × AreApart fs

pub record TakesRoom (t : Site) (size n : ℕ) (m m' : Mine) : Type 0 where
  pub fits : offset_in n + framed_length (geometry_of m.0.view.pass) size ≤ term_of m.0.view.pass → CarriesRange t (IsRoomAt t) (start_in (geometry_of m.0.view.pass) n) (framed_length (geometry_of m.0.view.pass) size) m.1 m'.1
  pub trips : offset_in n < term_of m.0.view.pass → term_of m.0.view.pass < offset_in n + framed_length (geometry_of m.0.view.pass) size → CarriesRange t (IsRoomAt t) (start_in (geometry_of m.0.view.pass) n) (term_of m.0.view.pass - offset_in n) m.1 m'.1
  pub over : term_of m.0.view.pass ≤ offset_in n → m'.1 ≡ m.1

pub record Adds (t : Site) (size : ℕ) (m : Mine) (n : ℕ) (m' : Mine) : Type 0 where
  pub part : m'.0.part ≡ m.0.part
  pub room : m'.0.room ≡ m.0.room
  pub parked : m'.0.parked ≡ m.0.parked
  pub told : playing (λ v k w. steps.Adds v size k w) (λ v k. addition v size k ∷ []) any_step (as_view m.0) n (as_view m'.0)
  pub takes : TakesRoom t size n m m'
  -- what the pass has claimed by then can be counted, and none of its open frames begins where another does
  pub low : claimed_bytes m'.0.view.pass < 2 ^ 63
  pub apart : AreApart m'.0.view.pass.work.drafts

-- ---- a frame is committed

-- an open frame of which nothing is stored, what is committed there, and the parts of its memory over what else is carried
pub record MayCommit (t : Site) (p : ℕ) (ws : List ℕ) (m : Mine) : Type 0 where
  pub front : List FrameWords
  pub cut : ℕ
  pub behind : List FrameWords
  pub drafts : m.0.view.pass.work.drafts ≡ front ++ blank p cut ∷ behind
  pub long : length ws ≡ length (blank p cut).words
  pub some : 0 < length ws
  pub done : IsCommittedFrame t.key.identity (frame p cut ws)
  pub small : (i : ℕ) → slice_index ws i < 2 ^ 64
  pub round : ℕ
  pub book : ℕ
  pub before : List (ℕ × Access)
  pub carries : CarriesRange t (IsPartAt t (slot_of (ring t) p 0) ws round book) p (8 * length ws) before m.1

-- it is one of the pass's committed frames then, and its slots are given
pub record Commits (t : Site) (p : ℕ) (ws : List ℕ) (m m' : Mine) : Type 0 where
  pub carried : m'.1 ≡ drop (8 * length ws / 4) m.1
  pub part : m'.0.part ≡ m.0.part
  pub room : m'.0.room ≡ m.0.room
  pub parked : m'.0.parked ≡ m.0.parked
  pub steps : m'.0.view.steps ≡ suc m.0.view.steps
  pub learns : LearnsControls [] m.0.view m'.0.view
  pub fills : (front : List FrameWords) (cut : ℕ) (behind : List FrameWords) → 0 < cut → m.0.view.pass.work.drafts ≡ front ++ blank p cut ∷ behind → m'.0.view.pass ≡ with_work (m.0.view.pass.work.frames ++ frame p cut ws ∷ []) (front ++ behind) m.0.view.pass

-- ---- a reader takes its part of a frame, and gives it back

-- its part of the frame, over what it carried
pub record TakesPart (t : Site) (number : ℕ) (f : FrameWords) (m m' : Mine) : Type 0 where
  pub access : Access
  pub is : IsPart t (slot_of (ring t) f.start 0) f.words m'.0.part.round m'.0.part.book access
  -- it shows the frame's bytes
  pub shows : access.read.items ≡ bytes_in f.words
  pub after : m'.1 ≡ (slot_of (ring t) f.start number, access) ∷ m.1
  pub part : m'.0.part ≡ record { has = 1; number = number; at = f.start; round = m'.0.part.round; book = m'.0.part.book }

-- a consumer loads the word where it stands: the frame that it finds there it may read from then on
pub record Looks (t : Site) (place : ℕ) (r : Reading) (m : Mine) (is : IsConsumer m.0.view.pass place r) (n : ℕ) (m' : Mine) : Type 0 where
  pub room : m'.0.room ≡ m.0.room
  pub parked : m'.0.parked ≡ m.0.parked
  pub told : reading (λ v k w. readings.Looks v place k w) (as_view m.0) n (as_view m'.0)
  pub none : n ≡ 0 → (m'.1 ≡ m.1) × (m'.0.part ≡ m.0.part)
  pub found : (pos : 0 < n) → TakesPart t r.number ((told.3 r is).found pos).frame m m'

-- a frame that the consumer has, a term below it at the most
pub record MayReread (place : ℕ) (r : Reading) (f : FrameWords) (v : Pass) : Type 0 where
  pub is : IsConsumer v place r
  pub low : r.number < 8
  pub has : readings.Has v r f
  pub near : r.position ≤ f.start + term_of v

-- it loads that frame's word, and may read it
pub record Rereads (t : Site) (r : Reading) (f : FrameWords) (m : Mine) (n : ℕ) (m' : Mine) : Type 0 where
  pub room : m'.0.room ≡ m.0.room
  pub parked : m'.0.parked ≡ m.0.parked
  pub rests : reading (λ v k w. w ≡ v) (as_view m.0) n (as_view m'.0)
  pub word : n ≡ slice_index f.words 0
  -- it is a frame of the stream, and the only one that the consumer has there
  pub here : readings.IsFrameAt m.0.view.pass.identity f.start f
  pub only : (g : FrameWords) → readings.Has m.0.view.pass r g → g.start ≡ f.start → g ≡ f
  pub takes : TakesPart t r.number f m m'

-- the part of a frame that one of its consumers has, over what else is carried
pub record MayGive (t : Site) (r : Reading) (f : FrameWords) (m : Mine) : Type 0 where
  pub has : m.0.part.has ≡ 1
  pub mine : Among r m.0.view.pass.reading
  pub low : r.number < 8
  pub knows : readings.Has m.0.view.pass r f
  pub here : f.start ≡ m.0.part.at
  pub number : m.0.part.number ≡ r.number
  pub access : Access
  pub is : IsPart t (slot_of (ring t) f.start 0) f.words m.0.part.round m.0.part.book access
  pub before : List (ℕ × Access)
  pub carries : m.1 ≡ (slot_of (ring t) f.start r.number, access) ∷ before

-- it goes back
pub record Gives (m m' : Mine) : Type 0 where
  pub room : m'.0.room ≡ m.0.room
  pub parked : m'.0.parked ≡ m.0.parked
  pub part : m'.0.part ≡ record m.0.part { has = 0 }
  pub rests : m'.0.view ≡ record m.0.view { steps = suc m.0.view.steps }
  pub carried : m'.1 ≡ drop 1 m.1

-- ---- the keeper takes a frame's memory back, and gives it as room

-- where memory was taken back lies more than a term below each consumer that is there
pub record MayTakeBack (v : LogView) : Type 0 where
  pub keeper : v.view.pass.keeping.right ≡ 1
  pub idle : v.room.out ≡ 0
  pub below : v.room.freed < max v.view.pass.start (least_there v.view.pass.keeping.there v.view.pass.keeping.positions - term_of v.view.pass)

-- the frame that begins there: all its parts, of one round and one account, and the slots of its other units
pub record TakesBack (t : Site) (m : Mine) (n : ℕ) (m' : Mine) : Type 0 where
  pub frame : FrameWords
  pub here : frame.start ≡ m.0.room.freed
  pub done : IsCommittedFrame t.key.identity frame
  pub word : n ≡ slice_index frame.words 0
  pub round : ℕ
  pub book : ℕ
  pub carries : CarriesRange t (IsPartAt t (slot_of (ring t) frame.start 0) frame.words round book) frame.start (8 * length frame.words) m.1 m'.1
  pub part : m'.0.part ≡ m.0.part
  pub room : m'.0.room ≡ record { freed = m.0.room.freed; out = 8 * length frame.words }
  pub parked : m'.0.parked ≡ m.0.parked
  pub rests : m'.0.view ≡ record m.0.view { steps = suc m.0.view.steps }

-- the slots of what is out are carried, each unit's with the right to write it, which is zeros
pub record MayGiveRoom (t : Site) (m : Mine) : Type 0 where
  pub keeper : m.0.view.pass.keeping.right ≡ 1
  pub some : 0 < m.0.room.out
  pub before : List (ℕ × Access)
  pub carries : CarriesRange t (IsRoomAt t) m.0.room.freed m.0.room.out before m.1

pub record GivesRoom (m m' : Mine) : Type 0 where
  pub carried : m'.1 ≡ drop (m.0.room.out / 4) m.1
  pub part : m'.0.part ≡ m.0.part
  pub room : m'.0.room ≡ record { freed = m.0.room.freed + m.0.room.out; out = 0 }
  pub parked : m'.0.parked ≡ m.0.parked
  pub rests : m'.0.view ≡ record m.0.view { steps = suc m.0.view.steps }

-- ---- the keeper knows how far all is zero

-- up to a position where memory was taken back, a term or more below each consumer that is there
pub record MayCleanTo (end : ℕ) (v : LogView) : Type 0 where
  pub keeper : v.view.pass.keeping.right ≡ 1
  pub from : v.view.pass.keeping.cleaned ≤ end
  pub unit : (end - v.view.pass.keeping.cleaned) % 8 ≡ 0
  pub below : end ≤ max v.view.pass.start (least_there v.view.pass.keeping.there v.view.pass.keeping.positions - term_of v.view.pass)
  pub freed : end ≤ v.room.freed

pub record CleansTo (end : ℕ) (m m' : Mine) : Type 0 where
  pub carried : m'.1 ≡ m.1
  pub part : m'.0.part ≡ m.0.part
  pub room : m'.0.room ≡ m.0.room
  pub parked : m'.0.parked ≡ m.0.parked
  pub steps : m'.0.view.steps ≡ suc m.0.view.steps
  pub learns : LearnsControls [] m.0.view m'.0.view
  pub pass : m'.0.view.pass ≡ with_keeping m.0.view.pass (record m.0.view.pass.keeping { cleaned = end })

-- ---- steps that move no memory

-- where the keeper saw a consumer that is there, or where one of the pass's stands
abbrev pub SawBehind : View → ℕ → Type 0
SawBehind v p = (v.pass.keeping.right ≡ 1) × ((k : ℕ) × IsThere v.pass.keeping.there k × (slice_index v.pass.keeping.positions k ≤ p))

abbrev pub StandsBehind : View → ℕ → Type 0
StandsBehind v p = ((r : Reading) × Among r v.pass.reading × (r.number < 8) × (r.position ≤ p)) ⊎ SawBehind v p

-- no claim and no committed frame is another; consumers stand where they did, or further on, or where the keeper saw one
pub record IsQuiet (v w : View) : Type 0 where
  pub claims : w.pass.right.claims ≡ v.pass.right.claims
  pub frames : w.pass.work.frames ≡ v.pass.work.frames
  pub readings : (r : Reading) → Among r w.pass.reading → r.number < 8 → StandsBehind v r.position
  pub keeper : w.pass.keeping.right ≡ 1 → v.pass.keeping.right ≡ 1
  pub cleaned : w.pass.keeping.cleaned ≡ v.pass.keeping.cleaned
  pub seen : w.pass.keeping.right ≡ 1 → (j : ℕ) → IsThere w.pass.keeping.there j → SawBehind v (slice_index w.pass.keeping.positions j)

-- the limit stays, or rises to where what may be claimed is clean
abbrev pub IsCalm : View → ℕ → (ℕ → ℕ) → Type 0
IsCalm v i f = (i ≢ 0) ⊎ (((n : ℕ) → f n ≡ n) ⊎ ((v.pass.keeping.right ≡ 1) × ((n : ℕ) → (limit_in (f n) ≡ limit_in v.pass.keeping.limit) ⊎ (limit_in (f n) + greatest_claim (geometry_of v.pass) * 8 < v.pass.keeping.cleaned + 3 * term_of v.pass))))

-- it has no part of a frame, and no room of its is at home
abbrev pub IsIdle : LogView → Type 0
IsIdle v = (v.part.has ≡ 0) × (v.parked ≡ [])
