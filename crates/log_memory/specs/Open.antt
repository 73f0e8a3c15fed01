-- The room of a pass's open frames, in the row of slots that its seat carries: one after the other, in the order of the frames.
use Rattle.std.specs.Prelude.{◌≡◌, ◌==◌, if◌then◌else◌, ℕ, ◌+◌, ◌*◌, ◌/◌, ◌^◌, ◌<◌, List, [], ◌∷◌, ◌++◌, length, suc}
use Rattle.theory.specs.Position.{aligned}
use Rattle.publication.specs.declared.pass.FrameWords.{FrameWords}
use Rattle.publication.specs.Steps.{Adds, addition, blank, frame, with_work}
use Rattle.region.specs.declared.access.Access.{Access}
use Rattle.log_rule.specs.Claims.Memory.{IsCommittedFrame}
use Rattle.log_rule.specs.Claims.Plays.{playing}
use Rattle.log_rule.specs.Claims.Sure.{LearnsControls}
use Rattle.log_rule.specs.Shares.{claimed_bytes}
use Rattle.log_memory.specs.declared.drafts.Draft.{Draft}
use Rattle.log_memory.specs.declared.view.Site.{Site}
use Rattle.log_memory.specs.Drafts.{words_of}
use Rattle.log_memory.specs.Steps.{AreApart, CarriesRange, IsIdle, IsRoomAt, Mine, any_step, as_view}

-- how many slots the memory of such frames has
abbrev pub slots_in : List FrameWords → ℕ
slots_in [] = 0
slots_in (f ∷ fs) = 8 * length f.words / 4 + slots_in fs

-- the room of each of them is carried, over what else is
abbrev pub HoldsRooms : Site → List FrameWords → List (ℕ × Access) → List (ℕ × Access) → Type 0
HoldsRooms t [] before mine = mine ≡ before
HoldsRooms t (f ∷ fs) before mine = (rest : List (ℕ × Access)) × CarriesRange t (IsRoomAt t) f.start (8 * length f.words) rest mine × HoldsRooms t fs before rest

-- and nothing else
abbrev pub HoldsOpen : Site → Mine → Type 0
HoldsOpen t m = HoldsRooms t m.0.view.pass.work.drafts [] m.1

-- the draft is one of the pass's open frames, between these, and a committed one with its words
pub record IsOpenDraft (t : Site) (d : Draft) (front others : List FrameWords) (m : Mine) : Type 0 where
  pub idle : IsIdle m.0
  pub cut : ℕ
  pub some : 0 < cut
  pub drafts : m.0.view.pass.work.drafts ≡ front ++ blank d.start cut ∷ others
  pub long : d.bytes ≡ aligned cut
  pub done : IsCommittedFrame t.key.identity (frame d.start cut (words_of d))

-- it is committed by one step, and the room of the others is carried on
pub record StoresOpen (t : Site) (d : Draft) (m m' : Mine) : Type 0 where
  pub holds : HoldsOpen t m'
  pub part : m'.0.part ≡ m.0.part
  pub room : m'.0.room ≡ m.0.room
  pub parked : m'.0.parked ≡ m.0.parked
  pub steps : m'.0.view.steps ≡ suc m.0.view.steps
  pub learns : LearnsControls [] m.0.view m'.0.view
  pub fills : (front : List FrameWords) (cut : ℕ) (others : List FrameWords) → 0 < cut → m.0.view.pass.work.drafts ≡ front ++ blank d.start cut ∷ others → m'.0.view.pass ≡ with_work (m.0.view.pass.work.frames ++ frame d.start cut (words_of d) ∷ []) (front ++ others) m.0.view.pass

-- an addition, which tells of the pass what it does where words are all that there is
pub record AddsOpen (size : ℕ) (m : Mine) (n : ℕ) (m' : Mine) : Type 0 where
  pub part : m'.0.part ≡ m.0.part
  pub room : m'.0.room ≡ m.0.room
  pub parked : m'.0.parked ≡ m.0.parked
  pub told : playing (λ v k w. Adds v size k w) (λ v k. addition v size k ∷ []) any_step (as_view m.0) n (as_view m'.0)
  pub low : claimed_bytes m'.0.view.pass < 2 ^ 63
  pub apart : AreApart m'.0.view.pass.work.drafts

-- ---- which of them it is

-- those before the first that begins at a position, and those behind it
abbrev pub front_of : ℕ → List FrameWords → List FrameWords
front_of p [] = []
front_of p (f ∷ fs) = if f.start == p then [] else f ∷ front_of p fs

abbrev pub others_of : ℕ → List FrameWords → List FrameWords
others_of p [] = []
others_of p (f ∷ fs) = if f.start == p then fs else others_of p fs

-- the draft is one of the pass's open frames, of which none begins where another does
pub record IsOneOpen (t : Site) (d : Draft) (m : Mine) : Type 0 where
  pub front : List FrameWords
  pub others : List FrameWords
  pub is : IsOpenDraft t d front others m
  pub apart : AreApart m.0.view.pass.work.drafts
