-- A frame that is stored in room, and parted among those who read it.
use Rattle.std.specs.Prelude.{◌≡◌, ℕ, ◌+◌, ◌-◌, ◌/◌, ◌%◌, ◌^◌, ◌<◌, ◌≤◌, List, [], ◌∷◌, ◌++◌, drop, length, suc}
use Rattle.std.specs.List.{AllByRecursion}
use Rattle.theory.specs.Position.{aligned}
use Rattle.position.specs.Words.{words_in}
use Rattle.publication.specs.declared.pass.FrameWords.{FrameWords}
use Rattle.publication.specs.Steps.{blank, frame, with_work}
use Rattle.region.specs.declared.access.Access.{Access}
use Rattle.log_rule.specs.Claims.Memory.{IsCommittedFrame}
use Rattle.log_rule.specs.Claims.Sure.{LearnsControls}
use Rattle.log_memory.specs.declared.view.Site.{Site}
use Rattle.log_memory.specs.declared.drafts.Draft.{Draft}
use Rattle.log_memory.specs.Places.{slot_of}
use Rattle.log_memory.specs.Rule.{ring}
use Rattle.log_memory.specs.Steps.{CarriesRange, IsIdle, IsPartAt, Mine}

-- its words: three of the header, a zero, the payload's, and zeros up to its end
abbrev pub words_of : Draft → List ℕ
words_of d = d.first ∷ d.second ∷ d.third ∷ 0 ∷ words_in (d.bytes / 8 - 4) d.payload.now

-- it covers whole units, and its header and payload
pub record IsDraft (d : Draft) : Type 0 where
  pub whole : d.bytes % 32 ≡ 0
  pub fits : 32 + length d.payload.now ≤ d.bytes
  pub low : d.bytes ≤ 2 ^ 31
  pub small : AllByRecursion (λ b. b < 256) d.payload.now
  pub header : (d.first < 2 ^ 64) × (d.second < 2 ^ 64) × (d.third < 2 ^ 64)

-- what a seat carries behind its slots
abbrev pub behind_of : Draft → List (ℕ × Access) → List (ℕ × Access)
behind_of d mine = drop (d.bytes / 4) mine

-- its slots have its parts, of one round and one account, over what else is carried
pub record IsParted (t : Site) (d : Draft) (behind mine : List (ℕ × Access)) : Type 0 where
  pub round : ℕ
  pub book : ℕ
  pub row : CarriesRange t (IsPartAt t (slot_of (ring t) d.start 0) (words_of d) round book) d.start d.bytes behind mine

-- it is an open frame of the seat's pass of which nothing is stored, and a committed one with these words
pub record MayStore (t : Site) (d : Draft) (m : Mine) : Type 0 where
  pub idle : IsIdle m.0
  pub front : List FrameWords
  pub cut : ℕ
  pub others : List FrameWords
  pub drafts : m.0.view.pass.work.drafts ≡ front ++ blank d.start cut ∷ others
  pub long : d.bytes ≡ aligned cut
  pub done : IsCommittedFrame t.key.identity (frame d.start cut (words_of d))

-- it is committed by one step, its slots are given, and what stood behind them is carried on
pub record StoresFrame (d : Draft) (behind : List (ℕ × Access)) (m m' : Mine) : Type 0 where
  pub carried : m'.1 ≡ behind
  pub part : m'.0.part ≡ m.0.part
  pub room : m'.0.room ≡ m.0.room
  pub parked : m'.0.parked ≡ m.0.parked
  pub steps : m'.0.view.steps ≡ suc m.0.view.steps
  pub learns : LearnsControls [] m.0.view m'.0.view
  pub fills : (front : List FrameWords) (cut : ℕ) (others : List FrameWords) → 0 < cut → m.0.view.pass.work.drafts ≡ front ++ blank d.start cut ∷ others → m'.0.view.pass ≡ with_work (m.0.view.pass.work.frames ++ frame d.start cut (words_of d) ∷ []) (front ++ others) m.0.view.pass
