-- A frame that is committed in the room of an open one.
use Rattle.std.specs.Prelude.{◌≡◌, ℕ, ◌<◌, List, [], ◌∷◌, ◌++◌}
use Rattle.theory.specs.Bytes.{Identity}
use Rattle.theory.specs.Position.{aligned}
use Rattle.publication.specs.declared.pass.FrameWords.{FrameWords}
use Rattle.publication.specs.declared.pass.Pass.{Pass}
use Rattle.publication.specs.Steps.{blank, frame, with_work}
use Rattle.log_rule.specs.Claims.Memory.{IsCommittedFrame}
use Rattle.log_memory.specs.declared.drafts.Draft.{Draft}
use Rattle.log_memory.specs.Drafts.{words_of}

-- the draft is a frame of the stream, as long as one of the pass's open frames that begins there, of which nothing is stored
pub record IsOpenDraft (i : Identity) (d : Draft) (v : Pass) : Type 0 where
  pub front : List FrameWords
  pub cut : ℕ
  pub others : List FrameWords
  pub some : 0 < cut
  pub drafts : v.work.drafts ≡ front ++ blank d.start cut ∷ others
  pub long : d.bytes ≡ aligned cut
  pub done : IsCommittedFrame i (frame d.start cut (words_of d))

-- and it is one of the committed ones then
abbrev pub Stores : Draft → Pass → Pass → Type 0
Stores d v w = (front : List FrameWords) (cut : ℕ) (others : List FrameWords) → 0 < cut → v.work.drafts ≡ front ++ blank d.start cut ∷ others
    → w ≡ with_work (v.work.frames ++ frame d.start cut (words_of d) ∷ []) (front ++ others) v
