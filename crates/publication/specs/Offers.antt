-- What an accepted offer leaves of its pass, and what ends a claim.
use Rattle.std.specs.Prelude.{◌≡◌, ℕ, ◌+◌, Bool, true, List, [], ◌∷◌, ◌++◌, length}
use Rattle.theory.specs.Placed.{Frame, frame_length}
use Rattle.theory.specs.Position.{cuts_of, framed_length}
use Rattle.publication.specs.declared.pass.FrameWords.{FrameWords}
use Rattle.publication.specs.declared.pass.Pass.{Pass}
use Rattle.publication.specs.declared.refusal.Refusal.{Refusal}
use Rattle.publication.specs.Orders.{AreInOrder}
use Rattle.publication.specs.Steps.{blank, blanks, geometry_of, with_work, works}
use Rattle.publication.specs.Frames.{message_frames}
use Rattle.publication.specs.Claims.{Claimed, Fills, HasBlank, Justified}

-- open frames of these lengths follow each other from here, and nothing of them is stored
pub record HasBlanks (v : Pass) (p : ℕ) (cuts : List ℕ) : Type 0 where
  pub front : List FrameWords
  pub behind : List FrameWords
  pub parts : v.work.drafts ≡ front ++ (blanks p cuts ++ behind)

-- they are committed as the frames of what is left of a message
abbrev pub FillsAll : Pass → Bool → ℕ → List ℕ → Pass → Type 0
FillsAll v first p message w = (front behind : List FrameWords) → v.work.drafts ≡ front ++ (blanks p (cuts_of (geometry_of v) (length message)) ++ behind)
    → w ≡ with_work (v.work.frames ++ message_frames v.identity first p message) (front ++ behind) v

-- one claim more, and its frames are committed whole with the message as payload
pub record Offered (p : Pass) (message : List ℕ) (end : ℕ) (q : Pass) : Type 0 where
  pub start : ℕ
  pub between : Pass
  pub claimed : Claimed p (length message) start between
  pub end_is : end ≡ start + framed_length (geometry_of p) (length message)
  pub after : q ≡ with_work (p.work.frames ++ message_frames p.identity true start message) p.work.drafts between

-- one claim more, of one frame, which is open
pub record Opened (p : Pass) (size start : ℕ) (q : Pass) : Type 0 where
  pub claimed : Claimed p size start q
  pub one : q.work ≡ works p.work.frames (p.work.drafts ++ blank start (32 + size) ∷ [])

-- ---- the order of what is claimed

-- claims that are in the order of the stream stay so, whatever an offer or a claim is answered, and where a claim ends
pub record StayInOrder : Type 0 where
  pub offered : (p q : Pass) (message : List ℕ) (end : ℕ) → Offered p message end q → AreInOrder p.right.claims → AreInOrder q.right.claims
  pub opened : (p q : Pass) (size start : ℕ) → Opened p size start q → AreInOrder p.right.claims → AreInOrder q.right.claims
  pub refused : (p q : Pass) (size : ℕ) (why : Refusal) → Justified p size why q → AreInOrder p.right.claims → AreInOrder q.right.claims
  pub ended : (p q : Pass) (start : ℕ) (f : Frame) → HasBlank p start (frame_length f) → Fills p start f q → AreInOrder p.right.claims → AreInOrder q.right.claims
