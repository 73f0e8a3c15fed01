-- The frames of a claim.
use Rattle.std.specs.Prelude.{◌≡◌, ℕ, ◌+◌, ◌<◌, Bool, List, [], ◌∷◌, ◌++◌, length, slice_set, if◌then◌else◌}
use Rattle.theory.specs.Position.{aligned, cuts_of}
use Rattle.theory.specs.Placed.{Frame, frame_length}
use Rattle.theory.specs.Entry.{pieces_of}
use Rattle.theory.specs.Bytes.{Identity}
use Rattle.position.specs.Words.{IsLegal, frame_words}
use Rattle.publication.specs.declared.pass.FrameWords.{FrameWords}
use Rattle.publication.specs.declared.pass.Pass.{Pass}
use Rattle.publication.specs.Steps.{frame, geometry_of}

abbrev pub frame_at : Identity → ℕ → Frame → FrameWords
frame_at i p f = frame p (frame_length f) (frame_words i p f)

-- frames that follow each other
abbrev pub frames_at : Identity → ℕ → List Frame → List FrameWords
frames_at i p [] = []
frames_at i p (f ∷ fs) = frame_at i p f ∷ frames_at i (p + aligned (frame_length f)) fs

-- those of a message, or of what is left of one
abbrev pub message_frames : Identity → Bool → ℕ → List ℕ → List FrameWords
message_frames i first p message = frames_at i p (pieces_of first (cuts_of i.geometry (length message)) message)

-- the flags of a message's frame, by whether it is the first and the last
abbrev pub frame_flags : Bool → Bool → ℕ
frame_flags first last = if last then (if first then 192 else 64) else (if first then 128 else 0)

-- the open frame that begins at this position is a frame of the stream, of the length that was claimed, once this is its
-- first word
pub record CompletesFrame (v : Pass) (p x : ℕ) : Type 0 where
  pub front : List FrameWords
  pub draft : FrameWords
  pub behind : List FrameWords
  pub parts : v.work.drafts ≡ front ++ draft ∷ behind
  pub inside : 0 < length draft.words
  pub position : p ≡ draft.start
  pub content : Frame
  pub legal : IsLegal (geometry_of v) content
  pub whole : draft.cut ≡ frame_length content
  pub spelt : slice_set draft.words 0 x ≡ frame_words v.identity p content
