-- What a consumer of a log in one hand finds where it stands.
use Rattle.std.specs.Prelude.{◌≡◌, ℕ, List}
use Rattle.theory.specs.Entry.{committed}
use Rattle.position.specs.declared.head.FrameHead.{FrameHead}
use Rattle.frame_source.specs.Sources.{FindsNone, Passes, ReadsAt, Source}
use Rattle.one_hand.specs.Stream.{Stream, position_of, with_consumer}

-- the committed frames, as the reader of a number gets them
abbrev pub source_of : Stream → ℕ → Source
source_of l reader = record { identity = l.identity; position = position_of l reader; frames = committed l.entries }

-- the frame at a position is shown by its head, and its payload stands in the block's front
abbrev pub ShowsFrame : Stream → ℕ → FrameHead → List ℕ → List ℕ → Type 0
ShowsFrame l at head before after = ReadsAt l.identity.geometry (committed l.entries) at head before after

-- none is committed where the reader stands, and the block is as it was
abbrev pub ShowsNone : Stream → ℕ → List ℕ → List ℕ → Type 0
ShowsNone l reader before after = FindsNone (source_of l reader) before (source_of l reader) after

-- the reader went past the frame where it stood, to the frame's end, and nothing else has changed
pub record Advances (old : Stream) (reader : ℕ) (end : ℕ) (new : Stream) : Type 0 where
  pub passes : Passes (source_of old reader) end (source_of new reader)
  pub after : new ≡ with_consumer old reader end
