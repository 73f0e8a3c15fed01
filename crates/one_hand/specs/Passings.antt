-- What a reader's step past a frame comes to, by the pass that has all.
use Rattle.std.specs.Prelude.{◌≡◌, ℕ, List}
use Rattle.theory.specs.Placed.{Among}
use Rattle.position.specs.declared.head.FrameHead.{FrameHead}
use Rattle.publication.specs.declared.pass.FrameWords.{FrameWords}
use Rattle.shared_log.specs.Steps.Handles.{LogValue, PublisherValue}
use Rattle.shared_log.specs.Readers.{Advances, ReaderValue, ReadsFrame}
use Rattle.one_hand.specs.Readers.{reader_of}
use Rattle.one_hand.specs.declared.log_hand.consumer.Consumer.{Consumer}

-- a frame of the pass begins there
pub record HasHere (p : PublisherValue) (position : ℕ) : Type 0 where
  pub frame : FrameWords
  pub among : Among frame p.pass.work.frames
  pub here : frame.start ≡ position

-- the frame there was read, and then the reader went past it
pub record Passed (l : LogValue) (p : PublisherValue) (c : Consumer) (before : List ℕ) (q : PublisherValue) (end : ℕ) : Type 0 where
  pub between : ReaderValue
  pub reader : ReaderValue
  pub head : FrameHead
  pub after : List ℕ
  pub reads : ReadsFrame l (reader_of p c) head before between after
  pub advances : Advances between reader
  pub end_is : end ≡ reader.position
  pub seat : reader.held ≡ q
