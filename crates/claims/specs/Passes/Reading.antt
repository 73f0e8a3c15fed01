-- What the calls of a reader make of its pass.
use Rattle.std.specs.Prelude.{◌≡◌, ℕ, ◌<◌, Bool, true, false, List, []}
use Rattle.std.specs.Arc.{arc_value}
use Rattle.position.specs.declared.head.FrameHead.{FrameHead}
use Rattle.shared_log.specs.declared.reader.whole.Unread.{Unread}
use Rattle.shared_log.specs.declared.reader.whole.Unread.TheVariants as unread
use Rattle.shared_log.specs.Steps.Handles.{LogValue}
use Rattle.shared_log.specs.Readers.{Advances, IsReaderOf, ReaderValue, ReadsFrame, known_of}
use Rattle.shared_log.specs.Whole.{LeavesUnread}
use Rattle.claims.specs.declared.passes.reading.ReaderPass.{ReaderPass}

-- a reader of this log that has found nothing yet
pub record IsUnread (l : LogValue) (r : ReaderValue) : Type 0 where
  pub of : IsReaderOf l r
  pub nothing : known_of r ≡ []

-- the frame was read: its payload stands in the room's front
pub record Reads (p : ReaderPass) (head : FrameHead) (before : List ℕ) (q : ReaderPass) (after : List ℕ) : Type 0 where
  pub log : arc_value q.log ≡ arc_value p.log
  pub reads : ReadsFrame (arc_value p.log) p.reader head before q.reader after
  pub read : q.reader.position < q.reader.read_to
  pub begun : q.is_new ≡ false

-- it is a new one as long as there is none
abbrev pub stays_new : Unread → Bool → Bool
stays_new unread.None is_new = is_new
stays_new (unread.Longer head) is_new = false

-- none was read, and the room is as it was
pub record Unreads (p : ReaderPass) (why : Unread) (before : List ℕ) (q : ReaderPass) (after : List ℕ) : Type 0 where
  pub log : arc_value q.log ≡ arc_value p.log
  pub leaves : LeavesUnread (arc_value p.log) p.reader why before q.reader after
  pub new : q.is_new ≡ stays_new why p.is_new

-- it went behind the frame that it had read
pub record GoesBehind (p q : ReaderPass) : Type 0 where
  pub log : arc_value q.log ≡ arc_value p.log
  pub read : p.reader.position < p.reader.read_to
  pub advances : Advances p.reader q.reader
  pub begun : q.is_new ≡ false

-- it had read none, and nothing has changed
pub record HasNotRead (p q : ReaderPass) : Type 0 where
  pub same : q ≡ p
  pub unread : ¬ (p.reader.position < p.reader.read_to)

abbrev pub GoesOn : ReaderPass → Bool → ReaderPass → Type 0
GoesOn p true q = GoesBehind p q
GoesOn p false q = HasNotRead p q
