-- What a reader makes of bytes that may be too few.
use Rattle.std.specs.Prelude.{◌≡◌, ℕ, ◌+◌, ◌<◌, List, length}
use Rattle.theory.specs.Position.{aligned}
use Rattle.position.specs.declared.head.FrameHead.{FrameHead}
use Rattle.position.specs.declared.head.FrameKind.TheVariants as kinds
use Rattle.shared_log.specs.declared.reader.whole.Unread.{Unread}
use Rattle.shared_log.specs.declared.reader.whole.Unread.TheVariants as unread
use Rattle.shared_log.specs.Steps.Handles.{LogValue}
use Rattle.shared_log.specs.Readers.{Finds, ReaderValue, ReadsNone}

-- it has found a message's part that is longer than these bytes, which stay; it knows the frame, and has read what it had
-- read before
pub record FindsLonger (l : LogValue) (r : ReaderValue) (head : FrameHead) (before : List ℕ) (q : ReaderValue) (after : List ℕ) : Type 0 where
  pub finds : Finds l r head (record q { read_to = r.position + aligned head.frame_length })
  pub kind : head.kind ≡ kinds.Data
  pub longer : 32 + length before < head.frame_length
  pub read_to : q.read_to ≡ r.read_to
  pub untouched : after ≡ before

abbrev pub LeavesUnread : LogValue → ReaderValue → Unread → List ℕ → ReaderValue → List ℕ → Type 0
LeavesUnread l r unread.None before q after = ReadsNone r before q after
LeavesUnread l r (unread.Longer head) before q after = FindsLonger l r head before q after
