-- What is known of the frames that were read.
use Rattle.std.specs.Prelude.{◌≡◌, ℕ, ◌+◌, ◌*◌, ◌<◌, ◌≤◌, List, length, map}
use Rattle.std.specs.List.{AllByRecursion}
use mathlib.Core.Option.{some}
use lib.ListN.{get_elem?}
use Rattle.atomic_table.specs.Table.{State}
use Rattle.log_rule.specs.declared.claims.view.View.{View}
use Rattle.log_rule.specs.declared.rule.Key.{Key}
use Rattle.log_rule.specs.Claims.Plays.{pass_in}
use Rattle.log_rule.specs.Edges.{CommittedBy}
use Rattle.log_rule.specs.Table.{LogRuled}
use Rattle.shared_log.specs.Steps.Handles.{LogValue, PublisherValue}
use Rattle.publication.specs.declared.pass.FrameWords.{FrameWords}
use Rattle.theory.specs.Placed.{Among}
use Rattle.shared_log.specs.declared.book.Book.{Book}
use Rattle.shared_log.specs.Books.{IsCommittedBy, ShowsBook}
use Rattle.shared_log.specs.Readers.{known_of}
use Rattle.log_messages.specs.Reading.{HasRead, Reading}

-- whatever state a log is in that obeys its rule, with this reader's pass among its passes: each frame that the reader has read is one
-- that a pass has committed
abbrev pub ReadIsCommitted : Type 0
ReadIsCommitted = (m : Reading) (key : Key) (s : State (Unit {0}) View) (i : ℕ) → LogRuled key s → get_elem? (map pass_in s.views) i ≡ some m.reader.held.pass → AllByRecursion (CommittedBy (map pass_in s.views)) (known_of m.reader)

-- a log that was closed with all its passes, and the frames that one of its readers has read, each of which a publisher has committed
-- (`close_read`): every committed frame with a byte between where the reader began and where it stands is one of them
abbrev pub ReadsAll : Type 0
ReadsAll = (l : LogValue) (publishers : List PublisherValue) (book : Book) (m : Reading) → ShowsBook l publishers book → HasRead m.begun_at m.reader m.assembler m.has_refused → AllByRecursion (IsCommittedBy publishers) (known_of m.reader)
    → (f : FrameWords) (x : ℕ) → IsCommittedBy publishers f → f.start ≤ x → x < f.start + 8 * length f.words → m.begun_at ≤ x → x < m.reader.position → Among f (known_of m.reader)
