-- What is seen of a log that was closed.
use Rattle.std.specs.Prelude.{◌≡◌, ◌+◌, sum}
use Rattle.shared_log.specs.declared.book.Book.{Book}
use Rattle.one_hand.specs.Stream.{Stream}

-- the book of a log: the stream's ends, and what each publisher claimed of it, which is all
pub record ShowsBook (l : Stream) (b : Book) : Type 0 where
  pub start : b.start ≡ l.start
  pub tail : b.tail ≡ l.tail
  pub shares : b.shares ≡ l.shares
  pub whole : b.start + sum b.shares ≡ b.tail
