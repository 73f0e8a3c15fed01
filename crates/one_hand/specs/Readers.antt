-- What readers' calls of the pass that has all come to.
use Rattle.std.specs.Prelude.{◌≡◌, ℕ, zero, suc, ◌<◌, List, [], ◌∷◌}
use Rattle.position.specs.declared.head.FrameHead.{FrameHead}
use Rattle.shared_log.specs.Steps.Handles.{IsOf, LogValue, PublisherValue}
use Rattle.one_hand.specs.declared.log_hand.consumer.Consumer.{Consumer}
use Rattle.shared_log.specs.Readers.{IsReading, ReaderValue, ReadsFrame, ReadsNone, Rereads}

-- the consumer as a reader
abbrev pub reader_of : PublisherValue → Consumer → ReaderValue
reader_of p c = record { held = p; place = c.place; number = c.number; position = c.position; read_to = c.position }

-- the pass has this consumer
pub record Reads (l : LogValue) (p : PublisherValue) (c : Consumer) : Type 0 where
  pub of : IsOf l p
  pub known : c.number < 8
  pub is : IsReading p.pass c.place c.number c.position c.position

-- of those with these flags so many have a number below this one
abbrev pub below : List ℕ → ℕ → ℕ
below [] number = 0
below (flag ∷ flags) zero = 0
below (zero ∷ flags) (suc number) = below flags number
below (suc f ∷ flags) (suc number) = suc (below flags number)

pub record Found (l : LogValue) (p : PublisherValue) (c : Consumer) (head : FrameHead) (before : List ℕ) (q : PublisherValue) (after : List ℕ) : Type 0 where
  pub reader : ReaderValue
  pub reads : ReadsFrame l (reader_of p c) head before reader after
  pub seat : reader.held ≡ q

pub record FoundNone (p : PublisherValue) (c : Consumer) (before : List ℕ) (q : PublisherValue) (after : List ℕ) : Type 0 where
  pub reader : ReaderValue
  pub reads : ReadsNone (reader_of p c) before reader after
  pub seat : reader.held ≡ q

pub record Reread (l : LogValue) (p : PublisherValue) (c : Consumer) (at : ℕ) (head : FrameHead) (before : List ℕ) (q : PublisherValue) (after : List ℕ) : Type 0 where
  pub reader : ReaderValue
  pub reads : Rereads l (reader_of p c) at head before reader after
  pub seat : reader.held ≡ q
