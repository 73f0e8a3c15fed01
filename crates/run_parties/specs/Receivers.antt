-- A receiver of a run.
use Rattle.std.specs.Prelude.{◌≡◌, ◌≤◌, ◌/◌, ℕ, ℤ, pos}
use Rattle.std.specs.Arc.{arc_value}
use Rattle.theory.specs.Position.{Geometry, max_message}
use Rattle.counters.specs.Order.{zeros}
use Rattle.receiver.specs.Receiving.{Receiver, listening}
use Rattle.receiver.specs.Representing.{Represents}
use Rattle.endpoint.specs.Devices.{Device}
use Rattle.run_parties.specs.Groups.{id_of}
use Rattle.run_parties.specs.Receptions.{EndsLife}
use Rattle.run_parties.specs.declared.receiver_threads.Waiting.{Waiting}
use Rattle.run_parties.specs.declared.reception.Received.{Received}
use Rattle.run_parties.specs.declared.new_receiver.ReceiverParts.{ReceiverParts}

-- it has met nothing; its window is half a term, and it puts messages together that are as long as one of this shape may be
abbrev pub new_receiver : Geometry → ℤ → Receiver
new_receiver g id = listening (pos 1) (pos 1001) (g.term_length / 2) id 1 (max_message g)

-- a receiver that has met nothing, and counters at zero
pub record AreReceiverParts (g : Geometry) (id : ℤ) (p : ReceiverParts) : Type 0 where
  pub core : Represents p.core (new_receiver g id)
  pub greatest : p.greatest ≡ max_message g
  pub writer : p.writer.counters ≡ arc_value p.counters
  pub zero : p.writer.last ≡ zeros
  pub reader : p.reader.counters ≡ arc_value p.counters

-- one of so many that waits, by its number: it has met nothing, has the id that goes with its number, and its counters are at zero
pub record IsWaitingReceiver {D : Type 0} (g : Geometry) (count n : ℕ) (w : Waiting D) : Type 0 where
  pub number : w.number ≡ n
  pub id : w.id ≡ id_of count n
  pub core : Represents w.core (new_receiver g w.id)
  pub greatest : w.greatest ≡ max_message g
  pub writer : w.writer.counters ≡ arc_value w.counters
  pub zero : w.writer.last ≡ zeros

-- it has lived over its device up to the one that came back, and its subscriber has tallied what it read: no more messages than were
-- wanted
pub record HasReceived {D : Type 0} (device : D → Device) (tells : D → Type 0) (g : Geometry) (count wanted n : ℕ) (before : D) (r : Received D) : Type 0 where
  pub most : r.tally.polled ≤ wanted
  pub lived : EndsLife (new_receiver g (id_of count n)) (tells before) (device before) (device r.device) r.tally r.refused
