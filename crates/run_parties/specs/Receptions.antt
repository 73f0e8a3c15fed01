-- What a receiver of a run lives through, what its subscriber reads of its image meanwhile, and what is tallied of that.
use Rattle.std.specs.Prelude.{◌≡◌, ◌⊎◌, ◌*◌, ◌≤◌, ⊤, ℕ, suc, min, List, [], ◌∷◌, ◌++◌, Option, None, Some, Result, Ok, Err, IfNone}
use Rattle.std.specs.Arc.{arc_value}
use Rattle.atomic_table.specs.Seated.{TableId}
use Rattle.counters.specs.Order.{zeros}
use Rattle.endpoint.specs.Devices.{Device}
use Rattle.endpoint.specs.declared.device_error.DeviceError.{DeviceError}
use Rattle.theory.specs.Placed.{Among, Placed}
use Rattle.assembler.specs.declared.fault.AssemblyError.{AssemblyError}
use Rattle.image.specs.Handles.{ImageWords, known_by, position_of}
use Rattle.image.specs.Rebuilding.{Inserting, join_of}
use Rattle.agents.specs.Cycles.{DutyState}
use Rattle.receiver.specs.CoreLives.{CoreAct, CoreLives, heard_in}
use Rattle.receiver.specs.Reading.{GivesMessage, GivesNothing, IsImage, Passes, Reading, RefusesFrame}
use Rattle.receiver.specs.Receiving.{Receiver}
use Rattle.receiver.specs.Representing.{Core, Represents}
use Rattle.run_parties.specs.Tallies.{Counted, IsTallyOf}
use Rattle.run_parties.specs.declared.receiver_threads.Waiting.{Waiting}

-- ---- the receiver

-- a core that began as this receiver has lived on, and what it heard is what its device has handed over since, where that tells it
pub record HasLived (begin : Receiver) (tells : Type 0) (before after : Device) (w : Core) : Type 0 where
  pub first : Core
  pub new : Represents first begin
  pub acts : List CoreAct
  pub lived : CoreLives first acts w
  pub heard : tells → after.received ≡ before.received ++ heard_in acts

-- ---- the subscriber

-- who reads stands at the image's join, and has begun nothing
pub record IsBegun (m : Reading) : Type 0 where
  pub stands : position_of m.seat ≡ m.heard_to
  pub at : m.heard_to ≡ 32 * m.image.key.join
  pub nothing : m.assembler.begun ≡ None

-- what a contract sees of who polls: the reader, the tally of what was polled, and how many messages were refused as too long
pub record PollerState : Type 0 where
  pub reader : Reading
  pub tally : Counted
  pub refused : ℕ

-- what a poll answers: a message, none, or why a frame was refused
abbrev pub Answer : Type 0
Answer = Result (Option (List ℕ)) AssemblyError

abbrev pub AnswersSo : Reading → Answer → Reading → Type 0
AnswersSo m (Ok (Some message)) n = GivesMessage m message n
AnswersSo m (Ok None) n = GivesNothing m n
AnswersSo m (Err fault) n = RefusesFrame m fault n

-- polls that answer these, one after the other; behind each its reader has passed what was heard
abbrev pub PollsAll : Reading → List Answer → Reading → Type 0
PollsAll m [] n = n ≡ m
PollsAll m (a ∷ more) n = (k : Reading) × (l : Reading) × AnswersSo m a k × Passes k l × PollsAll l more n

-- the messages that they gave
abbrev pub given_by : List Answer → List (List ℕ)
given_by [] = []
given_by (Ok (Some message) ∷ more) = message ∷ given_by more
given_by (Ok None ∷ more) = given_by more
given_by (Err fault ∷ more) = given_by more

-- how many of them were refused
abbrev pub refused_by : List Answer → ℕ
refused_by [] = 0
refused_by (Ok found ∷ more) = refused_by more
refused_by (Err fault ∷ more) = suc (refused_by more)

-- a count that stays at its greatest
abbrev pub counted : ℕ → ℕ
counted n = min n 18446744073709551615

-- it has polled from the join on, and the tally is that of the messages that its polls gave
pub record HasPolled (p : PollerState) : Type 0 where
  pub first : Reading
  pub begun : IsBegun first
  pub answers : List Answer
  pub polled : PollsAll first answers p.reader
  pub tally : IsTallyOf (given_by answers) p.tally
  pub refused : p.refused ≡ counted (refused_by answers)
  -- its reader has passed all that was heard
  pub stands : position_of p.reader.seat ≡ p.reader.heard_to

-- of the same image it has polled on, and tallied no more messages than were wanted
pub record HasPolledOn (wanted : ℕ) (old new : PollerState) : Type 0 where
  pub image : new.reader.image ≡ old.reader.image
  pub few : new.tally.polled ≤ wanted

-- ---- both at the end

-- polls from the join on, all of frames that the image has stored; the tally is that of the messages that they gave
pub record PolledFrom (i : Inserting) (t : Counted) (refused : ℕ) : Type 0 where
  pub first : Reading
  pub last : Reading
  pub join : first.heard_to ≡ join_of i
  pub nothing : first.assembler.begun ≡ None
  pub answers : List Answer
  pub polled : PollsAll first answers last
  pub stored : (s : Placed) → Among s (known_by last.seat) → Among s i.stored
  pub tally : IsTallyOf (given_by answers) t
  pub refused_are : refused ≡ counted (refused_by answers)

-- nobody has read
abbrev pub NobodyPolled : Counted → ℕ → Type 0
NobodyPolled t refused = IsTallyOf [] t × (refused ≡ 0)

abbrev pub PolledOf : Option Inserting → Counted → ℕ → Type 0
PolledOf None t refused = NobodyPolled t refused
PolledOf (Some i) t refused = NobodyPolled t refused ⊎ PolledFrom i t refused

-- a core that began as this receiver has lived so; and what polls of frames gave that its image has stored, from its join on, is tallied
pub record EndsLife (begin : Receiver) (tells : Type 0) (before after : Device) (t : Counted) (refused : ℕ) : Type 0 where
  pub core : Core
  pub lived : HasLived begin tells before after core
  pub polled : PolledOf core.image t refused

-- this receiver, with the counters of this name and a device in this state, is the one that waits
pub record Names {D : Type 0} (device : D → Device) (tells : D → Type 0) (w : Waiting D) (counters : TableId) (receiver : Receiver) (before : Device) (told : Type 0) : Type 0 where
  pub core : Represents w.core receiver
  pub one : receiver.consumers ≡ 1
  pub new : receiver.image ≡ None
  pub writer : w.writer.counters ≡ counters
  pub zero : w.writer.last ≡ zeros
  pub counters_are : arc_value w.counters ≡ counters
  pub device_is : device w.device ≡ before
  pub tells_it : told → tells w.device
  pub told_it : tells w.device → told

-- ---- a receiver with its device

-- the image whose reader was given away is the core's
abbrev pub HasDealtOf : Option Inserting → Option ImageWords → Type 0
HasDealtOf i None = ⊤
HasDealtOf i (Some w) = IsImage i w

-- what a contract sees of it
pub record ReceptionState (D : Type 0) : Type 0 where
  pub core : Core
  pub duty : DutyState D
  -- the image whose reader was given away
  pub image : Option ImageWords
  -- the last fault
  pub fault : Option DeviceError

-- it began as this receiver, over a device in this state; this is what it has lived through since
pub record HasReceivedOn {D : Type 0} (device : D → Device) (begin : Receiver) (before : Device) (told : Type 0) (r : ReceptionState D) : Type 0 where
  pub one : r.core.consumers ≡ 1
  pub dealt : HasDealtOf r.core.image r.image
  pub lived : HasLived begin told before (device r.duty.device) r.core

-- without a fault
pub record IsReception {D : Type 0} (device : D → Device) (tells : D → Type 0) (begin : Receiver) (before : Device) (told : Type 0) (r : ReceptionState D) : Type 0 where
  pub size : r.duty.mtu ≡ 40
  pub still_tells : told → tells r.duty.device
  pub received : IfNone r.fault (HasReceivedOn device begin before told r)
