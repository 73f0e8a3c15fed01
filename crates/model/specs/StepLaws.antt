-- Laws on single steps of a log and of a sender, and on where consumers stand.
use Rattle.std.specs.Prelude.{◌≡◌, ◌≤◌, ◌⊎◌, ℕ, ℤ, true, false, List, ◌∷◌, max}
use Rattle.std.specs.List.{AllByRecursion}
use Rattle.theory.specs.Position.{Geometry}
use Rattle.theory.specs.Placed.{AllAmong, Chain, IsReached, Placed}
use Rattle.theory.specs.Entry.{committed}
use Rattle.theory.specs.Numbered.{Each}
use Rattle.theory.specs.Resend.{IsTaken, kept, nat_of}
use Rattle.model.specs.Log.{Log, LogEvent, LogStep}
use Rattle.model.specs.Sender.{HearNak, Sender, SenderEvent, SenderStep, sender_limit}
use Rattle.model.specs.World.{World}

-- the limit never falls, and stays while the log is unconnected or closed; a log is closed for good
pub record LimitKept (old new : Log) : Type 0 where
  pub rises : old.limit ≤ new.limit
  pub stays : (old.connected ≡ false) ⊎ (old.closed ≡ true) → new.limit ≡ old.limit
  pub closed : old.closed ≡ true → new.closed ≡ true

abbrev pub KeepsLimit : Type 0
KeepsLimit = (others : List ℕ) (old new : Log) (e : LogEvent) → LogStep others old e new → LimitKept old new

-- no event takes a sender's clock back
abbrev pub ClockNeverFalls : Type 0
ClockNeverFalls = (g : Geometry) (start : ℕ) (read : List Placed) (old new : Sender) (e : SenderEvent) → SenderStep g start read old e new → old.clock ≤ new.clock

-- how far a sender may send never falls, to one receiver or to a group
abbrev pub FlowLimitNeverFalls : Type 0
FlowLimitNeverFalls = (g : Geometry) (start : ℕ) (read : List Placed) (old new : Sender) (e : SenderEvent) → SenderStep g start read old e new → sender_limit start old ≤ sender_limit start new

-- what a sender keeps of NAKs at the moment of another: those that haven't lingered long enough, and that one where it is taken
pub record KeepsNak (g : Geometry) (start : ℕ) (old new : Sender) (now : ℕ) (position length : ℤ) : Type 0 where
  pub taken : IsTaken g start old.at old.passed (kept now old.actions) position length → new.actions ≡ record { at = nat_of position; length = nat_of length; lingers = false; until = 0 } ∷ kept now old.actions
  pub refused : (IsTaken g start old.at old.passed (kept now old.actions) position length → ⊥) → new.actions ≡ kept now old.actions

abbrev pub KeepsNaks : Type 0
KeepsNaks = (g : Geometry) (start : ℕ) (read : List Placed) (old new : Sender) (now : ℕ) (position length : ℤ) → SenderStep g start read old (HearNak now position length) new → KeepsNak g start old new (max old.clock now) position length

-- each consumer stands where frames lead to that follow each other
pub record AreReached (w : World) : Type 0 where
  pub sender : IsReached (committed w.log.entries) w.log.start w.sender.at
  pub readers : Each (λ r. IsReached (committed w.log.entries) w.log.start r.at) w.log.readers
  pub images : Each (λ i. AllByRecursion (λ r. IsReached i.stored i.join r.at) i.consumers) w.images

-- what a sender passed are the log's frames from the start to where it stands, one after the other; it sends no others
pub record HavePassed (w : World) : Type 0 where
  pub chain : Chain w.log.start w.sender.at w.sender.passed
  pub among : AllAmong (committed w.log.entries) w.sender.passed
  pub sent : AllAmong (committed w.log.entries) w.sender.sent
