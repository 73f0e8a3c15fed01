-- What a contract sees of a subscriber's pass, and what its calls make of it.
use Rattle.std.specs.Prelude.{◌≡◌, ℕ, ℤ, ◌<◌, ◌≤◌, List, [], ◌++◌, drop, length, map, None, Some, Ok, Err}
use Rattle.theory.specs.Wire.{spelling}
use Rattle.receiver.specs.declared.poll_error.PollError.{PollError}
use Rattle.receiver.specs.declared.receiver_core.Outcome.{Outcome}
use Rattle.receiver.specs.Polling.{Answer, Polls}
use Rattle.receiver.specs.Receiving.{Receiver, TakesDatagram, listening, replies, ticked}
use Rattle.receiver.specs.Subscribing.{RepresentsSubscriber, SubscriberBecomes}
use Rattle.cores.specs.Numbers.{poll_fault}
use Rattle.cores.specs.Rooms.{with_outcomes}
use Rattle.cores.specs.Subscribers.{SubscriberValue}
use Rattle.cores.specs.declared.fault.Fault.{Fault}
use Rattle.cores.specs.declared.fault.Fault.TheVariants.{Memory, Room, Unsent}
use Rattle.cores.specs.declared.subscribing.Subscription.{Subscription}

abbrev pub greatest_of : SubscriberValue → ℕ
greatest_of p = p.subscriber.assembler.greatest

-- one of this stream that has met nothing yet
pub record Subscribes (c : Subscription) (p : SubscriberValue) : Type 0 where
  pub shown : RepresentsSubscriber p.subscriber (listening c.session c.stream c.window c.receiver 1 c.greatest)
  pub none : p.left ≡ []

-- what it has yet to send is the same, and so are its greatest messages
pub record KeepsRest (p q : SubscriberValue) : Type 0 where
  pub left : q.left ≡ p.left
  pub greatest : greatest_of q ≡ greatest_of p

-- a datagram was taken: of so many frames, and what became of each is told as far as there is room
pub record Receives (p : SubscriberValue) (now : ℕ) (bytes : List ℕ) (before : List ℤ) (count : ℕ) (after : List ℤ) (q : SubscriberValue) : Type 0 where
  pub outcomes : List Outcome
  pub takes : SubscriberBecomes p.subscriber q.subscriber (λ r s. TakesDatagram r now bytes outcomes s)
  pub count_is : count ≡ length outcomes
  pub told : after ≡ with_outcomes outcomes before
  pub rest : KeepsRest p q

-- memory was refused, and nothing has changed
pub record RefusesDatagram (p : SubscriberValue) (before : List ℤ) (fault : Fault) (after : List ℤ) (q : SubscriberValue) : Type 0 where
  pub fault_is : fault ≡ Memory
  pub same : q ≡ p
  pub untouched : after ≡ before

-- a moment was taken: what goes out then is what is left
pub record Ticks (p : SubscriberValue) (now : ℕ) (q : SubscriberValue) : Type 0 where
  pub none : p.left ≡ []
  pub left : (r : Receiver) → RepresentsSubscriber p.subscriber r → q.left ≡ map spelling (replies r now)
  pub state : (r : Receiver) → RepresentsSubscriber p.subscriber r → RepresentsSubscriber q.subscriber (ticked r now)
  pub greatest : greatest_of q ≡ greatest_of p

-- some are left, and nothing has changed
pub record IsUnsent (p : SubscriberValue) (fault : Fault) (q : SubscriberValue) : Type 0 where
  pub some : p.left ≡ [] → ⊥
  pub fault_is : fault ≡ Unsent
  pub same : q ≡ p

-- a poll of the core
pub record ReadsOn (p : SubscriberValue) (answer : Answer) (q : SubscriberValue) : Type 0 where
  pub polls : SubscriberBecomes p.subscriber q.subscriber (λ r s. Polls r answer s)
  pub rest : KeepsRest p q

-- a whole message, which stands in the room's front
pub record GivesMessage (p : SubscriberValue) (before : List ℕ) (n : ℕ) (after : List ℕ) (q : SubscriberValue) : Type 0 where
  pub message : List ℕ
  pub reads : ReadsOn p (Ok (Some message)) q
  pub long : n ≡ length message
  pub fits : n ≤ length before
  pub written : after ≡ message ++ drop n before

-- none is whole yet
pub record GivesNone (p : SubscriberValue) (before after : List ℕ) (q : SubscriberValue) : Type 0 where
  pub reads : ReadsOn p (Ok None) q
  pub untouched : after ≡ before

-- the core's poll failed, by this fault
pub record ReadFails (p : SubscriberValue) (fault : Fault) (q : SubscriberValue) : Type 0 where
  pub error : PollError
  pub reads : ReadsOn p (Err error) q
  pub fault_is : fault ≡ poll_fault error

-- the room may be too small for a message, and nothing was read
pub record RoomIsSmall (p : SubscriberValue) (size : ℕ) (q : SubscriberValue) : Type 0 where
  pub small : size < greatest_of p
  pub same : q ≡ p

abbrev pub WhyNoMessage : SubscriberValue → ℕ → Fault → SubscriberValue → Type 0
WhyNoMessage p size Room q = RoomIsSmall p size q
WhyNoMessage p size fault q = ReadFails p fault q

pub record PollFails (p : SubscriberValue) (before : List ℕ) (fault : Fault) (after : List ℕ) (q : SubscriberValue) : Type 0 where
  pub why : WhyNoMessage p (length before) fault q
  pub untouched : after ≡ before
