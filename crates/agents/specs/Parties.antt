-- What a sender and a receiver make of a datagram and of a moment, and what they give out.
use Rattle.std.specs.Prelude.{◌≡◌, ℕ, ℤ, Bool, List, [], map}
use Rattle.theory.specs.Wire.{spelling}
use Rattle.frame_source.specs.Sources.{Source}
use Rattle.sender.specs.Sending.{HearsDatagram, Sending}
use Rattle.sender.specs.declared.sender_core.SenderAnswer.{SenderAnswer}
use Rattle.receiver.specs.Receiving.{Receiver, TakesDatagram, replies, ticked}
use Rattle.receiver.specs.Representing.{Core, HearsDatagram as Takes, ImageLooks, ImageSeesOn, Represents, core_seen_as}
use Rattle.receiver.specs.Subscribing.{RepresentsSubscriber, Subscribing, SubscriberBecomes}
use Rattle.receiver.specs.declared.receiver_core.Outcome.{Outcome}

-- a sender hears a datagram; what it reads stays as it is
pub record SenderHears {R F : Type 0} (after_status : F → ℤ → ℤ → ℤ → ℕ → F) (reached : F → ℕ) (has_heard : F → Bool) (s : Sending R F) (old : Source) (bytes : List ℕ) (t : Sending R F) (new : Source) (given : List (List ℕ)) : Type 0 where
  pub answer : SenderAnswer
  pub hears : HearsDatagram after_status reached has_heard s bytes answer t given
  pub same : new ≡ old

-- a receiver takes a datagram, and gives nothing out
pub record ReceiverHears (s : Subscribing) (now : ℕ) (bytes : List ℕ) (t : Subscribing) (given : List (List ℕ)) : Type 0 where
  pub outcomes : List Outcome
  pub becomes : SubscriberBecomes s t (λ r q. TakesDatagram r now bytes outcomes q)
  pub silent : given ≡ []

-- at a moment it gives its replies out, each in a datagram of its own
pub record ReceiverTicks (s : Subscribing) (now : ℕ) (t : Subscribing) (given : List (List ℕ)) : Type 0 where
  pub becomes : (r : Receiver) → RepresentsSubscriber s r → RepresentsSubscriber t (ticked r now)
  pub replies_are : (r : Receiver) → RepresentsSubscriber s r → given ≡ map spelling (replies r now)

-- ---- a receiver's core, whose consumers may go forward all the time

-- it takes a datagram, and gives nothing out
pub record CoreHears (s : Core) (now : ℕ) (bytes : List ℕ) (t : Core) (given : List (List ℕ)) : Type 0 where
  pub outcomes : List Outcome
  pub hears : Takes s now bytes outcomes t
  pub consumers : t.consumers ≡ s.consumers
  pub silent : given ≡ []

-- at a moment it looks once at the consumers, and gives out the replies of a receiver whose consumers stand where it saw them,
-- each in a datagram of its own
pub record CoreTicks (s : Core) (now : ℕ) (t : Core) (given : List (List ℕ)) : Type 0 where
  pub sees : ImageSeesOn s.image t.image
  pub looks : ImageLooks s.image t.image
  pub becomes : (r : Receiver) → Represents (core_seen_as s t) r → Represents t (ticked r now)
  pub replies_are : (r : Receiver) → Represents (core_seen_as s t) r → given ≡ map spelling (replies r now)
  pub consumers : t.consumers ≡ s.consumers
