-- When a subscriber has heard its session, why it ends, what it lives through then, and why it can't begin.
use Rattle.std.specs.Prelude.{◌≡◌, ◌⊎◌, ◌≤◌, ⊤, ℕ, ℤ, List, [], ◌∷◌, Bool, true, false, IsTrue, Option, None, Some, if◌then◌else◌}
use Rattle.peer.specs.declared.fault.BindError.{BindError}
use Rattle.peer.specs.declared.fault.BindError.TheVariants as binds
use Rattle.options.specs.declared.ends.plans.SubscribePlan.{SubscribePlan}
use Rattle.receiver.specs.Lives.{Act, Gives, GivesNone, Hears, Lives, Ticks, heard_in}
use Rattle.receiver.specs.Receiving.{Opened, Receiver}
use Rattle.receiver.specs.Subscribing.{RepresentsSubscriber, Subscribing}
use Rattle.subscriber.specs.Followers.{HasNoted}
use Rattle.subscriber.specs.declared.images.follower.Follower.{Follower}
use Rattle.subscriber.specs.Watches.{IsQuiet, Seen, Timing, hearing, working}
use Rattle.subscriber.specs.Standing.{HasAll}
use Rattle.subscriber.specs.declared.fault.SubscribeFault.{SubscribeFault}
use Rattle.subscriber.specs.declared.fault.SubscribeFault.TheVariants.{Taken, NotHere, NoSocket, NoThread, Failed}
use Rattle.endpoint.specs.declared.device_error.DeviceError.TheVariants.{Device, Memory}
use Rattle.std.specs.declared.net.SocketAddr.{SocketAddr}
use Rattle.subscriber.specs.declared.images.session.Stand.{Stand}
use Rattle.subscriber.specs.declared.ending.Ending.{Ending}
use Rattle.subscriber.specs.declared.ending.Ending.TheVariants.{Whole, Short, Lost}

-- frames of the session were counted before a cycle and behind it; where that is another number, one came at the moment
pub record NotesHeard (before after : ℕ) (old new : Seen) : Type 0 where
  pub still : after ≡ before → new ≡ old
  pub heard : (after ≡ before → ⊥) → new ≡ hearing old

-- calls of its socket that worked were counted before a cycle and behind it; where that is another number, one did at the moment
pub record NotesWork (before after : ℕ) (old new : Timing) : Type 0 where
  pub still : after ≡ before → new ≡ old
  pub worked : (after ≡ before → ⊥) → new ≡ working old

-- as many messages are written as were wanted; or it was to end with the stream, and has all of it
abbrev pub HasEnough : SubscribePlan → ℕ → Stand → Type 0
HasEnough plan written x = (plan.messages ≤ written) ⊎ (IsTrue plan.once × HasAll x)

-- how one ends that is quiet: short where it was to end with the stream
abbrev pub IsQuietEnding : SubscribePlan → Ending → Type 0
IsQuietEnding plan Whole = plan.once ≡ false
IsQuietEnding plan Short = IsTrue plan.once
IsQuietEnding plan Lost = ⊥

-- it isn't done yet, but quiet
pub record IsGivenUp (plan : SubscribePlan) (written : ℕ) (s : Seen) (x : Stand) (how : Ending) : Type 0 where
  pub undone : ¬ HasEnough plan written x
  pub quiet : IsQuiet plan s
  pub ending : IsQuietEnding plan how

-- it has enough, or is quiet and wasn't to end with the stream
abbrev pub IsEnough : SubscribePlan → ℕ → Seen → Stand → Type 0
IsEnough plan written s x = HasEnough plan written x ⊎ IsGivenUp plan written s x Whole

-- then it is whole where it lost no image
abbrev pub enough_ending : Bool → Ending
enough_ending lost = if lost then Lost else Whole

-- how it ends behind so many messages, at the watch's moment, where it stands so, and whether it has lost an image
abbrev pub IsEnding : SubscribePlan → ℕ → Seen → Stand → Bool → Option Ending → Type 0
IsEnding plan written s x lost (Some Whole) = (lost ≡ false) × IsEnough plan written s x
IsEnding plan written s x lost (Some Short) = IsGivenUp plan written s x Short
IsEnding plan written s x lost (Some Lost) = (lost ≡ true) × IsEnough plan written s x
IsEnding plan written s x lost None = (¬ HasEnough plan written x) × (¬ IsQuiet plan s)

-- datagrams that it hears and moments that it is told, and no poll
abbrev pub AreUnpolled : List Act → Type 0
AreUnpolled [] = ⊤
AreUnpolled (Hears now bytes ∷ acts) = AreUnpolled acts
AreUnpolled (Ticks now ∷ acts) = AreUnpolled acts
AreUnpolled (Gives message ∷ acts) = ⊥
AreUnpolled (GivesNone ∷ acts) = ⊥

-- it lived on by these alone
pub record LivesUnpolled (s t : Subscribing) : Type 0 where
  pub acts : List Act
  pub unpolled : AreUnpolled acts
  pub lived : Lives s acts t

-- and noted the ends that were told
pub record ListensOn (f g : Follower) : Type 0 where
  pub lives : LivesUnpolled f.subscriber g.subscriber
  pub notes : HasNoted f (heard_in lives.acts) g

-- an image has the consumers that it had
abbrev pub KeepsConsumers : Option Opened → Option Opened → Type 0
KeepsConsumers None after = ⊤
KeepsConsumers (Some o) None = ⊥
KeepsConsumers (Some o) (Some p) = p.image.consumers ≡ o.image.consumers

-- the consumer of its image stands where it stood
abbrev pub StandsStill : Subscribing → Subscribing → Type 0
StandsStill s t = (r : Receiver) → RepresentsSubscriber s r → (q : Receiver) × RepresentsSubscriber t q × KeepsConsumers r.image q.image

-- it has all of the stream, and was quiet since
pub record IsSettled (plan : SubscribePlan) (s : Seen) (x : Stand) : Type 0 where
  pub all : HasAll x
  pub quiet : IsQuiet plan s

-- then it is silent, and else it tells where it stands
pub record LeavesFrom (plan : SubscribePlan) (s : Seen) (x : Stand) (silent tells : Type 0) : Type 0 where
  pub settled : IsSettled plan s x → silent
  pub unsettled : ¬ IsSettled plan s x → tells

-- why there is no second thread: the clock can't be read, the system refused it, or memory was refused
abbrev pub IsStartFault : SubscribeFault → Type 0
IsStartFault fault = (fault ≡ NoThread) ⊎ ((fault ≡ Failed Device) ⊎ (fault ≡ Failed Memory))

-- why no image could be opened: memory was refused, or a handle of the socket
abbrev pub IsOpenFault : SubscribeFault → Type 0
IsOpenFault fault = (fault ≡ Failed Memory) ⊎ ((number : Option ℤ) × (fault ≡ NoSocket number))

-- why there is no listener at this address
abbrev pub of_bind : SocketAddr → BindError → SubscribeFault
of_bind address binds.Taken = Taken address
of_bind address binds.NotHere = NotHere address
of_bind address (binds.Refused number) = NoSocket number
of_bind address binds.Memory = Failed Memory
