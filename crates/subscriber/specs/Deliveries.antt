-- Messages that are polled and written, and what comes behind that.
use Rattle.std.specs.Prelude.{◌≡◌, ◌⊎◌, ◌<◌, ◌≤◌, ℕ, min, Bool, true, false, List, [], ◌∷◌, length, Option, None, Some, Ok, Err}
use Rattle.std.specs.Io.KnownBytes.{Appends}
use Rattle.messages.specs.Forms.{AppendsPart, spelled, spelling}
use Rattle.messages.specs.declared.form.Form.{Form}
use Rattle.endpoint.specs.Devices.{Device}
use Rattle.agents.specs.Cycles.{Cycle, Fault}
use Rattle.agents.specs.Parties.{ReceiverHears, ReceiverTicks}
use Rattle.endpoint.specs.declared.device_error.DeviceError.{DeviceError}
use Rattle.receiver.specs.Polling.{Polls}
use Rattle.receiver.specs.Subscribing.{Subscribing, SubscriberBecomes}
use Rattle.receiver.specs.declared.poll_error.PollError.TheVariants.{NoImage, Unassembled}
use Rattle.subscriber.specs.Followers.{HasNoted}
use Rattle.subscriber.specs.declared.images.follower.Follower.{Follower}
use Rattle.assembler.specs.declared.fault.AssemblyError.{AssemblyError}
use Rattle.subscriber.specs.declared.images.delivery.Delivered.{Delivered}
use Rattle.subscriber.specs.declared.images.delivery.DeliveryFault.{DeliveryFault}
use Rattle.subscriber.specs.declared.images.delivery.DeliveryFault.TheVariants as faults

-- a poll that gives this message
abbrev pub PollsOne : Subscribing → List ℕ → Subscribing → Type 0
PollsOne s message t = SubscriberBecomes s t (λ r q. Polls r (Ok (Some message)) q)

-- a poll that gives none: no whole message is there, or no image
abbrev pub PollsNone : Subscribing → Subscribing → Type 0
PollsNone s t = SubscriberBecomes s t (λ r q. Polls r (Ok None) q) ⊎ SubscriberBecomes s t (λ r q. Polls r (Err NoImage) q)

-- polls that give these messages, one after the other
abbrev pub PollsAll : Subscribing → List (List ℕ) → Subscribing → Type 0
PollsAll s [] t = t ≡ s
PollsAll s (message ∷ messages) t = (u : Subscribing) × PollsOne s message u × PollsAll u messages t

-- a poll, and its message at the end of what the output holds
abbrev pub Steps : Form → Subscribing → Option (List ℕ) → Bool → Subscribing → Option (List ℕ) → Type 0
Steps form s before true t after = (message : List ℕ) × PollsOne s message t × Appends before after (spelled form message)
Steps form s before false t after = PollsNone s t × (after ≡ before)

-- as many messages as there were, or so many; what the output holds has grown by these, in order
pub record Delivers (form : Form) (most : ℕ) (s : Subscribing) (before : Option (List ℕ)) (number : ℕ) (t : Subscribing) (after : Option (List ℕ)) : Type 0 where
  pub messages : List (List ℕ)
  pub middle : Subscribing
  pub polled : PollsAll s messages middle
  pub counted : number ≡ length messages
  pub few : length messages ≤ most
  pub ended : ((length messages ≡ most) × (t ≡ middle)) ⊎ PollsNone middle t
  pub written : Appends before after (spelling form messages)

-- the duty's cycle begins where all that was polled is written
pub record WritesFirst (form : Form) (most now : ℕ) (tells : Type 0) (s : Subscribing) (before : Option (List ℕ)) (d : Device) (done : Delivered) (t : Subscribing) (after : Option (List ℕ)) (e : Device) : Type 0 where
  pub middle : Subscribing
  pub delivers : Delivers form (min 256 most) s before done.messages middle after
  pub cycle : Cycle ReceiverHears ReceiverTicks now tells middle d done.busy t e

-- and of what was heard then the end is noted that was told
pub record WritesAndNotes (form : Form) (most now : ℕ) (tells : Type 0) (f : Follower) (before : Option (List ℕ)) (d : Device) (done : Delivered) (g : Follower) (after : Option (List ℕ)) (e : Device) : Type 0 where
  pub writes : WritesFirst form most now tells f.subscriber before d done g.subscriber after e
  pub notes : HasNoted f writes.cycle.heard g

-- a poll whose frame the assembler refuses
abbrev pub PollsRefused : Subscribing → AssemblyError → Subscribing → Type 0
PollsRefused s error t = SubscriberBecomes s t (λ r q. Polls r (Err (Unassembled error)) q)

-- why a poll with its writing failed: the message that it gave is written in part, perhaps none of it; or none was given
abbrev pub StopsAtOne : Form → DeliveryFault → Subscribing → Option (List ℕ) → Subscribing → Option (List ℕ) → Type 0
StopsAtOne form (faults.Output number) s before t after = (message : List ℕ) × PollsOne s message t × AppendsPart before after (spelled form message)
StopsAtOne form (faults.Message error) s before t after = PollsRefused s error t × (after ≡ before)
StopsAtOne form (faults.Failed error) s before t after = ⊥

-- some messages are written; of one more that was polled a part is, perhaps none of it, and no more was polled
pub record BreaksOff (form : Form) (most : ℕ) (s : Subscribing) (before : Option (List ℕ)) (t : Subscribing) (after : Option (List ℕ)) : Type 0 where
  pub messages : List (List ℕ)
  pub middle : Subscribing
  pub last : List ℕ
  pub between : Option (List ℕ)
  pub polled : PollsAll s messages middle
  pub one : PollsOne middle last t
  pub few : length messages < most
  pub written : Appends before between (spelling form messages)
  pub part : AppendsPart between after (spelled form last)

-- why it ended before anything was heard: the output failed within a message, or at the flush, when all that was polled was written; or
-- behind some messages, which are written, a frame was refused
abbrev pub Stops : Form → ℕ → DeliveryFault → Subscribing → Option (List ℕ) → Subscribing → Option (List ℕ) → Type 0
Stops form most (faults.Output code) s before t after = BreaksOff form most s before t after ⊎ ((number : ℕ) × Delivers form most s before number t after)
Stops form most (faults.Message error) s before t after =
    (messages : List (List ℕ)) × (middle : Subscribing) × (length messages < most) × PollsAll s messages middle × PollsRefused middle error t × Appends before after (spelling form messages)
Stops form most (faults.Failed error) s before t after = ⊥

-- a fault of the duty's cycle, which began where all that was polled is written
pub record FailsBehind (form : Form) (most now : ℕ) (tells : Type 0) (fault : DeliveryFault) (s : Subscribing) (before : Option (List ℕ)) (d : Device) (t : Subscribing) (after : Option (List ℕ)) (e : Device) : Type 0 where
  pub middle : Subscribing
  pub number : ℕ
  pub why : DeviceError
  pub delivers : Delivers form (min 256 most) s before number middle after
  pub named : fault ≡ faults.Failed why
  pub fails : Fault ReceiverHears ReceiverTicks now tells why middle d t e

-- why a cycle ended; `still` says that nothing was heard or sent
abbrev pub Ends : Form → ℕ → ℕ → Type 0 → Type 0 → DeliveryFault → Subscribing → Option (List ℕ) → Device → Subscribing → Option (List ℕ) → Device → Type 0
Ends form most now tells still fault s before d t after e = (Stops form (min 256 most) fault s before t after × still) ⊎ FailsBehind form most now tells fault s before d t after e
