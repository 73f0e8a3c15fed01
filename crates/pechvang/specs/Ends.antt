-- What opens a subscriber and a sender, and what their calls do, by what the handle holds.
use Rattle.std.specs.Prelude.{◌≡◌, ℕ, ◌⊎◌, ℤ, pos, negsuc, List}
use Rattle.std.specs.declared.option.Option.TheVariants.{None, Some}
use Rattle.cores.specs.Departures.{Departs, NoneDeparts, WontDepart}
use Rattle.cores.specs.Sending as sends
use Rattle.cores.specs.Subscribing as takes
use Rattle.cores.specs.declared.subscribing.Subscription.{Subscription}
use Rattle.pechvang.specs.declared.held.Pass.TheVariants.{Reader, Sender, Subscriber}
use Rattle.pechvang.specs.Answers.{Does, FailsCore, Unserved}
use Rattle.pechvang.specs.Owned.{Held}

-- memory was refused, and the handle is as it was
pub record LacksMemory (before : Held) (code : ℤ) (after : Held) : Type 0 where
  pub code_is : code ≡ negsuc 18
  pub same : after ≡ before

-- a subscriber opens, and the handle holds it
abbrev pub SubscriberOpens : Subscription → Held → ℤ → Held → Type 0
SubscriberOpens config before code after = Does Subscriber (pos 0) (λ s. takes.Subscribes config s.value) code after ⊎ LacksMemory before code after

-- a reader becomes a sender, which another handle holds; or it is declined, and that one is as it was
abbrev pub SenderOpens : Held → ℕ → Held → ℤ → Held → Held → Type 0
SenderOpens (Some (Reader r)) group before code k after =
    (Does Sender (pos 0) (λ s. sends.Sends r group s.value) code after × (k ≡ None)) ⊎ (FailsCore Reader (λ fault q. sends.DeclinesSender r group fault q) code k × (after ≡ before))
SenderOpens h group before code k after = Unserved h code k × (after ≡ before)

-- a datagram was taken, and what became of its frames is told; or memory was refused, and nothing is written
abbrev pub TakesIn : Held → List ℕ → ℕ → List ℤ → ℕ → ℤ → List ℤ → ℕ → Held → Type 0
TakesIn (Some (Subscriber s)) bytes now before frames code after count k =
    Does Subscriber (pos 0) (λ q. takes.Receives s.value now bytes before count after q.value) code k ⊎ (FailsCore Subscriber (λ fault q. takes.RefusesDatagram s.value before fault after q.value) code k × (count ≡ frames))
TakesIn h bytes now before frames code after count k = Unserved h code k × (after ≡ before) × (count ≡ frames)

-- a message is given; or none is whole yet; or there is none for the cause that the code names
abbrev pub PollsInto : Held → List ℕ → ℕ → ℤ → List ℕ → ℕ → Held → Type 0
PollsInto (Some (Subscriber s)) before length code after n k =
    Does Subscriber (pos 1) (λ q. takes.GivesMessage s.value before n after q.value) code k
    ⊎ ((Does Subscriber (pos 0) (λ q. takes.GivesNone s.value before after q.value) code k ⊎ FailsCore Subscriber (λ fault q. takes.PollFails s.value before fault after q.value) code k) × (n ≡ length))
PollsInto h before length code after n k = Unserved h code k × (after ≡ before) × (n ≡ length)

-- a datagram was taken, and what became of it is told; or some are left that weren't sent, and nothing is written
abbrev pub HearsOne : Held → List ℕ → ℕ → ℤ → ℤ → ℤ → Held → Type 0
HearsOne (Some (Sender s)) bytes now before code after k =
    Does Sender (pos 0) (λ q. sends.Hears s.value now bytes after q.value) code k ⊎ (FailsCore Sender (λ fault q. sends.IsUnsent s.value fault q.value) code k × (after ≡ before))
HearsOne h bytes now before code after k = Unserved h code k × (after ≡ before)

-- a moment was taken; or some datagrams are left that weren't sent
abbrev pub TicksAt : Held → ℕ → ℤ → Held → Type 0
TicksAt (Some (Subscriber s)) now code k = Does Subscriber (pos 0) (λ q. takes.Ticks s.value now q.value) code k ⊎ FailsCore Subscriber (λ fault q. takes.IsUnsent s.value fault q.value) code k
TicksAt (Some (Sender s)) now code k = Does Sender (pos 0) (λ q. sends.Ticks s.value now q.value) code k ⊎ FailsCore Sender (λ fault q. sends.IsUnsent s.value fault q.value) code k
TicksAt h now code k = Unserved h code k

-- the next datagram of a core is given, which is left as it was; or none is left; or it is longer than the room
abbrev pub GivesDatagram : Held → List ℕ → ℕ → ℤ → List ℕ → ℕ → Held → Type 0
GivesDatagram (Some (Subscriber s)) before length code after n k =
    Does Subscriber (pos 1) (λ q. Departs s.value.left before n after q.value.left × (q.value.subscriber ≡ s.value.subscriber)) code k
    ⊎ ((Does Subscriber (pos 0) (λ q. NoneDeparts s.value.left before after q.value.left × (q.value.subscriber ≡ s.value.subscriber)) code k
    ⊎ FailsCore Subscriber (λ fault q. WontDepart s.value.left before fault after q.value.left × (q.value.subscriber ≡ s.value.subscriber)) code k) × (n ≡ length))
GivesDatagram (Some (Sender s)) before length code after n k =
    Does Sender (pos 1) (λ q. Departs s.value.left before n after q.value.left × (q.value.core ≡ s.value.core)) code k
    ⊎ ((Does Sender (pos 0) (λ q. NoneDeparts s.value.left before after q.value.left × (q.value.core ≡ s.value.core)) code k
    ⊎ FailsCore Sender (λ fault q. WontDepart s.value.left before fault after q.value.left × (q.value.core ≡ s.value.core)) code k) × (n ≡ length))
GivesDatagram h before length code after n k = Unserved h code k × (after ≡ before) × (n ≡ length)
