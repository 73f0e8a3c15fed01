-- Why a subscriber ends by a fault.
use Rattle.std.specs.Prelude.{◌≡◌, ◌⊎◌, ⊤, ℕ, List, [], ◌∷◌, Option, Some}
use Rattle.std.specs.declared.net.SocketAddr.{SocketAddr}
use Rattle.assembler.specs.declared.fault.AssemblyError.{AssemblyError}
use Rattle.endpoint.specs.declared.device_error.DeviceError.TheVariants as devices
use Rattle.messages.specs.declared.form.Form.{Form}
use Rattle.options.specs.declared.ends.plans.SubscribePlan.{SubscribePlan}
use Rattle.peer.specs.Ties.{Came, Listening}
use Rattle.receiver.specs.Subscribing.{Subscribing}
use Rattle.subscriber.specs.Calls.{IsCall}
use Rattle.subscriber.specs.Deliveries.{BreaksOff, Delivers, PollsRefused}
use Rattle.subscriber.specs.Leavings.{IsOpenFault}
use Rattle.subscriber.specs.Watches.{IsBroken, Timing}
use Rattle.subscriber.specs.declared.fault.SubscribeFault.{SubscribeFault}
use Rattle.subscriber.specs.declared.fault.SubscribeFault.TheVariants.{Failed, Message, NoSocket, NoThread, NotHere, Output, Taken}
use Rattle.subscriber.specs.declared.images.session.Session.{Session}
use Rattle.subscriber.specs.declared.listening.Call.TheVariants as calls
use Rattle.subscriber.specs.declared.listening.setup_offer.SetupOffer.{SetupOffer}

-- ---- of one session

-- the last that it did was a poll, whose frame the assembler refused
abbrev pub HasRefused : Subscribing → Type 0
HasRefused t = (s : Subscribing) × (error : AssemblyError) × PollsRefused s error t

-- the last that it did were polls, and the output failed within the message of the last one, or at the flush behind all of them
abbrev pub HasFailed : Form → Subscribing → Option (List ℕ) → Type 0
HasFailed form t after =
    (most : ℕ) × (s : Subscribing) × (before : Option (List ℕ)) × (BreaksOff form most s before t after ⊎ ((number : ℕ) × Delivers form most s before number t after))

-- why its cycle ended: the output failed, a frame was refused, or memory was; no failing call ends it
abbrev pub IsCycleFault : Form → SubscribeFault → Subscribing → Option (List ℕ) → Type 0
IsCycleFault form (Output number) t after = HasFailed form t after
IsCycleFault form Message t after = HasRefused t
IsCycleFault form (Failed error) t after = error ≡ devices.Memory
IsCycleFault form (Taken address) t after = ⊥
IsCycleFault form (NotHere address) t after = ⊥
IsCycleFault form (NoSocket number) t after = ⊥
IsCycleFault form NoThread t after = ⊥

-- why its turn ended: so, or since no call of the socket has worked for 5 seconds
abbrev pub IsTurnFault : Form → SubscribeFault → Subscribing → Option (List ℕ) → Timing → Type 0
IsTurnFault form (Output number) t after seen = HasFailed form t after
IsTurnFault form Message t after seen = HasRefused t
IsTurnFault form (Failed error) t after seen = (error ≡ devices.Memory) ⊎ ((error ≡ devices.Device) × IsBroken seen)
IsTurnFault form (Taken address) t after seen = ⊥
IsTurnFault form (NotHere address) t after seen = ⊥
IsTurnFault form (NoSocket number) t after seen = ⊥
IsTurnFault form NoThread t after seen = ⊥

-- ---- of all

-- one of them is so
abbrev pub AnyIs : (Session → Type 0) → List Session → Type 0
AnyIs Is [] = ⊥
AnyIs Is (j ∷ others) = Is j ⊎ AnyIs Is others

-- why the turn of one of them ended
abbrev pub IsOnesFault : Form → SubscribeFault → List Session → Option (List ℕ) → Timing → Type 0
IsOnesFault form fault sessions after seen = AnyIs (λ (j : Session). IsTurnFault form fault j.follower.subscriber after seen) sessions

-- why none is followed any more: the output failed, or a frame was refused, in the last turn of one of them; memory was refused, or a handle of
-- the socket; no call of that has worked for 5 seconds, or the clock can't be read
abbrev pub IsFollowFault : Form → SubscribeFault → List Session → Option (List ℕ) → Type 0
IsFollowFault form (Output number) sessions after = AnyIs (λ (j : Session). HasFailed form j.follower.subscriber after) sessions
IsFollowFault form Message sessions after = AnyIs (λ (j : Session). HasRefused j.follower.subscriber) sessions
IsFollowFault form (Failed error) sessions after = ⊤
IsFollowFault form (NoSocket number) sessions after = ⊤
IsFollowFault form (Taken address) sessions after = ⊥
IsFollowFault form (NotHere address) sessions after = ⊥
IsFollowFault form NoThread sessions after = ⊥

-- ---- before an image

-- a SETUP came last that would open one
abbrev pub HasCome : SubscribePlan → Listening → Type 0
HasCome plan l = (came : Came) × (m : SetupOffer) × (l.came ≡ Some came) × IsCall plan came.from came.bytes (calls.Opens m)

-- the clock can't be read, or no call of the socket has worked for 5 seconds; or an image couldn't be opened by a SETUP that came
abbrev pub IsListenFault : SubscribePlan → SubscribeFault → Listening → Type 0
IsListenFault plan fault l = (fault ≡ Failed devices.Device) ⊎ (IsOpenFault fault × HasCome plan l)

-- ---- of a subscriber

-- none of those with which it can't begin
abbrev pub IsRunFault : SubscribeFault → Type 0
IsRunFault (Output number) = ⊤
IsRunFault Message = ⊤
IsRunFault (Failed error) = ⊤
IsRunFault (NoSocket number) = ⊤
IsRunFault (Taken address) = ⊥
IsRunFault (NotHere address) = ⊥
IsRunFault NoThread = ⊥

-- where it couldn't begin nothing was written: this address is another's or isn't there, or the system gave no thread
abbrev pub IsSubscribeFault : SocketAddr → SubscribeFault → Option (List ℕ) → Option (List ℕ) → Type 0
IsSubscribeFault address (Output number) before after = ⊤
IsSubscribeFault address Message before after = ⊤
IsSubscribeFault address (Failed error) before after = ⊤
IsSubscribeFault address (NoSocket number) before after = ⊤
IsSubscribeFault address (Taken at) before after = (at ≡ address) × (after ≡ before)
IsSubscribeFault address (NotHere at) before after = (at ≡ address) × (after ≡ before)
IsSubscribeFault address NoThread before after = after ≡ before
