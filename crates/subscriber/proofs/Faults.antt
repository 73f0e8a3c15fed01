-- What ends a subscriber by a fault was a cause of that.
use Rattle.std.proofs.Common.{◌≡◌, ◌≢◌, ◌∙◌, ◌<◌, ℕ, zero, suc, min, List, [], ◌∷◌, length, set, Option, None, Some, inl, inr, refl, sym, ap, subst, arith}
use Rattle.std.specs.declared.net.SocketAddr.{SocketAddr}
use Rattle.endpoint.specs.Devices.{Device}
use Rattle.endpoint.specs.declared.device_error.DeviceError.{DeviceError}
use Rattle.endpoint.specs.declared.device_error.DeviceError.TheVariants as errors
use Rattle.messages.specs.declared.form.Form.{Form}
use Rattle.options.specs.declared.ends.plans.SubscribePlan.{SubscribePlan}
use Rattle.peer.specs.Ties.{Came, Listening}
use Rattle.peer.specs.declared.fault.BindError.{BindError}
use Rattle.peer.specs.declared.fault.BindError.TheVariants as binds
use Rattle.receiver.specs.Subscribing.{Subscribing}
use Rattle.subscriber.proofs.Patience.{never_failed}
use Rattle.subscriber.specs.Calls.{Heeds, IsCall, Waiting, answered, met_by}
use Rattle.subscriber.specs.Deliveries.{Ends}
use Rattle.subscriber.specs.FaultTexts.{of_delivery}
use Rattle.subscriber.specs.Faults.{AnyIs, HasCome, IsCycleFault, IsFollowFault, IsListenFault, IsOnesFault, IsRunFault, IsSubscribeFault, IsTurnFault}
use Rattle.subscriber.specs.Leavings.{IsOpenFault, IsStartFault, of_bind}
use Rattle.subscriber.specs.Watches.{Timing}
use Rattle.subscriber.specs.declared.images.delivery.DeliveryFault.{DeliveryFault}
use Rattle.subscriber.specs.declared.images.delivery.DeliveryFault.TheVariants as deliveries
use Rattle.subscriber.specs.declared.images.session.Session.{Session}
use Rattle.subscriber.specs.declared.listening.Call.{Call}
use Rattle.subscriber.specs.declared.listening.Call.TheVariants as calls
use Rattle.subscriber.specs.declared.listening.setup_offer.SetupOffer.{SetupOffer}
use Rattle.subscriber.specs.declared.fault.SubscribeFault.{SubscribeFault}
use Rattle.subscriber.specs.declared.fault.SubscribeFault.TheVariants as faults

pub memory_if : (why : DeviceError) → why ≢ errors.Device → why ≡ errors.Memory
memory_if errors.Device not = absurd (not refl)
memory_if errors.Memory not = refl

same_failure : (a b : DeviceError) → deliveries.Failed a ≡ deliveries.Failed b → a ≡ b
same_failure a b is = cc

-- ---- one session

pub cycle_fault : (form : Form) (most now : ℕ) (tells still : Type 0) (f : DeliveryFault) (s : Subscribing) (before : Option (List ℕ)) (d : Device) (t : Subscribing) (after : Option (List ℕ)) (e : Device)
    → d.failures ≡ 0 → e.failures ≡ 0 → Ends form most now tells still f s before d t after e → IsCycleFault form (of_delivery f) t after
cycle_fault form most now tells still (deliveries.Output code) s before d t after e x y (inl h) = (min 256 most, s, before, h.0)
cycle_fault form most now tells still (deliveries.Output code) s before d t after e x y (inr h) = absurd (let is = h.named in cc)
cycle_fault form most now tells still (deliveries.Message error) s before d t after e x y (inl h) = (h.0.1, error, h.0.4)
cycle_fault form most now tells still (deliveries.Message error) s before d t after e x y (inr h) = absurd (let is = h.named in cc)
cycle_fault form most now tells still (deliveries.Failed why) s before d t after e x y (inl h) = absurd h.0
cycle_fault form most now tells still (deliveries.Failed why) s before d t after e x y (inr h) =
    same_failure why h.why h.named ∙ memory_if h.why (never_failed h.why d e h.fails.lost x y h.fails.explained)

pub cycle_turn : (form : Form) (fault : SubscribeFault) (t : Subscribing) (after : Option (List ℕ)) (seen : Timing) → IsCycleFault form fault t after → IsTurnFault form fault t after seen
cycle_turn form (faults.Output number) t after seen h = h
cycle_turn form faults.Message t after seen h = h
cycle_turn form (faults.Failed error) t after seen h = inl h
cycle_turn form (faults.Taken address) t after seen h = h
cycle_turn form (faults.NotHere address) t after seen h = h
cycle_turn form (faults.NoSocket number) t after seen h = h
cycle_turn form faults.NoThread t after seen h = h

pub memory_turn : (form : Form) (fault : SubscribeFault) (t : Subscribing) (after : Option (List ℕ)) (seen : Timing) → fault ≡ faults.Failed errors.Memory → IsTurnFault form fault t after seen
memory_turn form fault t after seen is = subst (λ (f : SubscribeFault). IsTurnFault form f t after seen) (sym is) (inl refl)

-- ---- all

pub any_at : (Is : Session → Type 0) (xs : List Session) (i : ℕ) (v : Session) → i < length xs → Is v → AnyIs Is (set xs i v)
any_at Is [] i v less is = absurd (omega (arith, less))
any_at Is (x ∷ xs) zero v less is = inl is
any_at Is (x ∷ xs) (suc i) v less is = inr (any_at Is xs i v (omega (arith, less)) is)

no_any : (xs : List Session) → AnyIs (λ (j : Session). ⊥) xs → ⊥
no_any [] h = h
no_any (x ∷ xs) (inl h) = h
no_any (x ∷ xs) (inr h) = no_any xs h

turn_followed : (form : Form) (fault : SubscribeFault) (xs : List Session) (after : Option (List ℕ)) (seen : Timing) → IsOnesFault form fault xs after seen → IsFollowFault form fault xs after
turn_followed form (faults.Output number) xs after seen h = h
turn_followed form faults.Message xs after seen h = h
turn_followed form (faults.Failed error) xs after seen h = tt
turn_followed form (faults.NoSocket number) xs after seen h = tt
turn_followed form (faults.Taken address) xs after seen h = no_any xs h
turn_followed form (faults.NotHere address) xs after seen h = no_any xs h
turn_followed form faults.NoThread xs after seen h = no_any xs h

-- of a list that is this one
pub turn_whole : (form : Form) (fault : SubscribeFault) (xs ys : List Session) (after : Option (List ℕ)) (seen : Timing) → ys ≡ xs → IsOnesFault form fault xs after seen → IsFollowFault form fault ys after
turn_whole form fault xs ys after seen same h = subst (λ (zs : List Session). IsFollowFault form fault zs after) (sym same) (turn_followed form fault xs after seen h)

pub open_followed : (form : Form) (fault : SubscribeFault) (xs : List Session) (after : Option (List ℕ)) → IsOpenFault fault → IsFollowFault form fault xs after
open_followed form fault xs after (inl is) = subst (λ (f : SubscribeFault). IsFollowFault form f xs after) (sym is) tt
open_followed form fault xs after (inr is) = subst (λ (f : SubscribeFault). IsFollowFault form f xs after) (sym is.1) tt

pub followed_run : (form : Form) (fault : SubscribeFault) (xs : List Session) (after : Option (List ℕ)) → IsFollowFault form fault xs after → IsRunFault fault
followed_run form (faults.Output number) xs after h = tt
followed_run form faults.Message xs after h = tt
followed_run form (faults.Failed error) xs after h = tt
followed_run form (faults.NoSocket number) xs after h = tt
followed_run form (faults.Taken address) xs after h = h
followed_run form (faults.NotHere address) xs after h = h
followed_run form faults.NoThread xs after h = h

pub open_run : (fault : SubscribeFault) → IsOpenFault fault → IsRunFault fault
open_run fault (inl is) = subst IsRunFault (sym is) tt
open_run fault (inr is) = subst IsRunFault (sym is.1) tt

pub device_run : (fault : SubscribeFault) → fault ≡ faults.Failed errors.Device → IsRunFault fault
device_run fault is = subst IsRunFault (sym is) tt

-- ---- its end

pub run_ended : (address : SocketAddr) (fault : SubscribeFault) (before after : Option (List ℕ)) → IsRunFault fault → IsSubscribeFault address fault before after
run_ended address (faults.Output number) before after h = tt
run_ended address faults.Message before after h = tt
run_ended address (faults.Failed error) before after h = tt
run_ended address (faults.NoSocket number) before after h = tt
run_ended address (faults.Taken at) before after h = absurd h
run_ended address (faults.NotHere at) before after h = absurd h
run_ended address faults.NoThread before after h = absurd h

bound : (address : SocketAddr) (error : BindError) (out : Option (List ℕ)) → IsSubscribeFault address (of_bind address error) out out
bound address binds.Taken out = (refl, refl)
bound address binds.NotHere out = (refl, refl)
bound address (binds.Refused number) out = tt
bound address binds.Memory out = tt

pub not_bound : (address : SocketAddr) (fault : SubscribeFault) (out : Option (List ℕ)) → (error : BindError) × (fault ≡ of_bind address error) → IsSubscribeFault address fault out out
not_bound address fault out (error, is) = subst (λ (f : SubscribeFault). IsSubscribeFault address f out out) (sym is) (bound address error out)

pub not_started : (address : SocketAddr) (fault : SubscribeFault) (out : Option (List ℕ)) → IsStartFault fault → IsSubscribeFault address fault out out
not_started address fault out (inl is) = subst (λ (f : SubscribeFault). IsSubscribeFault address f out out) (sym is) refl
not_started address fault out (inr (inl is)) = subst (λ (f : SubscribeFault). IsSubscribeFault address f out out) (sym is) tt
not_started address fault out (inr (inr is)) = subst (λ (f : SubscribeFault). IsSubscribeFault address f out out) (sym is) tt

-- ---- before an image

came_by : (plan : SubscribePlan) (c : Came) (m : SetupOffer) (call : Call) (k l : Listening) → k.came ≡ Some c → IsCall plan c.from c.bytes call → Some m ≡ met_by call → l ≡ answered plan c.from call k → HasCome plan l
came_by plan c m (calls.Opens n) k l same is met answers = (c, n, ap (λ (x : Listening). x.came) answers ∙ same, is)
came_by plan c m (calls.Untaken u) k l same is met answers = absurd (cc)
came_by plan c m (calls.Asks h) k l same is met answers = absurd (cc)
came_by plan c m calls.Stranger k l same is met answers = absurd (cc)

pub met_come : (plan : SubscribePlan) (came : Option Came) (old : Waiting) (m : SetupOffer) (new : Waiting) → old.socket.came ≡ came → Heeds plan came old (Some m) new → HasCome plan new.socket
met_come plan None old m new same heeds = absurd (let none = heeds.0 in cc)
met_come plan (Some c) old m new same heeds = came_by plan c m heeds.call old.socket new.socket same heeds.is heeds.met heeds.answers

pub listened_run : (plan : SubscribePlan) (fault : SubscribeFault) (l : Listening) → IsListenFault plan fault l → IsRunFault fault
listened_run plan fault l (inl is) = device_run fault is
listened_run plan fault l (inr h) = open_run fault h.0
