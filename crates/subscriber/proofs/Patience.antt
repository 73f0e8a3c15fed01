-- A cycle over a device that never fails is ended by no fault of the device.
use Rattle.std.proofs.Common.{◌≡◌, ◌≢◌, ◌∙◌, ℕ, List, Option, inl, inr, sym, arith}
use Rattle.agents.specs.Cycles.{Explains}
use Rattle.endpoint.specs.Devices.{Device, HasGrown}
use Rattle.endpoint.specs.declared.device_error.DeviceError.{DeviceError}
use Rattle.endpoint.specs.declared.device_error.DeviceError.TheVariants as errors
use Rattle.messages.specs.declared.form.Form.{Form}
use Rattle.receiver.specs.Subscribing.{Subscribing}
use Rattle.subscriber.specs.Deliveries.{Ends}
use Rattle.subscriber.specs.FaultTexts.{of_delivery}
use Rattle.subscriber.specs.declared.images.delivery.DeliveryFault.{DeliveryFault}
use Rattle.subscriber.specs.declared.images.delivery.DeliveryFault.TheVariants as deliveries
use Rattle.subscriber.specs.declared.fault.SubscribeFault.TheVariants as faults

never_grown : (a b : ℕ) → a ≡ 0 → b ≡ 0 → HasGrown a b → ⊥
never_grown a b x y (inl less) = omega arith
never_grown a b x y (inr most) = omega arith

pub never_failed : (why : DeviceError) (d e : Device) (lost : List (List ℕ)) → d.failures ≡ 0 → e.failures ≡ 0 → Explains why d lost e → why ≢ errors.Device
never_failed errors.Device d e lost x y h = λ _. never_grown d.failures e.failures x y h.0
never_failed errors.Memory d e lost x y h = λ is. absurd (cc)

same_failure : (a b : DeviceError) → deliveries.Failed a ≡ deliveries.Failed b → a ≡ b
same_failure a b is = cc

same_fault : (a b : DeviceError) → faults.Failed a ≡ faults.Failed b → a ≡ b
same_fault a b is = cc

pub patient : (form : Form) (most now : ℕ) (tells still : Type 0) (f : DeliveryFault) (s : Subscribing) (before : Option (List ℕ)) (d : Device) (t : Subscribing) (after : Option (List ℕ)) (e : Device)
    → d.failures ≡ 0 → e.failures ≡ 0 → Ends form most now tells still f s before d t after e → of_delivery f ≢ faults.Failed errors.Device
patient form most now tells still (deliveries.Output code) s before d t after e x y h = λ is. absurd (cc)
patient form most now tells still (deliveries.Message error) s before d t after e x y h = λ is. absurd (cc)
patient form most now tells still (deliveries.Failed why) s before d t after e x y (inl h) = λ is. absurd h.0
patient form most now tells still (deliveries.Failed why) s before d t after e x y (inr h) =
    λ is. never_failed h.why d e h.fails.lost x y h.fails.explained (sym (same_failure why h.why h.named) ∙ same_fault why errors.Device is)
