-- More failures than a device has counted leave what its calls do as it is.
use Rattle.std.proofs.Common.{◌≡◌, ◌∙◌, ℕ, ◌+◌, ◌≤◌, min, List, [], ◌∷◌, ◌++◌, take, Option, None, Some, Result, Ok, Err, ap, subst, arith}
use Rattle.endpoint.specs.Calls.{Receives, Sends}
use Rattle.endpoint.specs.Devices.{Device, HasGrown, NeverFall, greatest}
use Rattle.endpoint.specs.Failing.{Failing, failing_device, own_failures, with_call, with_failures}
use Rattle.endpoint.specs.declared.datagrams.DeviceFailed.{DeviceFailed}

grown_with : (a b more : ℕ) → HasGrown a b → HasGrown (min (a + more) greatest) (min (b + more) greatest)
grown_with a b more h = grind arith

grown_by_one : (a b m n : ℕ) → b ≡ a → m ≡ 0 → n ≡ 1 → HasGrown (min (a + m) greatest) (min (b + n) greatest)
grown_by_one a b m n e h k = grind arith

falls_with_more : (old new : Device) (m n : ℕ) → NeverFall old new → m ≤ n → NeverFall (with_failures old m) (with_failures new n)
falls_with_more old new m n h k = record { failures = omega (arith, h.failures, k); nones = h.nones }

-- a device that is left alone, and a failure counted beside it
send_fails : (tells : Type 0) (old new : Device) (m n : ℕ) (datagram : List ℕ) (e : DeviceFailed) → new ≡ old → m ≡ 0 → n ≡ 1 → Sends tells (with_failures old m) datagram (Err e) (with_failures new n)
send_fails tells old new m n datagram e same h k = record {
  failures = grown_by_one old.failures new.failures m n (ap (λ (d : Device). d.failures) same) h k;
  same_received = ap (λ (d : Device). d.received) same;
  same_nones = ap (λ (d : Device). d.nones) same;
  sent = λ _. tt;
  unsent = λ _. ap (λ (d : Device). record d { failures = min (new.failures + n) greatest }) same;
}

receive_fails : (tells : Type 0) (old new : Device) (m n : ℕ) (buffer : List ℕ) (e : DeviceFailed) → new ≡ old → m ≡ 0 → n ≡ 1 → Receives tells (with_failures old m) buffer (Err e) buffer (with_failures new n)
receive_fails tells old new m n buffer e same h k = record {
  failures = grown_by_one old.failures new.failures m n (ap (λ (d : Device). d.failures) same) h k;
  nones = ap (λ (d : Device). d.nones) same;
  same_sent = ap (λ (d : Device). d.sent) same;
  filled = tt;
  handed_over = λ _. tt;
  unreceived = λ _. ap (λ (d : Device). record d { failures = min (new.failures + n) greatest }) same;
}

-- the device's own call, with the same failures counted beside it
send_with_more : (tells : Type 0) (old new : Device) (m n : ℕ) (datagram : List ℕ) (result : Result (Unit {0}) DeviceFailed) → n ≡ m → Sends tells old datagram result new → Sends tells (with_failures old m) datagram result (with_failures new n)
send_with_more tells old new m n datagram (Ok u) e s = record {
  failures = omega (arith, e, s.failures);
  same_received = s.same_received;
  same_nones = s.same_nones;
  sent = λ t. ap (λ (d : Device). with_failures d n) (s.sent t) ∙ ap (λ k. record old { sent = old.sent ++ datagram ∷ []; failures = min (old.failures + k) greatest }) e;
  unsent = λ _. tt;
}
send_with_more tells old new m n datagram (Err f) e s = record {
  failures = rw e (grown_with old.failures new.failures m s.failures);
  same_received = s.same_received;
  same_nones = s.same_nones;
  sent = λ _. tt;
  unsent = λ t. ap (λ (d : Device). with_failures d n) (s.unsent t);
}

receive_with_more : (tells : Type 0) (old new : Device) (m n : ℕ) (before after : List ℕ) (result : Result (Option ℕ) DeviceFailed) → n ≡ m → Receives tells old before result after new → Receives tells (with_failures old m) before result after (with_failures new n)
receive_with_more tells old new m n before after (Ok None) e s = record {
  failures = omega (arith, e, s.failures);
  nones = s.nones;
  same_sent = s.same_sent;
  filled = tt;
  handed_over = λ t. ap (λ (d : Device). with_failures d n) (s.handed_over t) ∙ ap (λ k. record old { nones = new.nones; failures = min (old.failures + k) greatest }) e;
  unreceived = λ _. tt;
}
receive_with_more tells old new m n before after (Ok (Some size)) e s = record {
  failures = omega (arith, e, s.failures);
  nones = s.nones;
  same_sent = s.same_sent;
  filled = s.filled;
  handed_over = λ t. ap (λ (d : Device). with_failures d n) (s.handed_over t) ∙ ap (λ k. record old { received = old.received ++ take size after ∷ []; failures = min (old.failures + k) greatest }) e;
  unreceived = λ _. tt;
}
receive_with_more tells old new m n before after (Err f) e s = record {
  failures = rw e (grown_with old.failures new.failures m s.failures);
  nones = s.nones;
  same_sent = s.same_sent;
  filled = tt;
  handed_over = λ _. tt;
  unreceived = λ t. ap (λ (d : Device). with_failures d n) (s.unreceived t);
}

pub same_own : {D : Type 0} (f h : Failing D) → f ≡ h → own_failures f ≡ own_failures h
same_own {D} f h e = ap (λ (x : Failing D). own_failures x) e

-- the call that fails
module _ {D : Type 0} (device : D → Device) (tells : Type 0) (old new : Failing D) (called : new ≡ with_call old) (own : (own_failures old ≡ 0) × (own_failures new ≡ 1)) (e : DeviceFailed) where
  pub due_send : (datagram : List ℕ) → Sends tells (failing_device (device old.inner) old) datagram (Err e) (failing_device (device new.inner) new)
  due_send datagram = send_fails tells _ _ _ _ datagram e (ap (λ (f : Failing D). device f.inner) called) own.0 own.1

  pub due_receive : (buffer : List ℕ) → Receives tells (failing_device (device old.inner) old) buffer (Err e) buffer (failing_device (device new.inner) new)
  due_receive buffer = receive_fails tells _ _ _ _ buffer e (ap (λ (f : Failing D). device f.inner) called) own.0 own.1

-- a call that is passed on, once it's counted
module _ {D : Type 0} (device : D → Device) (tells : D → Type 0) (old mid : Failing D) (called : mid ≡ with_call old) (own : own_failures mid ≡ own_failures old) (inner : D) where
  pub passed_counts : NeverFall (device mid.inner) (device inner) → NeverFall (failing_device (device old.inner) old) (failing_device (device inner) (record mid { inner = inner }))
  passed_counts h = falls_with_more _ _ _ _ (subst (λ (f : Failing D). NeverFall (device f.inner) (device inner)) called h) (omega (arith, own))

  pub passed_send : (datagram : List ℕ) (result : Result (Unit {0}) DeviceFailed) → Sends (tells mid.inner) (device mid.inner) datagram result (device inner) → Sends (tells old.inner) (failing_device (device old.inner) old) datagram result (failing_device (device inner) (record mid { inner = inner }))
  passed_send datagram result h = send_with_more _ _ _ _ _ datagram result own (subst (λ (f : Failing D). Sends (tells f.inner) (device f.inner) datagram result (device inner)) called h)

  pub passed_receive : (before after : List ℕ) (result : Result (Option ℕ) DeviceFailed) → Receives (tells mid.inner) (device mid.inner) before result after (device inner) → Receives (tells old.inner) (failing_device (device old.inner) old) before result after (failing_device (device inner) (record mid { inner = inner }))
  passed_receive before after result h = receive_with_more _ _ _ _ _ before after result own (subst (λ (f : Failing D). Receives (tells f.inner) (device f.inner) before result after (device inner)) called h)
