-- What a device that loses datagrams hands on.
use Rattle.std.proofs.Common.{◌≡◌, ◌∙◌, ◌++◌, ◌<◌, [], ℕ, List, length, take, Result, Ok, Err, IsErr, Some, inl, inr, ap, refl, subst, sym, append-nil}
use Rattle.std.specs.Prelude.{OnErr, OnOk}
use Rattle.endpoint.specs.Calls.{Sends}
use Rattle.endpoint.specs.Devices.{Device}
use Rattle.endpoint.specs.declared.datagrams.DeviceFailed.{DeviceFailed}
use Rattle.loss_injector.specs.Injecting.{Gives, Injecting, IsKeeping}
use Rattle.loss_injector.specs.Losing.{Injects, SendsAll}

-- the first of these were carried away, and the next one met a fault
pub stops : (tells tells_mid : Type 0) (old mid new : Device) (out front : List (List ℕ)) (count : ℕ) (datagram : List ℕ) (result : Result (Unit {0}) DeviceFailed) (e : DeviceFailed) → IsErr result → mid.failures ≡ old.failures → mid.received ≡ old.received → mid.nones ≡ old.nones → (tells → tells_mid) → (tells → mid ≡ record old { sent = old.sent ++ front }) → front ≡ take count out → count < length out → Sends tells_mid mid datagram (Err e) new → SendsAll tells old out result new
stops tells tells_mid old mid new out front count datagram (Ok u) e failed same received nones still sent is within s = absurd cc
stops tells tells_mid old mid new out front count datagram (Err f) e failed same received nones still sent is within s = record {
  failures = rw (← same) s.failures;
  same_received = s.same_received ∙ received;
  same_nones = s.same_nones ∙ nones;
  sent = λ _. tt;
  stopped = λ t. record {
    count = count;
    within = within;
    sent = s.unsent (still t) ∙ ap (λ (d : Device). record d { failures = new.failures }) (sent t) ∙ ap (λ f. record old { sent = old.sent ++ f; failures = new.failures }) is;
  };
}

-- none was handed over
pub none_sent : (tells : Type 0) (d : Device) → SendsAll tells d [] (Ok tt) d
none_sent tells d = record {
  failures = refl;
  same_received = refl;
  same_nones = refl;
  sent = λ _. ap (λ f. record d { sent = f }) (sym (append-nil d.sent));
  stopped = λ _. tt;
}

-- one that is to be held back is held, or lost for want of memory
pub kept_or_lost : {E : Type 0} (old mid new : Injecting) (word : ℕ) (datagram : List ℕ) (result : Result (Unit {0}) E) → Gives old word datagram [] (record mid { held = Some datagram }) → IsKeeping old word × (mid ≡ old) → OnOk result (new ≡ record mid { held = Some datagram }) → OnErr result (new ≡ mid) → Injects old word datagram [] new
kept_or_lost old mid new word datagram (Ok u) gives keeping kept refused = inl (subst (λ i. Gives old word datagram [] i) (sym kept) gives)
kept_or_lost old mid new word datagram (Err e) gives keeping kept refused = inr (keeping.0, refl, refused ∙ keeping.1)
