-- Datagrams that a party hears one after the other, and moments.
use Rattle.std.proofs.Common.{◌≡◌, ℕ, ◌+◌, ◌<◌, Bool, List, [], ◌∷◌, ◌++◌, length, length-append, take, drop, Option, Result, Ok, Err, Some, None, refl, sym, ap, ◌∙◌, subst, arith, append-nil, append_assoc}
use Rattle.std.specs.Prelude.{IsErr, IsErrAnd, nat_lt}
use Rattle.std.proofs.lemmas.Bool.{lt-ltb}
use Rattle.std.proofs.Math.Seq.{take-append_seam}
use Rattle.endpoint.specs.Calls.{HandsOver, Receives}
use Rattle.endpoint.specs.Devices.{Device, NeverFall}
use Rattle.endpoint.specs.declared.datagrams.DeviceFailed.{DeviceFailed}
use Rattle.agents.specs.Traffic.{Carries, SendsOut, are_some}
use Rattle.agents.specs.Cycles.{Explains, Hearing, HearsAll, Ticking}
use Rattle.endpoint.specs.declared.device_error.DeviceError.{DeviceError}
use Rattle.endpoint.specs.declared.device_error.DeviceError.TheVariants as faults
use Rattle.agents.proofs.Carrying.{carried_on, grown_later, part_behind, whole_part}

abbrev pub Hears : Type 0 → Type 1
Hears P = P → ℕ → List ℕ → P → List (List ℕ) → Type 0

-- these were heard, and then those
heard_on : {P : Type 0} (hears : Hears P) (now : ℕ) (s t u : P) (ds es first rest : List (List ℕ)) → HearsAll hears now s ds t first → HearsAll hears now t es u rest → HearsAll hears now s (ds ++ es) u (first ++ rest)
heard_on hears now s t u [] es first rest h k = subst (λ x. HearsAll hears now x es u (first ++ rest)) h.0 (subst (λ xs. HearsAll hears now t es u (xs ++ rest)) (sym h.1) k)
heard_on hears now s t u (d ∷ ds) es first rest h k = (h.0, h.1, h.2 ++ rest, h.3, heard_on hears now h.0 t u ds es h.2 rest h.4 k, ap (λ xs. xs ++ rest) h.5 ∙ append_assoc h.1 h.2 rest)

-- what was heard so far, all of whose answers were sent
pub record Heard {P : Type 0} (hears : Hears P) (now : ℕ) (tells : Type 0) (count : ℕ) (s : P) (d : Device) (t : P) (e : Device) : Type 0 where
  pub heard : List (List ℕ)
  pub given : List (List ℕ)
  pub number : length heard ≡ count
  pub all_heard : HearsAll hears now s heard t given
  pub carries : tells → Carries d heard given e

pub heard_none : {P : Type 0} (hears : Hears P) (now : ℕ) (tells : Type 0) (s : P) (d : Device) → Heard hears now tells 0 s d s d
heard_none hears now tells s d = record { heard = []; given = []; number = refl; all_heard = (refl, refl); carries = λ _. record { received = sym (append-nil d.received); sent = sym (append-nil d.sent) } }

-- and one more, if one came
pub heard_more : {P : Type 0} (hears : Hears P) (now : ℕ) (tells still : Type 0) (count n : ℕ) (s : P) (d : Device) (t : P) (e : Device) (u : P) (f : Device) → (tells → still) → Heard hears now tells count s d t e → Hearing hears now still 1 t e (Ok n) u f → Heard hears now tells (count + n) s d u f
heard_more hears now tells still count n s d t e u f on h k = record {
  heard = h.heard ++ k.heard;
  given = h.given ++ k.given;
  number = omega (arith, length-append h.heard k.heard, h.number, k.number);
  all_heard = heard_on hears now s t u h.heard k.heard h.given k.given h.all_heard k.all_heard;
  carries = λ x. carried_on d e f h.heard h.given k.heard k.given (h.carries x) (subst (λ xs. Carries e xs k.given f) (ap (λ l. k.heard ++ l) k.none_lost ∙ append-nil k.heard) (subst (λ xs. Carries e (k.heard ++ k.lost) xs f) k.whole (k.carries (on x))));
}

-- 16 were heard
pub heard_all : {P : Type 0} (hears : Hears P) (now : ℕ) (tells : Type 0) (s : P) (d : Device) (t : P) (e : Device) (count : ℕ) → count ≡ 16 → Heard hears now tells count s d t e → Hearing hears now tells 16 s d (Ok 16) t e
heard_all hears now tells s d t e count all h = record {
  heard = h.heard;
  lost = [];
  given = h.given;
  sent = h.given;
  few = omega (arith, h.number, all);
  number = sym (h.number ∙ all);
  ended = λ low. absurd (omega (arith, low));
  all_heard = h.all_heard;
  none_lost = refl;
  part = whole_part h.given;
  whole = refl;
  explained = tt;
  carries = λ x. subst (λ xs. Carries d xs h.given e) (sym (append-nil h.heard)) (h.carries x);
}

-- fewer were heard, and then none was there
pub heard_few : {P : Type 0} (hears : Hears P) (now : ℕ) (tells still : Type 0) (count : ℕ) (s : P) (d : Device) (t : P) (e : Device) (u : P) (f : Device) → count < 16 → (tells → still) → NeverFall d e → Heard hears now tells count s d t e → Hearing hears now still 1 t e (Ok 0) u f → Hearing hears now tells 16 s d (Ok count) u f
heard_few hears now tells still count s d t e u f low on counts h k =
    let m = heard_more hears now tells still count 0 s d t e u f on h k in
    record {
      heard = m.heard;
      lost = [];
      given = m.given;
      sent = m.given;
      few = omega (arith, m.number, low);
      number = omega (arith, m.number);
      ended = λ _. grown_later _ _ _ counts.nones (k.ended (omega arith));
      all_heard = m.all_heard;
      none_lost = refl;
      part = whole_part m.given;
      whole = refl;
      explained = tt;
      carries = λ x. subst (λ xs. Carries d xs m.given f) (sym (append-nil m.heard)) (m.carries x);
    }

explained_later : (fault : DeviceError) (d e f : Device) (lost : List (List ℕ)) → NeverFall d e → Explains fault e lost f → Explains fault d lost f
explained_later faults.Device d e f lost counts h = (grown_later _ _ _ counts.failures h.0, h.1)
explained_later faults.Memory d e f lost counts h = h

-- so many were heard, and then a fault came
pub heard_until : {P : Type 0} (hears : Hears P) (now : ℕ) (tells still : Type 0) (count : ℕ) (s : P) (d : Device) (t : P) (e : Device) (u : P) (f : Device) (fault : DeviceError) (r : Result ℕ DeviceError) → r ≡ Err fault → count < 16 → (tells → still) → NeverFall d e → Heard hears now tells count s d t e → Hearing hears now still 1 t e (Err fault) u f → Hearing hears now tells 16 s d r u f
heard_until hears now tells still count s d t e u f fault r is low on counts h k = subst (λ x. Hearing hears now tells 16 s d x u f) (sym is) (record {
  heard = h.heard ++ k.heard;
  lost = k.lost;
  given = h.given ++ k.given;
  sent = h.given ++ k.sent;
  few = omega (arith, length-append h.heard k.heard, h.number, k.few, low);
  number = tt;
  ended = tt;
  all_heard = heard_on hears now s t u h.heard k.heard h.given k.given h.all_heard k.all_heard;
  none_lost = tt;
  part = part_behind h.given k.given k.sent k.part;
  whole = tt;
  explained = explained_later fault d e f k.lost counts k.explained;
  carries = λ x. subst (λ xs. Carries d xs (h.given ++ k.sent) f) (sym (append_assoc h.heard k.heard k.lost)) (carried_on d e f h.heard h.given (k.heard ++ k.lost) k.sent (h.carries x) (k.carries (on x)));
})

-- ---- one receive

carries_none : (d e : Device) → e.received ≡ d.received → e.sent ≡ d.sent → Carries d [] [] e
carries_none d e r s = record { received = r ∙ sym (append-nil d.received); sent = s ∙ sym (append-nil d.sent) }

-- the device failed
pub receive_failed : {P : Type 0} (hears : Hears P) (now : ℕ) (tells : Type 0) (s : P) (d e : Device) (before after : List ℕ) (failed : DeviceFailed) → Receives tells d before (Err failed) after e → Hearing hears now tells 1 s d (Err faults.Device) s e
receive_failed hears now tells s d e before after failed k = record {
  heard = [];
  lost = [];
  given = [];
  sent = [];
  few = omega arith;
  number = tt;
  ended = tt;
  all_heard = (refl, refl);
  none_lost = tt;
  part = whole_part [];
  whole = tt;
  explained = (k.failures, refl);
  carries = λ x. carries_none d e (ap (λ (y : Device). y.received) (k.unreceived x)) (ap (λ (y : Device). y.sent) (k.unreceived x));
}

-- nothing had come
pub received_none : {P : Type 0} (hears : Hears P) (now : ℕ) (tells : Type 0) (s : P) (d e : Device) (before after : List ℕ) (found : Option ℕ) → found ≡ None → Receives tells d before (Ok found) after e → Hearing hears now tells 1 s d (Ok 0) s e
received_none hears now tells s d e before after (Some n) h k = absurd (cc)
received_none hears now tells s d e before after None h k = record {
  heard = [];
  lost = [];
  given = [];
  sent = [];
  few = omega arith;
  number = refl;
  ended = λ _. k.nones;
  all_heard = (refl, refl);
  none_lost = refl;
  part = whole_part [];
  whole = refl;
  explained = tt;
  carries = λ x. carries_none d e (ap (λ (y : Device). y.received) (k.handed_over x)) (ap (λ (y : Device). y.sent) (k.handed_over x));
}

-- one came
pub record Came (tells : Type 0) (d : Device) (bytes : List ℕ) (e : Device) : Type 0 where
  pub counts : NeverFall d e
  pub received : tells → e.received ≡ d.received ++ bytes ∷ []
  pub sent : e.sent ≡ d.sent

pub came : (tells : Type 0) (d e : Device) (before after bytes : List ℕ) (found : Option ℕ) (n : ℕ) → NeverFall d e → Receives tells d before (Ok found) after e → found ≡ Some n → bytes ≡ take n after → Came tells d bytes e
came tells d e before after bytes found n counts k is same = record {
  counts = counts;
  received = λ x. ap (λ (y : Device). y.received) (subst (λ o. HandsOver d o after e) is (k.handed_over x)) ∙ ap (λ b. d.received ++ b ∷ []) (sym same);
  sent = k.same_sent;
}

-- the bytes that were handed over stand at the buffer's front
pub front_is : (after items bytes : List ℕ) (size n : ℕ) → bytes ≡ take size (after ++ drop (length after) items) → length after ≡ size → take n bytes ≡ take n after
front_is after items bytes size n shown long = ap (take n) (shown ∙ ap (λ k. take k (after ++ drop (length after) items)) (sym long) ∙ take-append_seam after (drop (length after) items))

-- memory was refused for it
pub one_lost : {P : Type 0} (hears : Hears P) (now : ℕ) (tells : Type 0) (s t : P) (d e : Device) (bytes : List ℕ) → t ≡ s → Came tells d bytes e → Hearing hears now tells 1 s d (Err faults.Memory) t e
one_lost hears now tells s t d e bytes same c = record {
  heard = [];
  lost = bytes ∷ [];
  given = [];
  sent = [];
  few = omega arith;
  number = tt;
  ended = tt;
  all_heard = (same, refl);
  none_lost = tt;
  part = whole_part [];
  whole = tt;
  explained = refl;
  carries = λ x. record { received = c.received x; sent = c.sent ∙ sym (append-nil d.sent) };
}

-- the party heard it, and what it gave was sent
pub one_answered : {P : Type 0} (hears : Hears P) (now : ℕ) (tells still : Type 0) (s t : P) (d e f : Device) (bytes : List ℕ) (given : List (List ℕ)) (u : Unit {0}) → (tells → still) → Came tells d bytes e → hears s now bytes t given → f.received ≡ e.received → SendsOut still e given (Ok u) f → Hearing hears now tells 1 s d (Ok 1) t f
one_answered hears now tells still s t d e f bytes given u on c heard stays sends = record {
  heard = bytes ∷ [];
  lost = [];
  given = given;
  sent = sends.sent;
  few = omega arith;
  number = refl;
  ended = λ low. absurd (omega (arith, low));
  all_heard = (t, given, [], heard, (refl, refl), sym (append-nil given));
  none_lost = refl;
  part = sends.part;
  whole = sends.whole;
  explained = tt;
  carries = λ x. record { received = stays ∙ c.received x; sent = sends.carries (on x) ∙ ap (λ xs. xs ++ sends.sent) c.sent };
}

-- or a part of that, and then the device failed
pub one_broken : {P : Type 0} (hears : Hears P) (now : ℕ) (tells still : Type 0) (s t : P) (d e f : Device) (bytes : List ℕ) (given : List (List ℕ)) (failed : DeviceFailed) → (tells → still) → Came tells d bytes e → hears s now bytes t given → f.received ≡ e.received → SendsOut still e given (Err failed) f → Hearing hears now tells 1 s d (Err faults.Device) t f
one_broken hears now tells still s t d e f bytes given failed on c heard stays sends = record {
  heard = bytes ∷ [];
  lost = [];
  given = given;
  sent = sends.sent;
  few = omega arith;
  number = tt;
  ended = tt;
  all_heard = (t, given, [], heard, (refl, refl), sym (append-nil given));
  none_lost = tt;
  part = sends.part;
  whole = tt;
  explained = (grown_later _ _ _ c.counts.failures sends.failed, refl);
  carries = λ x. record { received = stays ∙ c.received x; sent = sends.carries (on x) ∙ ap (λ xs. xs ++ sends.sent) c.sent };
}

-- ---- a tick

pub ticked_whole : {P : Type 0} (ticks : P → ℕ → P → List (List ℕ) → Type 0) (now : ℕ) (tells : Type 0) (s t : P) (d e : Device) (given : List (List ℕ)) (u : Unit {0}) (any : Bool) → ticks s now t given → e.received ≡ d.received → SendsOut tells d given (Ok u) e → any ≡ are_some given → Ticking ticks now tells s d (Ok any) t e
ticked_whole ticks now tells s t d e given u any done stays sends is = record {
  given = given;
  sent = sends.sent;
  ticked = done;
  busy = is;
  part = sends.part;
  whole = sends.whole;
  failed = tt;
  carries = λ x. record { received = stays ∙ sym (append-nil d.received); sent = sends.carries x };
}

pub ticked_in_part : {P : Type 0} (ticks : P → ℕ → P → List (List ℕ) → Type 0) (now : ℕ) (tells : Type 0) (s t : P) (d e : Device) (given : List (List ℕ)) (failed : DeviceFailed) (r : Result Bool DeviceFailed) → IsErr r → ticks s now t given → e.received ≡ d.received → SendsOut tells d given (Err failed) e → Ticking ticks now tells s d r t e
ticked_in_part ticks now tells s t d e given failed (Ok any) bad done stays sends = absurd (cc)
ticked_in_part ticks now tells s t d e given failed (Err other) bad done stays sends = record {
  given = given;
  sent = sends.sent;
  ticked = done;
  busy = tt;
  part = sends.part;
  whole = tt;
  failed = sends.failed;
  carries = λ x. record { received = stays ∙ sym (append-nil d.received); sent = sends.carries x };
}

pub any_are_some : (ds : List (List ℕ)) (n : ℕ) → n ≡ length ds → nat_lt 0 n ≡ are_some ds
any_are_some [] n h = ap (nat_lt 0) h
any_are_some (d ∷ ds) n h = lt-ltb 0 n (omega (arith, h))

-- ---- an answer that is this error

pub err_is : {X : Type 0} (r : Result X DeviceError) (fault : DeviceError) → IsErrAnd r (λ e. e ≡ fault) → r ≡ Err fault
err_is (Ok x) fault h = absurd h
err_is (Err e) fault h = ap Err h
