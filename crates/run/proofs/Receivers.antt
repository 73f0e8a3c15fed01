-- The receivers of a run, and what they have left.
use Rattle.std.proofs.Common.{◌≡◌, ◌∙◌, ℕ, suc, ◌+◌, ◌<◌, Result, Ok, Err, List, [], ◌∷◌, ◌++◌, append_assoc, length, length-append, map, ap, subst, sym, refl, arith}
use Rattle.std.specs.Prelude.{IfOk, IsOk, OnOk, remove, slice_index_or}
use Rattle.std.proofs.lemmas.List.{map-append}
use Rattle.std.specs.List.{AllByRecursion}
use Rattle.theory.specs.Position.{Geometry}
use Rattle.shared_log.specs.Steps.Handles.{LogValue, PublisherValue}
use Rattle.endpoint.specs.Devices.{Device}
use Rattle.endpoint.specs.declared.device_error.DeviceError.{DeviceError}
use Rattle.run_parties.specs.Receivers.{HasReceived, IsWaitingReceiver}
use Rattle.run_parties.specs.declared.reception.Received.{Received}
use Rattle.run_parties.proofs.Living.{life_tallies}
use Rattle.run.specs.Outcomes.{IsPolled, told_of}
use Rattle.run.specs.Threads.{AreWaitingFrom, HaveCome, HaveEnded, HaveReceivedFrom, counters_of, device_of, shown_of}
use Rattle.run.specs.declared.passes.Parties.{Parties}
use Rattle.run.specs.declared.passes.Size.{Size}
use Rattle.run_parties.specs.declared.receiver_threads.Waiting.{Waiting}
use Rattle.run.specs.declared.watch.Shown.{Shown}

-- ---- receivers that wait

pub waiting_more : {D : Type 0} (g : Geometry) (count n k : ℕ) (ws : List (Waiting D)) (w : Waiting D) → AreWaitingFrom g count n ws → n + length ws ≡ k → IsWaitingReceiver g count k w → AreWaitingFrom g count n (ws ++ w ∷ [])
waiting_more g count n k [] w all at one = let same : k ≡ n = omega (arith, at) in (subst (λ (m : ℕ). IsWaitingReceiver g count m w) same one, tt)
waiting_more g count n k (x ∷ ws) w all at one = (all.0, waiting_more g count (suc n) k ws w all.1 (omega (arith, at)) one)

-- those before the last one, and that one
pub waiting_front : {D : Type 0} (g : Geometry) (count n : ℕ) (ws : List (Waiting D)) (w : Waiting D) → AreWaitingFrom g count n (ws ++ w ∷ []) → AreWaitingFrom g count n ws
waiting_front g count n [] w all = tt
waiting_front g count n (x ∷ ws) w all = (all.0, waiting_front g count (suc n) ws w all.1)

pub waiting_last : {D : Type 0} (g : Geometry) (count n : ℕ) (ws : List (Waiting D)) (w : Waiting D) → AreWaitingFrom g count n (ws ++ w ∷ []) → IsWaitingReceiver g count (n + length ws) w
waiting_last g count n [] w all = subst (λ k. IsWaitingReceiver g count k w) (omega arith) all.0
waiting_last g count n (x ∷ ws) w all = subst (λ k. IsWaitingReceiver g count k w) (omega arith) (waiting_last g count (suc n) ws w all.1)

pub waiting_own : {D : Type 0} (g : Geometry) (count n : ℕ) (w : Waiting D) → IsWaitingReceiver g count n w → IsWaitingReceiver g count w.number w
waiting_own g count n w h = subst (λ (k : ℕ). IsWaitingReceiver g count k w) (sym h.number) h

-- ---- receivers that have ended

module _ {D : Type 0} (device : D → Device) (tells : D → Type 0) (g : Geometry) (size : Size) where
  -- one more
  received_more : (n k : ℕ) (ds : List D) (rs : List (Received D)) (d : D) (r : Received D) → HaveReceivedFrom device tells g size n ds rs → n + length ds ≡ k → HasReceived device tells g size.receivers size.wanted k d r → HaveReceivedFrom device tells g size n (ds ++ d ∷ []) (rs ++ r ∷ [])
  received_more n k [] [] d r all at one = let same : k ≡ n = omega (arith, at) in (subst (λ (m : ℕ). HasReceived device tells g size.receivers size.wanted m d r) same one, tt)
  received_more n k [] (y ∷ rs) d r all at one = absurd all
  received_more n k (x ∷ ds) [] d r all at one = absurd all
  received_more n k (x ∷ ds) (y ∷ rs) d r all at one = (all.0, received_more (suc n) k ds rs d r all.1 (omega (arith, at)) one)

  -- they are as many as had a device, and the tally of each is one
  pub received_many : (n : ℕ) (ds : List D) (rs : List (Received D)) → HaveReceivedFrom device tells g size n ds rs → length rs ≡ length ds
  received_many n [] [] all = refl
  received_many n [] (r ∷ rs) all = absurd all
  received_many n (d ∷ ds) [] all = absurd all
  received_many n (d ∷ ds) (r ∷ rs) all = ap suc (received_many (suc n) ds rs all.1)

  pub told_polled : (n : ℕ) (ds : List D) (rs : List (Received D)) → HaveReceivedFrom device tells g size n ds rs → AllByRecursion (IsPolled size.wanted) (map told_of rs)
  told_polled n [] [] all = tt
  told_polled n [] (r ∷ rs) all = absurd all
  told_polled n (d ∷ ds) [] all = absurd all
  told_polled n (d ∷ ds) (r ∷ rs) all = (record { most = all.0.most; counts = r.tally.counts; tally = life_tallies all.0.lived.core.image r.tally r.refused all.0.lived.polled }, told_polled (suc n) ds rs all.1)

  no_parties : (e : DeviceError) → IsOk {T = Parties D} {E = DeviceError} (Err e) → ⊥
  no_parties e h = absurd cc

  none_received : (e : DeviceError) → IsOk {T = Received D} {E = DeviceError} (Err e) → ⊥
  none_received e h = absurd cc

  -- what its thread promised
  pub promised : (at l : LogValue) (of : Size) (number n : ℕ) (was d : D) (one : Result (Received D) DeviceError) → at ≡ l → l.identity.geometry ≡ g → of ≡ size → number ≡ n → was ≡ d
      → IfOk one (HasReceived device tells at.identity.geometry of.receivers of.wanted number was) → IfOk one (HasReceived device tells g size.receivers size.wanted n d)
  promised at l of number n was d one a shape b c e h = subst (λ (u : Geometry × (Size × (ℕ × D))). IfOk one (HasReceived device tells u.0 u.1.0.receivers u.1.0.wanted u.1.1.0 u.1.1.1)) (λ j. ((ap (λ (x : LogValue). x.identity.geometry) a ∙ shape) j, (b j, (c j, e j)))) h

  none_started : (X : Type 0) (e : DeviceError) → IsOk {T = X} {E = DeviceError} (Err e) → ⊥
  none_started X e h = absurd cc

  -- and gave, where it was started
  pub joined : (X : Type 0) (started : Result X DeviceError) (log : X → LogValue) (of : X → Size) (number : X → ℕ) (was : X → D) (l : LogValue) (n : ℕ) (w : Waiting D) (one : Result (Received D) DeviceError) → l.identity.geometry ≡ g → w.number ≡ n
      → IfOk started (λ s. (log s ≡ l) × (of s ≡ size)) → IfOk started (λ s. (number s ≡ w.number) × (was s ≡ w.device))
      → IfOk started (λ s. IfOk one (HasReceived device tells (log s).identity.geometry (of s).receivers (of s).wanted (number s) (was s))) → OnOk one (IsOk started)
      → IfOk one (HasReceived device tells g size.receivers size.wanted n w.device)
  joined X (Ok s) log of number was l n w one shape at a b h is = promised (log s) l (of s) (number s) n (was s) w.device one a.0 shape a.1 (b.0 ∙ at) b.1 h
  joined X (Err e) log of number was l n w (Ok r) shape at a b h is = absurd (none_started X e is)
  joined X (Err e) log of number was l n w (Err f) shape at a b h is = tt

  -- of all threads that were joined
  pub ended : (l : LogValue) (ps : List PublisherValue) (ws : List (Waiting D)) (w : Waiting D) (result parties : Result (Parties D) DeviceError) (one : Result (Received D) DeviceError)
      → l.identity.geometry ≡ g → IfOk one (HasReceived device tells g size.receivers size.wanted (length ws) w.device)
      → IfOk parties (HaveEnded device tells l size ps (map device_of ws))
      → IfOk parties (λ p. IfOk result (λ r. r.published ≡ p.published)) → IfOk parties (λ p. IfOk one (λ t. IfOk result (λ r. r.received.items ≡ p.received.items ++ t ∷ []))) → OnOk result (IsOk parties × IsOk one)
      → IfOk result (HaveEnded device tells l size ps (map device_of (ws ++ w ∷ [])))
  ended l ps ws w (Err f) parties one shape lived have same more both = tt
  ended l ps ws w (Ok r) (Ok p) (Ok t) shape lived have same more both =
      let received : HaveReceivedFrom device tells g size 0 (map device_of ws) p.received.items = subst (λ (x : Geometry). HaveReceivedFrom device tells x size 0 (map device_of ws) p.received.items) shape have.received in
      let longer : HaveReceivedFrom device tells g size 0 (map device_of ws ++ w.device ∷ []) (p.received.items ++ t ∷ []) =
      received_more 0 (length ws) (map device_of ws) p.received.items w.device t received (let many = length_map ws in omega arith) lived in
      record {
        published = subst (HaveCome l size ps) (sym same) have.published;
        received =
            subst (λ (x : Geometry). HaveReceivedFrom device tells x size 0 (map device_of (ws ++ w ∷ [])) r.received.items) (sym shape)
            (subst (HaveReceivedFrom device tells g size 0 (map device_of (ws ++ w ∷ []))) (sym more)
            (subst (λ ds. HaveReceivedFrom device tells g size 0 ds (p.received.items ++ t ∷ [])) (sym (map-append device_of ws (w ∷ []))) longer));
      }
    where
      length_map : (xs : List (Waiting D)) → length (map device_of xs) ≡ length xs
      length_map [] = refl
      length_map (x ∷ xs) = ap suc (length_map xs)
  ended l ps ws w (Ok r) (Ok p) (Err f) shape lived have same more both = absurd (none_received f both.1)
  ended l ps ws w (Ok r) (Err f) one shape lived have same more both = absurd (no_parties f both.0)

pub told_many : {D : Type 0} (rs : List (Received D)) → length (map told_of rs) ≡ length rs
told_many [] = refl
told_many (r ∷ rs) = ap suc (told_many rs)

-- ---- receivers that are made

-- the first device, and those behind it
first_out : {D : Type 0} (ds : List D) (d : D) → 0 < length ds → d ≡ slice_index_or ds 0 d → ds ≡ d ∷ remove ds 0
first_out [] d low is = absurd (omega (arith, low))
first_out (x ∷ ds) d low is = ap (λ y. y ∷ ds) (sym is)

-- one receiver more, over the next device
module _ {D : Type 0} (ws : List (Waiting D)) (shown : List Shown) (before after : List D) (w : Waiting D) (s : Shown) (d : D) where
  pub next_device : d ≡ slice_index_or before 0 d → after ≡ remove before 0 → 0 < length before → before ≡ d ∷ after
  next_device is rest low = first_out before d low is ∙ ap (λ (ds : List D). d ∷ ds) (sym rest)

  pub fewer : (n count : ℕ) → length before + n ≡ count → before ≡ d ∷ after → length after + (n + 1) ≡ count
  fewer n count left e = let a = ap (λ (ds : List D). length ds) e in omega (arith, a, left)

  pub longer : (new : List (Waiting D)) (n : ℕ) → length ws ≡ n → new ≡ ws ++ w ∷ [] → length new ≡ n + 1
  longer new n many e = let a = ap (λ (xs : List (Waiting D)). length xs) e in let b = length-append ws (w ∷ []) in omega (arith, a, b, many)

  pub devices_more : (new : List (Waiting D)) (all : List D) → new ≡ ws ++ w ∷ [] → w.device ≡ d → before ≡ d ∷ after → map device_of ws ++ before ≡ all → map device_of new ++ after ≡ all
  devices_more new all e own next is =
      ap (λ (xs : List (Waiting D)). map device_of xs ++ after) e
      ∙ ap (λ (ds : List D). ds ++ after) (map-append device_of ws (w ∷ []))
      ∙ append_assoc (map device_of ws) (w.device ∷ []) after
      ∙ ap (λ (x : D). map device_of ws ++ x ∷ after) own
      ∙ ap (λ (ds : List D). map device_of ws ++ ds) (sym next)
      ∙ is

  pub shown_more : (new : List (Waiting D)) (told : List Shown) → new ≡ ws ++ w ∷ [] → told ≡ shown ++ s ∷ [] → shown_of s ≡ counters_of w → map shown_of shown ≡ map counters_of ws → map shown_of told ≡ map counters_of new
  shown_more new told e f same is =
      ap (map shown_of) f ∙ map-append shown_of shown (s ∷ [])
      ∙ (λ i. is i ++ same i ∷ [])
      ∙ sym (ap (map counters_of) e ∙ map-append counters_of ws (w ∷ []))
