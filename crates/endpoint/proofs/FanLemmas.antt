-- A datagram that goes along several ways, one after the other.
use Rattle.std.proofs.Common.{◌≡◌, ◌∙◌, ◌⊎◌, inl, inr, ℕ, zero, suc, ◌<◌, ◌≤◌, List, [], ◌∷◌, ◌++◌, append-nil, append_assoc, get_or, set, take, drop, ◌+◌, length, length-append, Option, Result, Ok, Err, refl, sym, ap, subst, arith}
use Rattle.std.proofs.Math.Seq.{take-append_seam}
use Rattle.std.proofs.lemmas.Bool.{cases_lt}
use Rattle.std.specs.Prelude.{IfOk, IfSome}
use Rattle.endpoint.specs.Calls.{CountsFailure, CountsNone, Fills, Receives}
use Rattle.endpoint.specs.Devices.{Device}
use Rattle.endpoint.specs.Fans.{AllLive, AllSend, Fanned, with_ways, ReceivesAlong, ReceivesOne, SendsOne, StopsAlong}
use Rattle.endpoint.specs.declared.datagrams.DeviceFailed.{DeviceFailed}

-- the one behind the first so many
found : {D : Type 0} (carried behind : List D) (w : D) → length carried < length (carried ++ behind) → w ≡ get_or (carried ++ behind) (length carried) w → (rest : List D) × (behind ≡ w ∷ rest)
found [] [] w low is = absurd (omega (arith, low))
found [] (b ∷ bs) w low is = (bs, ap (λ x. x ∷ bs) (sym is))
found (x ∷ xs) behind w low is = found xs behind w (omega (arith, low)) is

placed : {D : Type 0} (carried rest : List D) (w v : D) → set (carried ++ w ∷ rest) (length carried) v ≡ carried ++ v ∷ rest
placed [] rest w v = refl
placed (x ∷ xs) rest w v = ap (λ ys. x ∷ ys) (placed xs rest w v)

none_behind : {D : Type 0} (carried behind : List D) → (length carried < length (carried ++ behind) → ⊥) → behind ≡ []
none_behind carried [] end = refl
none_behind carried (b ∷ bs) end = absurd (end (let e = length-append carried (b ∷ bs) in omega (arith, e)))

module _ {D : Type 0} (device : D → Device) (tells : D → Type 0) where
  all_more : (front carried : List D) (datagram : List ℕ) (w v : D) → AllSend device tells front datagram carried → SendsOne device tells w datagram (Ok tt) v → AllSend device tells (front ++ w ∷ []) datagram (carried ++ v ∷ [])
  all_more [] [] datagram w v all one = (one, tt)
  all_more [] (c ∷ cs) datagram w v all one = absurd all
  all_more (f ∷ fs) [] datagram w v all one = absurd all
  all_more (f ∷ fs) (c ∷ cs) datagram w v all one = (all.0, all_more fs cs datagram w v all.1 one)

  -- the first so many have carried it away
  pub record SentAlong (old : List D) (datagram : List ℕ) (count : ℕ) (now : List D) : Type 0 where
    pub front : List D
    pub carried : List D
    pub behind : List D
    pub many : length carried ≡ count
    pub were : old ≡ front ++ behind
    pub are : now ≡ carried ++ behind
    pub all_sent : AllSend device tells front datagram carried

  pub none_sent : (old : List D) (datagram : List ℕ) → SentAlong old datagram 0 old
  none_sent old datagram = record { front = []; carried = []; behind = old; many = refl; were = refl; are = refl; all_sent = tt }

  -- what stands behind them
  next : (old now : List D) (datagram : List ℕ) (count : ℕ) (w : D) (h : SentAlong old datagram count now) → count < length now → w ≡ get_or now count w → (rest : List D) × (h.behind ≡ w ∷ rest)
  next old now datagram count w h low is =
      found h.carried h.behind w
      (subst (λ (n : ℕ). n < length (h.carried ++ h.behind)) (sym h.many) (subst (λ (xs : List D). count < length xs) h.are low))
      (is ∙ ap (λ (xs : List D). get_or xs count w) h.are ∙ ap (λ (n : ℕ). get_or (h.carried ++ h.behind) n w) (sym h.many))

  written : (old now : List D) (datagram : List ℕ) (count : ℕ) (w v : D) (rest : List D) (h : SentAlong old datagram count now) → h.behind ≡ w ∷ rest → set now count v ≡ h.carried ++ v ∷ rest
  written old now datagram count w v rest h is =
      ap (λ (xs : List D). set xs count v) (h.are ∙ ap (λ (ys : List D). h.carried ++ ys) is)
      ∙ ap (λ (n : ℕ). set (h.carried ++ w ∷ rest) n v) (sym h.many)
      ∙ placed h.carried rest w v

  -- and so has the next one
  pub one_sent : (old now : List D) (datagram : List ℕ) (count : ℕ) (w v : D) → SentAlong old datagram count now → count < length now → w ≡ get_or now count w → SendsOne device tells w datagram (Ok tt) v → SentAlong old datagram (count + 1) (set now count v)
  one_sent old now datagram count w v h low is sends =
      let n = next old now datagram count w h low is in
      record {
        front = h.front ++ w ∷ [];
        carried = h.carried ++ v ∷ [];
        behind = n.0;
        many = (let e = length-append h.carried (v ∷ []) in let m = h.many in omega (arith, e, m));
        were = h.were ∙ ap (λ (ys : List D). h.front ++ ys) n.1 ∙ sym (append_assoc h.front (w ∷ []) n.0);
        are = written old now datagram count w v n.0 h n.1 ∙ sym (append_assoc h.carried (v ∷ []) n.0);
        all_sent = all_more h.front h.carried datagram w v h.all_sent sends;
      }

  -- or it failed
  pub one_failed : (old now : List D) (datagram : List ℕ) (count : ℕ) (w v : D) (fault : DeviceFailed) → SentAlong old datagram count now → count < length now → w ≡ get_or now count w → SendsOne device tells w datagram (Err fault) v → StopsAlong device tells old datagram fault (set now count v)
  one_failed old now datagram count w v fault h low is sends =
      let n = next old now datagram count w h low is in
      record {
        front = h.front;
        carried = h.carried;
        before = w;
        after = v;
        behind = n.0;
        were = h.were ∙ ap (λ (ys : List D). h.front ++ ys) n.1;
        are = written old now datagram count w v n.0 h n.1;
        all_sent = h.all_sent;
        failed = sends;
      }

  -- all have
  pub all_along : (old now : List D) (datagram : List ℕ) (count : ℕ) → SentAlong old datagram count now → (count < length now → ⊥) → AllSend device tells old datagram now
  all_along old now datagram count h end =
      let none = none_behind h.carried h.behind (λ low. end (subst (λ (xs : List D). count < length xs) (sym h.are) (subst (λ (n : ℕ). n < length (h.carried ++ h.behind)) h.many low))) in
      let front_is : old ≡ h.front = h.were ∙ ap (λ (ys : List D). h.front ++ ys) none ∙ append-nil h.front in
      let carried_is : now ≡ h.carried = h.are ∙ ap (λ (ys : List D). h.carried ++ ys) none ∙ append-nil h.carried in
      subst (λ (xs : List D). AllSend device tells xs datagram now) (sym front_is) (subst (λ (xs : List D). AllSend device tells h.front datagram xs) (sym carried_is) h.all_sent)

-- ---- a receive

pub received_one : {D : Type 0} (device : D → Device) (tells : D → Type 0) (old : List D) (turn : ℕ) (before after : List ℕ) (result : Result (Option ℕ) DeviceFailed) (w v : D) → w ≡ get_or old turn w → Receives (tells (get_or old turn w)) (device (get_or old turn w)) before result after (device v) → (tells (get_or old turn w) → tells v) → ReceivesOne device tells old turn before result after (set old turn v)
received_one device tells old turn before after result w v is receives still = record {
  way = w;
  stands = is;
  one = v;
  receives = subst (λ x. Receives (tells x) (device x) before result after (device v)) (sym is) receives;
  still_tells = subst (λ x. tells x → tells v) (sym is) still;
  are = refl;
}

pub received_along : {D : Type 0} (device : D → Device) (tells : D → Type 0) (old new : List D) (turn : ℕ) (before after : List ℕ) (result : Result (Option ℕ) DeviceFailed) (f g : Device) → ReceivesAlong device tells old turn before result after new → CountsFailure result f.failures g.failures → CountsNone result f.nones g.nones → g.sent ≡ f.sent → Receives ⊥ f before result after g
received_along device tells old new turn before after result f g along failures nones same = record {
  failures = failures;
  nones = nones;
  same_sent = same;
  filled = either (cases_lt turn (length old));
  handed_over = λ t. absurd t;
  unreceived = λ t. absurd t;
}
  where
    either : (turn < length old) ⊎ (length old ≤ turn) → IfOk result (λ found. IfSome found (λ n. Fills n before after))
    either (inl low) = (along.0 low).receives.filled
    either (inr high) = subst (λ (r : Result (Option ℕ) DeviceFailed). IfOk r (λ found. IfSome found (λ n. Fills n before after))) (sym (along.1 high).none) tt

-- ---- the ways, changed

pub refilled : {D : Type 0} (ways : List D) (turn failures nones count : ℕ) (w : List D) → count ≡ length ways → ◌≡◌ {A = Fanned D} (record { ways = take count (w ++ drop (length w) ways); turn = turn; failures = failures; nones = nones }) (with_ways (record { ways = ways; turn = turn; failures = failures; nones = nones }) w)
refilled {D} ways turn failures nones count w e =
    let made : ℕ → Fanned D = λ n. record { ways = take n (w ++ drop (length w) ways); turn = turn; failures = failures; nones = nones } in
    ap made e

-- as many as there were are there still
pub given_back : {D : Type 0} (P : List D → List D → Type 0) (start now was : List D) (count : ℕ) → start ≡ was → count ≡ length now → P start now → P was (take count (now ++ drop (length now) was))
given_back P start now was count same many h =
    let behind = drop (length now) was in
    subst (λ a. P a (take count (now ++ behind))) same (subst (P start) (sym (ap (λ n. take n (now ++ behind)) many ∙ take-append_seam now behind)) h)

-- ---- the ways live on

-- one more has
pub one_lives : {D : Type 0} (lives : D → D → Type 0) → ((d e f : D) → lives d e → lives e f → lives d f) → (old now : List D) (count : ℕ) (w v : D) → AllLive lives old now → count < length now → w ≡ get_or now count w → lives w v → AllLive lives old (set now count v)
one_lives lives on [] [] count w v all low is one = absurd (omega (arith, low))
one_lives lives on [] (n ∷ ns) count w v all low is one = absurd all
one_lives lives on (o ∷ os) [] count w v all low is one = absurd all
one_lives lives on (o ∷ os) (n ∷ ns) zero w v all low is one = (on o n v all.0 (subst (λ x. lives x v) is one), all.1)
one_lives lives on (o ∷ os) (n ∷ ns) (suc count) w v all low is one = (all.0, one_lives lives on os ns count w v all.1 (omega (arith, low)) is one)
