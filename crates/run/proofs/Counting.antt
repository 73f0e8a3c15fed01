-- Publishers that come back, counted.
use Rattle.std.proofs.Common.{◌≡◌, ◌≢◌, ◌⊎◌, inl, inr, Ok, Err, Result, ℕ, suc, ◌+◌, ◌*◌, ◌^◌, ◌<◌, ◌≤◌, ◌==◌, cond, Bool, true, false, List, [], ◌∷◌, ◌++◌, add-zero, length, map, set, subst, sym, refl, ap, ◌∙◌, arith}
use Rattle.std.specs.Prelude.{IfOk, slice_index}
use Rattle.std.specs.List.{AllByRecursion}
use Rattle.std.proofs.lemmas.Bool.{cases_eq, eq-eqb, ne_eqb}
use Rattle.std.proofs.lemmas.List.{get_or-set_other, get_or-set_same, length-append, length-set}
use Rattle.theory.proofs.Lists.{all_behind, all_pushed}
use Rattle.publication.specs.declared.pass.ClaimRange.{ClaimRange}
use Rattle.shared_log.specs.Steps.Handles.{LogValue, PublisherValue, parts_in}
use Rattle.log_rule.specs.Claims.Sums.{total}
use Rattle.log_rule.proofs.Claimed.Memories.{maps_append}
use Rattle.log_rule.proofs.Claimed.Totals.{total_append}
use Rattle.shared_log.specs.Books.{IsDone}
use Rattle.shared_log.specs.Parts.{IsNewReader}
use Rattle.theory.specs.Position.{Geometry}
use Rattle.run_parties.specs.Messages.{HasPublished, IsRunClaim, message_in}
use Rattle.run_parties.specs.Passes.{HasNone, IsKept}
use Rattle.run_parties.specs.RunLogs.{IsNewRunLog, IsRunLog}
use Rattle.run_parties.specs.declared.run_log.RunLog.{RunLog}
use Rattle.run_parties.specs.declared.publisher_turns.Task.{Task}
use Rattle.endpoint.specs.declared.device_error.DeviceError.{DeviceError}
use Rattle.run.specs.Beginnings.{IsBeginning}
use Rattle.run.specs.declared.planned_run.Beginning.{Beginning}
use Rattle.run.specs.Threads.{AreCounted, AreWaitingFrom, HaveCome, HavePublished, IsBack, IsWaiting, accepted_as, counters_of, shown_of}
use Rattle.run.specs.declared.passes.Publications.{Publications}
use Rattle.run.specs.declared.passes.Size.{Size}

-- ---- one publisher

-- what it has claimed is what it published
module _ (l : LogValue) (length_of accepted : ℕ) (p q : PublisherValue) (none : p.pass.right.claims ≡ []) (h : HasPublished l length_of accepted p q) where
  claimed : q.pass.right.claims ≡ h.more
  claimed = h.claims ∙ ap (λ (cs : List ClaimRange). cs ++ h.more) none

  pub accepted_is : total message_in q.pass.right.claims ≡ accepted
  accepted_is = ap (total message_in) claimed ∙ h.messages

  pub run_claims : AllByRecursion (IsRunClaim l.identity.geometry length_of q.pass.number) q.pass.right.claims
  run_claims =
      subst (λ (n : ℕ). AllByRecursion (IsRunClaim l.identity.geometry length_of n) q.pass.right.claims) (sym h.ends.number)
      (subst (AllByRecursion (IsRunClaim l.identity.geometry length_of p.pass.number)) (sym claimed) h.each)

pub is_back : (l : LogValue) (size : Size) (accepted : ℕ) (p q : PublisherValue) → IsWaiting l size.publishers p → HasPublished l size.task.length accepted p q → accepted ≤ size.task.messages → IsBack l size q
is_back l size accepted p q waits h few = record {
  done = h.ends.done;
  claims = run_claims l size.task.length accepted p q waits.none.claims h;
  few = let e = accepted_is l size.task.length accepted p q waits.none.claims h in omega arith;
  low = let e = h.ends.number in let low = waits.low in omega arith;
}

-- ---- counts

-- one more, and those that were counted
at_number : (n m k : ℕ) → n ≡ m → cond (m == n) k 0 ≡ k
at_number n m k e = ap (λ (b : Bool). cond b k 0) (eq-eqb m n (sym e))

at_other : (n m k : ℕ) → n ≢ m → cond (m == n) k 0 ≡ 0
at_other n m k ne = ap (λ (b : Bool). cond b k 0) (ne_eqb m n (λ e. ne (sym e)))

pub counted_more : (accepted : List ℕ) (qs : List PublisherValue) (q : PublisherValue) (count : ℕ) → AreCounted accepted qs → total message_in q.pass.right.claims ≡ count → q.pass.number < 8
    → AreCounted (set accepted q.pass.number (slice_index accepted q.pass.number + count)) (qs ++ q ∷ [])
counted_more accepted qs q count is more low = record {
  long = length-set accepted q.pass.number (slice_index accepted q.pass.number + count) ∙ is.long;
  each = each;
}
  where
    one : (n : ℕ) → total (accepted_as n) (qs ++ q ∷ []) ≡ total (accepted_as n) qs + accepted_as n q
    one n = total_append (accepted_as n) qs (q ∷ []) ∙ ap (λ (k : ℕ). total (accepted_as n) qs + k) (add-zero (accepted_as n q))

    at : (n : ℕ) → n < 8 → (n ≡ q.pass.number) ⊎ (n ≢ q.pass.number) → slice_index (set accepted q.pass.number (slice_index accepted q.pass.number + count)) n ≡ total (accepted_as n) qs + accepted_as n q
    at n small (inl e) =
        let here : accepted_as n q ≡ count = at_number n q.pass.number (total message_in q.pass.right.claims) e ∙ more in
        let wide : q.pass.number < length accepted = let a = is.long in omega arith in
        subst (λ (k : ℕ). slice_index (set accepted q.pass.number (slice_index accepted q.pass.number + count)) k ≡ slice_index accepted k + count) (sym e)
        (get_or-set_same accepted q.pass.number (slice_index accepted q.pass.number + count) 0 wide)
        ∙ (λ j. is.each n small j + sym here j)
    at n small (inr ne) =
        get_or-set_other accepted q.pass.number n (slice_index accepted q.pass.number + count) 0 ne
        ∙ is.each n small ∙ sym (add-zero (total (accepted_as n) qs)) ∙ ap (λ (k : ℕ). total (accepted_as n) qs + k) (sym (at_other n q.pass.number (total message_in q.pass.right.claims) ne))

    each : (n : ℕ) → n < 8 → slice_index (set accepted q.pass.number (slice_index accepted q.pass.number + count)) n ≡ total (accepted_as n) (qs ++ q ∷ [])
    each n small = at n small (cases_eq n q.pass.number) ∙ sym (one n)

-- they are few enough to be added
at_most : (n m k most : ℕ) → k ≤ most → cond (m == n) k 0 ≤ most
at_most n m k most few = elim (m == n) as (λ (b : Bool). cond b k 0 ≤ most) [ true ↦ few | false ↦ omega arith ]

pub few_counted : (l : LogValue) (size : Size) (n : ℕ) (qs : List PublisherValue) → size.task.messages < 2 ^ 32 → AllByRecursion (IsBack l size) qs → total (accepted_as n) qs ≤ 4294967296 * length qs
few_counted l size n [] small all = omega arith
few_counted l size n (q ∷ qs) small all =
    let here = at_most n q.pass.number (total message_in q.pass.right.claims) size.task.messages all.0.few in
    let rest = few_counted l size n qs small all.1 in
    omega arith

-- ---- all of them

published_more : (l : LogValue) (length : ℕ) (ps qs : List PublisherValue) (p q : PublisherValue) → HavePublished l length ps qs → HasPublished l length (total message_in q.pass.right.claims) p q → HavePublished l length (ps ++ p ∷ []) (qs ++ q ∷ [])
published_more l length [] [] p q all one = (one, tt)
published_more l length [] (y ∷ qs) p q all one = absurd all
published_more l length (x ∷ ps) [] p q all one = absurd all
published_more l length (x ∷ ps) (y ∷ qs) p q all one = (all.0, published_more l length ps qs p q all.1 one)

pub come_more : (l : LogValue) (size : Size) (ws : List PublisherValue) (w q : PublisherValue) (count : ℕ) (all r : Publications) → HaveCome l size ws all → IsWaiting l size.publishers w
    → HasPublished l size.task.length count w q → count ≤ size.task.messages → q.pass.number < 8
    → r.publishers.items ≡ all.publishers.items ++ q ∷ [] → r.accepted ≡ set all.accepted q.pass.number (slice_index all.accepted q.pass.number + count) → HaveCome l size (ws ++ w ∷ []) r
come_more l size ws w q count all r have waits h few low items counts =
    let qs = all.publishers.items in
    record {
      published = subst (HavePublished l size.task.length (ws ++ w ∷ [])) (sym items) (published_more l size.task.length ws qs w q have.published (subst (λ (n : ℕ). HasPublished l size.task.length n w q) (sym (accepted_is l size.task.length count w q waits.none.claims h)) h));
      back = subst (AllByRecursion (IsBack l size)) (sym items) (all_pushed (IsBack l size) qs q have.back (is_back l size count w q waits h few));
      parts = ap (map parts_in) items ∙ maps_append parts_in qs (q ∷ []) ∙ (λ j. have.parts j ++ h.ends.parts j ∷ []) ∙ sym (maps_append parts_in ws (w ∷ []));
      counted = subst (AreCounted r.accepted) (sym items) (subst (λ (ns : List ℕ). AreCounted ns (qs ++ q ∷ [])) (sym counts)
          (counted_more all.accepted qs q count have.counted (accepted_is l size.task.length count w q waits.none.claims h) low));
    }

-- what its thread promised
pub promised : (l at : LogValue) (size : Size) (task : Task) (w before q : PublisherValue) (count : ℕ) → at ≡ l → task ≡ size.task → before ≡ w → HasPublished at task.length count before q × (count ≤ task.messages) → HasPublished l size.task.length count w q × (count ≤ size.task.messages)
promised l at size task w before q count a b c h = subst (λ (u : LogValue × (Task × PublisherValue)). HasPublished u.0 u.1.0.length count u.1.1 q × (count ≤ u.1.0.messages)) (λ j. (a j, (b j, c j))) h

pub come : (l : LogValue) (size : Size) (waits ws : List PublisherValue) (w q : PublisherValue) (count : ℕ) (all : Publications) (result : Result Publications DeviceError) → waits ≡ ws ++ w ∷ [] → AllByRecursion (IsWaiting l size.publishers) waits → size.publishers ≤ 8 → HaveCome l size ws all
    → HasPublished l size.task.length count w q × (count ≤ size.task.messages) → IfOk result (λ r. r.publishers.items ≡ all.publishers.items ++ q ∷ []) → IfOk result (λ r. r.accepted ≡ set all.accepted q.pass.number (slice_index all.accepted q.pass.number + count)) → IfOk result (HaveCome l size waits)
come l size waits ws w q count all (Ok r) e waiting_are few have h items counts =
    let one : IsWaiting l size.publishers w = (all_behind (IsWaiting l size.publishers) ws (w ∷ []) (subst (AllByRecursion (IsWaiting l size.publishers)) e waiting_are)).0 in
    let low : q.pass.number < 8 = let a = one.low in let b = h.0.ends.number in omega arith in
    subst (λ (xs : List PublisherValue). HaveCome l size xs r) (sym e) (come_more l size ws w q count all r have one h.0 h.1 low items counts)
come l size waits ws w q count all (Err f) e waiting_are few have h items counts = tt

-- there are no more than were waited for
pub no_more : (l : LogValue) (size : Size) (ws : List PublisherValue) (all : Publications) → HaveCome l size ws all → length all.publishers.items ≡ length ws
no_more l size ws all have = sym (lengths all.publishers.items) ∙ ap (λ (ns : List ℕ). length ns) have.parts ∙ lengths ws
  where
    lengths : (ps : List PublisherValue) → length (map parts_in ps) ≡ length ps
    lengths [] = refl
    lengths (p ∷ ps) = ap suc (lengths ps)

-- the sum for one more fits
pub room : (l : LogValue) (size : Size) (ws : List PublisherValue) (n count : ℕ) (all : Publications) → HaveCome l size ws all → size.task.messages < 2 ^ 32 → length ws ≤ 8 → n < 8 → count < 2 ^ 32
    → slice_index all.accepted n + count < 2 ^ 64
room l size ws n count all have small few low more =
    let a = few_counted l size n all.publishers.items small have.back in
    let b = have.counted.each n low in
    let c = no_more l size ws all have in
    omega arith

-- ---- publishers that begin

pub waiting : (l : LogValue) (count : ℕ) (ps : List PublisherValue) → AllByRecursion (IsDone l) ps → AllByRecursion HasNone ps → AllByRecursion (λ p. p.pass.number < count) ps → AllByRecursion (IsWaiting l count) ps
waiting l count [] done none low = tt
waiting l count (p ∷ ps) done none low = (record { done = done.0; none = none.0; low = low.0 }, waiting l count ps done.1 none.1 low.1)

pub begins : {D : Type 0} → (g : Geometry) (size : Size) (r : RunLog) (b : Beginning D) → IsNewRunLog g size.publishers r → b.state.log ≡ r.log → b.passes.publishers.items ≡ r.publishers.items → b.others.items ≡ r.others.items → b.passes.reader ≡ r.reader → b.passes.keeper ≡ r.keeper
    → b.passes.asking.queue ≡ b.state.conductor → b.passes.closing.queue ≡ b.state.conductor → b.passes.taker.queue ≡ b.state.conductor
    → length b.passes.sends.ways ≡ size.receivers → length b.passes.receivers.items ≡ size.receivers → AreWaitingFrom g size.receivers 0 b.passes.receivers.items → map shown_of b.shown.items ≡ map counters_of b.passes.receivers.items → IsBeginning g size b
begins g size r b is log publishers others reads keeps asking closing taker ways many receivers shown =
    let count = size.publishers in
    let shape : b.state.log.identity.geometry ≡ g = ap (λ (x : LogValue). x.identity.geometry) log ∙ is.shape in record {
      legal = is.legal;
      shape = shape;
      log_is = subst IsRunLog (sym log) is.log_is;
      passes = record {
        many = ap (λ (ps : List PublisherValue). length ps) publishers ∙ is.many;
        publishers = subst (λ (x : LogValue). AllByRecursion (IsWaiting x count) b.passes.publishers.items) (sym log) (subst (AllByRecursion (IsWaiting r.log count)) (sym publishers) (waiting r.log count r.publishers.items is.publishers is.unclaimed is.low));
        reader = subst (λ (x : LogValue). IsNewReader x 0 b.passes.reader) (sym log) (subst (IsNewReader r.log 0) (sym reads) is.reader);
        keeper = subst (λ (x : LogValue). IsKept x b.passes.keeper) (sym log) (subst (IsKept r.log) (sym keeps) is.keeper);
        asking = asking;
        closing = closing;
        taker = taker;
        ways = ways;
        receivers_many = many;
        receivers = subst (λ (x : Geometry). AreWaitingFrom x size.receivers 0 b.passes.receivers.items) (sym shape) receivers;
      };
      shown = shown;
      others = subst (λ (x : LogValue). AllByRecursion (IsDone x) b.others.items) (sym log) (subst (AllByRecursion (IsDone r.log)) (sym others) is.others);
      unclaimed = subst (AllByRecursion HasNone) (sym others) is.others_unclaimed;
      whole = (λ j. total parts_in (publishers j) + total parts_in (others j)) ∙ is.whole;
    }

-- the sum for one more that comes back fits
pub room_for : (l : LogValue) (size : Size) (waits ws : List PublisherValue) (w q : PublisherValue) (count : ℕ) (all : Publications) → waits ≡ ws ++ w ∷ [] → AllByRecursion (IsWaiting l size.publishers) waits → size.publishers ≤ 8 → length waits ≤ 8 → size.task.messages < 2 ^ 32 → HaveCome l size ws all
    → HasPublished l size.task.length count w q × (count ≤ size.task.messages) → slice_index all.accepted q.pass.number + count < 2 ^ 64
room_for l size waits ws w q count all e waiting_are few many small have h =
    let one : IsWaiting l size.publishers w = (all_behind (IsWaiting l size.publishers) ws (w ∷ []) (subst (AllByRecursion (IsWaiting l size.publishers)) e waiting_are)).0 in
    let low : q.pass.number < 8 = let a = one.low in let b = h.0.ends.number in omega arith in
    let fewer : length ws ≤ 8 = let a : length waits ≡ length (ws ++ w ∷ []) = ap (λ (ps : List PublisherValue). length ps) e in let b = length-append ws (w ∷ []) in omega arith in
    room l size ws q.pass.number count all have small fewer low (let a = h.1 in omega arith)
