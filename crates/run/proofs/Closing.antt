-- The passes of a log that closes, and its book.
use Rattle.std.proofs.Common.{◌≡◌, ◌≢◌, ℕ, ◌+◌, ◌*◌, ◌<◌, ◌≤◌, ◌==◌, cond, Bool, true, false, List, [], ◌∷◌, ◌++◌, map, length, get_or, drop, subst, sym, refl, ap, ◌∙◌, arith}
use Rattle.std.specs.Prelude.{◌&&◌, not, sum_by}
use Rattle.std.proofs.lemmas.Bool.{ne_eqb}
use Rattle.std.proofs.lemmas.List.Elements.{All-from_recursion}
use Rattle.std.proofs.lemmas.List.Sums.{sum_by-cons}
use Rattle.std.specs.List.{AllByRecursion}
use Rattle.theory.specs.Entry.{Entry, length_of}
use Rattle.theory.specs.Position.{Geometry, IsGeometry, framed_length, span}
use Rattle.theory.specs.Tiling.{Tiles}
use Rattle.theory.proofs.Claims.{covers_framed}
use Rattle.theory.proofs.Lists.{all_append, all_weaker}
use Rattle.publication.specs.declared.pass.ClaimRange.{ClaimRange}
use Rattle.shared_log.specs.Steps.Handles.{LogValue, PublisherValue, parts_in}
use Rattle.log_rule.specs.Claims.Rule.{entry_of}
use Rattle.log_rule.specs.Claims.Sums.{total}
use Rattle.log_rule.specs.Shares.{claimed_bytes, range_bytes}
use Rattle.log_rule.proofs.Claimed.Totals.{total_append, total_map}
use Rattle.shared_log.specs.Keepers.{KeeperValue}
use Rattle.endpoint.specs.Devices.{Device}
use Rattle.shared_log.specs.Books.{AreAll, IsDone, ShowsBook, share_as, weight_in}
use Rattle.shared_log.specs.declared.book.Book.{Book}
use Rattle.run_parties.specs.Messages.{IsRunClaim, message_in}
use Rattle.run_parties.specs.Passes.{HasNone}
use Rattle.run.specs.declared.passes.Publications.{Publications}
use Rattle.run.specs.declared.passes.Returned.{Returned}
use Rattle.run.specs.declared.passes.Size.{Size}
use Rattle.options.specs.declared.run.made.Plan.{Plan}
use Rattle.run.specs.declared.planned_run.Beginning.{Beginning}
use Rattle.run.specs.Threads.{AreReturned, HaveReceivedFrom, IsBack, accepted_as, device_of}
use Rattle.run.specs.Beginnings.{CanClose, IsBeginning}
use Rattle.run.specs.Outcomes.{IsBook, is_message_of, size_of}
use Rattle.run.proofs.Counting.{no_more}

-- the same parts one by one are the same in all
pub same_total : (xs ys : List PublisherValue) → map parts_in xs ≡ map parts_in ys → total parts_in xs ≡ total parts_in ys
same_total [] [] e = refl
same_total [] (y ∷ ys) e = absurd (let n : 0 ≡ length (map parts_in (y ∷ ys)) = ap length e in omega arith)
same_total (x ∷ xs) [] e = absurd (let n : length (map parts_in (x ∷ xs)) ≡ 0 = ap length e in omega arith)
same_total (x ∷ xs) (y ∷ ys) e =
    let h : parts_in x ≡ parts_in y = ap (λ (ns : List ℕ). get_or ns 0 0) e in
    let t = same_total xs ys (ap (drop 1) e) in
    omega arith

-- what threads gave back of a log that a run began with
pub can_close : {D : Type 0} → (device : D → Device) (tells : D → Type 0) (g : Geometry) (size : Size) (b : Beginning D) (l : LogValue) (r : Returned D) → IsBeginning g size b → AreReturned device tells b.state.log size b.passes r → l ≡ b.state.log → CanClose l size r.parties.published r.keeper b.others.items
can_close device tells g size b l r is back e =
    let rs = r.parties.published.publishers.items in let ps = b.passes.publishers.items in
    subst (λ (x : LogValue). CanClose x size r.parties.published r.keeper b.others.items) (sym e) (record {
      legal = subst IsGeometry (sym is.shape) is.legal;
      start = is.log_is.start;
      many = no_more b.state.log size ps r.parties.published back.parties.published ∙ is.passes.many;
      publishers = back.parties.published.back;
      counted = back.parties.published.counted;
      others_are = is.others;
      unclaimed = is.unclaimed;
      whole = sums (total parts_in rs) (total parts_in ps) (total parts_in b.others.items) (same_total rs ps back.parties.published.parts) is.whole;
      keeper = back.keeper;
    })
  where
    sums : (a b u : ℕ) → a ≡ b → b + u ≡ 1016 → a + u ≡ 1016
    sums a b u e f = omega arith

-- they are all
pub all_there : (l : LogValue) (size : Size) (p : Publications) (k : KeeperValue) (others all : List PublisherValue) → CanClose l size p k others → all ≡ p.publishers.items ++ others → AreAll l all k
all_there l size p k others all is e =
    let rs = p.publishers.items in
    subst (λ (xs : List PublisherValue). AreAll l xs k) (sym e) (record {
      publishers_are = All-from_recursion (IsDone l) (rs ++ others) (all_append (IsDone l) rs others (all_weaker (IsBack l size) (IsDone l) (λ q b. b.done) rs is.publishers) is.others_are);
      keeper_is = is.keeper.done;
      unclaimed = is.keeper.unclaimed;
      whole = sums (total parts_in (rs ++ others)) (total parts_in rs) (total parts_in others) k.held.pass.right.parts (total_append parts_in rs others) is.whole is.keeper.parts;
    })
  where
    sums : (a b c k : ℕ) → a ≡ b + c → b + c ≡ 1016 → k ≡ 8 → a + k ≡ 1024
    sums a b c k e f g = omega arith

-- ---- what the entries weigh

-- sums by std's word
sum_is : (h : Entry → ℕ) (es : List Entry) → sum_by h es ≡ total h es
sum_is h [] = refl
sum_is h (e ∷ es) = sum_by-cons h e es ∙ ap (λ (n : ℕ). h e + n) (sum_is h es)

one_message : (b padding : Bool) (t y : ℕ) → y ≡ cond b t 0 → cond (b && not padding) 1 0 + y ≡ cond b (cond padding 0 1 + t) 0
one_message true true t y e = omega (arith, e)
one_message true false t y e = omega (arith, e)
one_message false true t y e = omega (arith, e)
one_message false false t y e = omega (arith, e)

no_count : (b : Bool) → ◌≡◌ {A = ℕ} 0 (cond b 0 0)
no_count true = refl
no_count false = refl

-- of one publisher: how many messages it has claimed
count_of : (g : Geometry) (length n number : ℕ) (cs : List ClaimRange) → AllByRecursion (IsRunClaim g length number) cs → total (λ c. cond (is_message_of n (entry_of c)) 1 0) cs ≡ cond (number == n) (total message_in cs) 0
count_of g length n number [] all = no_count (number == n)
count_of g length n number (c ∷ cs) all =
    ap (λ (o : ℕ). cond ((o == n) && not c.padding) 1 0 + total (λ d. cond (is_message_of n (entry_of d)) 1 0) cs) all.0.owner
    ∙ one_message (number == n) c.padding (total message_in cs) (total (λ d. cond (is_message_of n (entry_of d)) 1 0) cs) (count_of g length n number cs all.1)

-- and what these cover
message_covers : (b padding : Bool) (s f t y : ℕ) → (padding ≡ false → s ≡ f) → y ≡ cond b (t * f) 0 → cond (b && not padding) s 0 + y ≡ cond b ((cond padding 0 1 + t) * f) 0
message_covers true true s f t y h e = omega (arith, e)
message_covers true false s f t y h e = let same : s ≡ f = h refl in omega (arith, e, same)
message_covers false true s f t y h e = omega (arith, e)
message_covers false false s f t y h e = omega (arith, e)

no_bytes : (b : Bool) (f : ℕ) → 0 ≡ cond b (0 * f) 0
no_bytes true f = omega arith
no_bytes false f = refl

bytes_of : (g : Geometry) (length n number : ℕ) (cs : List ClaimRange) → IsGeometry g → AllByRecursion (IsRunClaim g length number) cs
    → total (λ c. cond (is_message_of n (entry_of c)) (length_of (entry_of c)) 0) cs ≡ cond (number == n) (total message_in cs * framed_length g length) 0
bytes_of g length n number [] legal all = no_bytes (number == n) (framed_length g length)
bytes_of g length n number (c ∷ cs) legal all =
    ap (λ (o : ℕ). cond ((o == n) && not c.padding) (span c.cuts) 0 + total (λ d. cond (is_message_of n (entry_of d)) (length_of (entry_of d)) 0) cs) all.0.owner
    ∙ message_covers (number == n) c.padding (span c.cuts) (framed_length g length) (total message_in cs) (total (λ d. cond (is_message_of n (entry_of d)) (length_of (entry_of d)) 0) cs)
    (λ data_is. ap span (all.0.message data_is) ∙ covers_framed g length legal) (bytes_of g length n number cs legal all.1)

-- a weight over publishers that came back, and over those that took no part
module _ (l : LogValue) (size : Size) (h : Entry → ℕ) (worth : PublisherValue → ℕ) (each : (q : PublisherValue) → IsBack l size q → weight_in h q ≡ worth q) where
  weigh_back : (qs : List PublisherValue) → AllByRecursion (IsBack l size) qs → total (weight_in h) qs ≡ total worth qs
  weigh_back [] all = refl
  weigh_back (q ∷ qs) all = λ j. each q all.0 j + weigh_back qs all.1 j

  weigh_none : (qs : List PublisherValue) → AllByRecursion HasNone qs → total (weight_in h) qs ≡ 0
  weigh_none [] all = refl
  weigh_none (q ∷ qs) all = (λ j. total h (map entry_of (all.0.claims j)) + weigh_none qs all.1 j)

  pub weigh_all : (qs others all : List PublisherValue) → AllByRecursion (IsBack l size) qs → AllByRecursion HasNone others → all ≡ qs ++ others → total (weight_in h) all ≡ total worth qs
  weigh_all qs others all back none e =
      ap (total (weight_in h)) e ∙ total_append (weight_in h) qs others ∙ (λ j. weigh_back qs back j + weigh_none others none j) ∙ plus_none (total worth qs)
    where
      plus_none : (n : ℕ) → n + 0 ≡ n
      plus_none n = omega arith

-- a publisher's messages, and what they cover
messages_are : (l : LogValue) (size : Size) (n : ℕ) (q : PublisherValue) → IsBack l size q → weight_in (λ e. cond (is_message_of n e) 1 0) q ≡ accepted_as n q
messages_are l size n q back =
    total_map (λ e. cond (is_message_of n e) 1 0) entry_of q.pass.right.claims ∙ count_of l.identity.geometry size.task.length n q.pass.number q.pass.right.claims back.claims

bytes_are : (l : LogValue) (size : Size) (n : ℕ) (q : PublisherValue) → IsGeometry l.identity.geometry → IsBack l size q
    → weight_in (λ e. cond (is_message_of n e) (length_of e) 0) q ≡ cond (q.pass.number == n) (total message_in q.pass.right.claims * framed_length l.identity.geometry size.task.length) 0
bytes_are l size n q legal back =
    total_map (λ e. cond (is_message_of n e) (length_of e) 0) entry_of q.pass.right.claims ∙ bytes_of l.identity.geometry size.task.length n q.pass.number q.pass.right.claims legal back.claims

-- all of them cover as many times as much
times : (n f : ℕ) (qs : List PublisherValue) → total (λ q. cond (q.pass.number == n) (total message_in q.pass.right.claims * f) 0) qs ≡ total (accepted_as n) qs * f
times n f [] = none f
  where
    none : (f : ℕ) → 0 ≡ 0 * f
    none f = omega arith
times n f (q ∷ qs) = (λ j. scaled (q.pass.number == n) (total message_in q.pass.right.claims) f j + times n f qs j) ∙ sum (accepted_as n q) (total (accepted_as n) qs) f
  where
    scaled : (b : Bool) (k f : ℕ) → cond b (k * f) 0 ≡ cond b k 0 * f
    scaled true k f = refl
    scaled false k f = none f
      where
        none : (f : ℕ) → 0 ≡ 0 * f
        none f = omega arith

    sum : (a b f : ℕ) → a * f + b * f ≡ (a + b) * f
    sum a b f = omega arith

-- ---- publishers that took no part

not_below : (m n k : ℕ) → m < k → k ≤ n → m ≢ n
not_below m n k low high e = absurd (omega arith)

no_share : (l : LogValue) (size : Size) (n : ℕ) (qs : List PublisherValue) → size.publishers ≤ n → AllByRecursion (IsBack l size) qs → total (share_as n) qs ≡ 0
no_share l size n [] high all = refl
no_share l size n (q ∷ qs) high all = (λ j. cond (ne_eqb q.pass.number n (not_below q.pass.number n size.publishers all.0.low high) j) (claimed_bytes q.pass) 0 + no_share l size n qs high all.1 j)

no_claims : (n : ℕ) (qs : List PublisherValue) → AllByRecursion HasNone qs → total (share_as n) qs ≡ 0
no_claims n [] all = refl
no_claims n (q ∷ qs) all = (λ j. cond (q.pass.number == n) (total range_bytes (all.0.claims j)) 0 + no_claims n qs all.1 j) ∙ (λ j. sym (no_count (q.pass.number == n)) j + 0)

-- ---- the book

pub shown : (l : LogValue) (size : Size) (p : Publications) (k : KeeperValue) (others all : List PublisherValue) (book : Book) → CanClose l size p k others → all ≡ p.publishers.items ++ others → ShowsBook l all book
    → IsBook l.identity.geometry size.task.length size.publishers p.accepted book
shown l size p k others all book is there shows =
    let g = l.identity.geometry in let length = size.task.length in let qs = p.publishers.items in let zero = is.start in let log = shows.tiled.log in record {
      start = shows.start ∙ zero;
      shares = (let a = shows.whole in let b = shows.start in omega arith);
      log = log;
      tiles = subst (λ (s : ℕ). Tiles g.term_length s book.tail log) zero shows.tiled.tiles;
      owned = shows.owned;
      messages = λ n low.
          sum_is (λ e. cond (is_message_of n e) 1 0) log ∙ sym (shows.tiled.fair (λ e. cond (is_message_of n e) 1 0))
          ∙ weigh_all l size (λ e. cond (is_message_of n e) 1 0) (accepted_as n) (messages_are l size n) qs others all is.publishers is.unclaimed there
          ∙ sym (is.counted.each n low);
      bytes = λ n low.
          sum_is (λ e. cond (is_message_of n e) (length_of e) 0) log ∙ sym (shows.tiled.fair (λ e. cond (is_message_of n e) (length_of e) 0))
          ∙ weigh_all l size (λ e. cond (is_message_of n e) (length_of e) 0) (λ q. cond (q.pass.number == n) (total message_in q.pass.right.claims * framed_length g length) 0) (λ q. bytes_are l size n q is.legal) qs others all is.publishers is.unclaimed there
          ∙ times n (framed_length g length) qs
          ∙ ap (λ (k : ℕ). k * framed_length g length) (sym (is.counted.each n low));
      others = λ n high low.
          shows.shares n low ∙ ap (total (share_as n)) there ∙ total_append (share_as n) qs others
          ∙ (λ j. no_share l size n qs high is.publishers j + no_claims n others is.unclaimed j);
    }

-- ---- what a run has left

pub all_received : {D : Type 0} (device : D → Device) (tells : D → Type 0) (plan : Plan) (b : Beginning D) (r : Returned D) → IsBeginning plan.geometry (size_of plan) b → AreReturned device tells b.state.log (size_of plan) b.passes r
    → HaveReceivedFrom device tells plan.geometry (size_of plan) 0 (map device_of b.passes.receivers.items) r.parties.received.items
all_received device tells plan b r is back = subst (λ (g : Geometry). HaveReceivedFrom device tells g (size_of plan) 0 (map device_of b.passes.receivers.items) r.parties.received.items) is.shape back.parties.received
