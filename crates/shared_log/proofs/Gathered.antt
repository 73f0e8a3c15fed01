-- Publishers are gathered one after the other, and their shares are counted.
use Rattle.std.proofs.Common.{◌≡◌, ℕ, ◌+◌, ◌^◌, ◌<◌, ◌≤◌, cond, Bool, List, [], ◌∷◌, ◌++◌, length, set, map, replicate, All, append-nil, append_assoc, get_or-set_same, get_or-set_other, length-set, ⊎_elim, eq-eqb, ne_eqb, sym, refl, ap, ◌∙◌, subst, arith}
use Rattle.std.proofs.lemmas.List.{get_or-replicate}
use Rattle.std.proofs.lemmas.List.Sums.{sum_by-set}
use mathlib.Core.Logic.{dite}
use native.Mathlib.Decide.{ℕ_discrete}
use Rattle.std.specs.Prelude.{slice_index, slice_set, sum}
use Rattle.theory.specs.Bytes.{Identity}
use Rattle.std.specs.List.{AllByRecursion, flat_map}
use Rattle.theory.specs.Entry.{Entry}
use Rattle.theory.specs.Position.{IsGeometry, max_position}
use Rattle.theory.specs.Placed.{Among}
use Rattle.theory.proofs.Lists.{all_weaker, among_cases, among_left, among_right}
use Rattle.theory.proofs.Tables.{sum_set}
use Rattle.publication.specs.declared.pass.ClaimRange.{ClaimRange}
use Rattle.publication.specs.declared.pass.FrameWords.{FrameWords}
use Rattle.publication.specs.declared.pass.Pass.{Pass}
use Rattle.publication.specs.declared.pass.Reading.{Reading}
use Rattle.log_rule.specs.Claims.Sums.{total}
use Rattle.log_rule.specs.Claims.Rule.{entries_of, entry_of, weight}
use Rattle.log_rule.specs.Edges.{in_entry}
use Rattle.log_rule.specs.Numbers.{is_number, numbers_as}
use Rattle.publication.specs.Steps.{Extent}
use Rattle.shared_log.specs.Steps.Handles.{LogValue, PublisherValue, parts_in}
use Rattle.log_rule.proofs.Claimed.Memories.{maps_append}
use Rattle.log_rule.proofs.Claimed.Totals.{total_append}
use Rattle.log_rule.specs.Shares.{IsTiled, Weighs, claimed_bytes, owner_bytes}
use Rattle.shared_log.specs.Keepers.{KeeperValue}
use Rattle.shared_log.specs.Books.{AreAll, Gathers, HasEntries, IsDone, IsIdle, IsCommitted, IsCommittedBy, ShowsBook, committed_in, committed_of, numbers_in, share_as, weight_in}
use Rattle.log_rule.specs.Table.{all_known}
use Rattle.log_rule.proofs.Shares.{share_is}
use Rattle.shared_log.proofs.Owned.{own_share}
use Rattle.shared_log.proofs.Shares.{both_share}

-- these publishers are left: what is counted of the others, and what the keeper has of them
pub record IsGathering (l : LogValue) (reading : List Reading) (all left : List PublisherValue) (shares : List ℕ) (tail : ℕ) (k : PublisherValue) : Type 0 where
  pub idle : IsIdle l k
  pub undone : All (IsDone l) left
  -- those that were gathered
  pub gone : List PublisherValue
  pub these : all ≡ left ++ gone
  pub entries : AllByRecursion HasEntries gone
  pub parts : total parts_in left + k.pass.right.parts ≡ 1024
  pub weighed : (h : Entry → ℕ) → total (weight_in h) left + weight h k.pass ≡ total (weight_in h) all
  pub eight : length shares ≡ 8
  pub counted : (n : ℕ) → n < 8 → slice_index shares n + total (share_as n) left ≡ total (share_as n) all
  pub owned : (n : ℕ) → n < 8 → slice_index shares n + total (weight_in (owner_bytes n)) left ≡ total (weight_in (owner_bytes n)) all
  pub committed : (h : Extent → ℕ) → total (weight_in (in_entry h)) all + total (committed_in h) left ≡ total (committed_in h) all + total (weight_in (in_entry h)) left
  pub numbered : (n : ℕ) → total (numbers_in n) all ≤ total (numbers_in n) left + numbers_as n k.pass
  pub summed : sum shares ≡ claimed_bytes k.pass
  pub tail_is : tail ≡ l.start + claimed_bytes k.pass
  pub weighs : Weighs k.pass k.pass
  -- its consumers know what they knew, and what it has committed those did that were gathered
  pub knows : k.pass.reading ≡ reading
  pub frames : (f : FrameWords) → Among f k.pass.work.frames → Among f (flat_map committed_of gone)

pub begun : (l : LogValue) (ps : List PublisherValue) (k q : KeeperValue) → AreAll l ps k → Weighs k.held.pass q.held.pass → IsIdle l q.held → IsGathering l k.held.pass.reading ps ps (replicate 8 0) l.start q.held
begun l ps k q a w idle =
    let none : q.held.pass.right.claims ≡ [] = ap (λ (v : Pass). v.right.claims) w.same ∙ a.unclaimed in let some = a.whole in let same = ap (λ (v : Pass). v.right.parts) w.same in record {
      idle = idle;
      undone = a.publishers_are;
      gone = [];
      these = sym (append-nil ps);
      entries = tt;
      parts = ap (λ (n : ℕ). total parts_in ps + n) same ∙ a.whole;
      weighed = λ h. plus_none (total (weight_in h) ps) (weight h q.held.pass) (ap (λ (cs : List ClaimRange). total h (map entry_of cs)) none);
      eight = refl;
      counted = λ n lt. none_plus (slice_index (replicate {A = ℕ} 8 0) n) (total (share_as n) ps) (get_or-replicate 8 n 0 0 lt);
      owned = λ n lt. none_plus (slice_index (replicate {A = ℕ} 8 0) n) (total (weight_in (owner_bytes n)) ps) (get_or-replicate 8 n 0 0 lt);
      numbered = λ n. at_most (total (numbers_in n) ps) (numbers_as n q.held.pass);
      committed = λ h. turned (total (weight_in (in_entry h)) ps) (total (committed_in h) ps);
      summed = sym (nothing q.held.pass none);
      tail_is = sym (plus_none l.start (claimed_bytes q.held.pass) (nothing q.held.pass none));
      weighs = subst (λ (v : Pass). Weighs v q.held.pass) (sym w.same) w;
      knows = ap (λ (v : Pass). v.reading) w.same;
      frames = λ f among.
          no_frames k.held.pass.work.frames
          (none_left (weight (in_entry (λ r. 1)) k.held.pass) (total (λ (g : FrameWords). 1) k.held.pass.work.frames) (total (λ (g : FrameWords). 1) k.held.pass.work.drafts) (ap (λ (cs : List ClaimRange). total (in_entry (λ r. 1)) (map entry_of cs)) a.unclaimed) (w.parted (λ r. 1)))
          f (subst (λ (v : Pass). Among f v.work.frames) w.same among);
    }
  where
    none_left : (w n m : ℕ) → w ≡ 0 → w ≡ n + m → n ≡ 0
    none_left w n m z e = omega arith

    no_frames : (fs : List FrameWords) → total (λ (g : FrameWords). 1) fs ≡ 0 → (f : FrameWords) → Among f fs → Among f []
    no_frames [] z f among = among
    no_frames (g ∷ fs) z f among = absurd (omega (arith, z))

    at_most : (n m : ℕ) → n ≤ n + m
    at_most n m = omega arith

    turned : (n m : ℕ) → n + m ≡ m + n
    turned n m = omega arith

    plus_none : (n m : ℕ) → m ≡ 0 → n + m ≡ n
    plus_none n m e = omega arith

    none_plus : (n m : ℕ) → n ≡ 0 → n + m ≡ m
    none_plus n m e = omega arith

    nothing : (v : Pass) → v.right.claims ≡ [] → claimed_bytes v ≡ 0
    nothing v e = ap (total Rattle.log_rule.specs.Shares.range_bytes) e

-- one publisher more
pub gathered_on : (l : LogValue) (reading : List Reading) (all left rest : List PublisherValue) (shares : List ℕ) (tail number share : ℕ) (p k q : PublisherValue) → IsGathering l reading all left shares tail k → left ≡ rest ++ p ∷ [] → All (IsDone l) rest → HasEntries p → IsCommitted p → IsIdle l q → Gathers k.pass p q.pass (number, share)
    → IsGathering l reading all rest (slice_set shares number (slice_index shares number + share)) (tail + share) q
gathered_on l reading all left rest shares tail number share p k q g e undone entries ended idle x =
    let last : (f : PublisherValue → ℕ) → total f left ≡ total f rest + f p = λ f. ap (total f) e ∙ total_append f rest (p ∷ []) ∙ (let z : total f rest + (f p + 0) ≡ total f rest + f p = omega arith in z) in
    let eight = g.eight in let low = x.number.1 in let at = x.number.0 in let inside : number < length shares = omega (arith, eight, low, at) in
    let less : p.pass.right.parts < 1024 = few (total parts_in left) (total parts_in rest) p.pass.right.parts k.pass.right.parts (last parts_in) g.parts x.some in
    let own : (n : ℕ) → weight_in (owner_bytes n) p ≡ share_as n p = λ n. own_share n p.pass.number p.pass.right.claims (x.owns.mine less) in
    let more : claimed_bytes q.pass ≡ claimed_bytes k.pass + share = ap claimed_bytes x.pass ∙ both_share k.pass p.pass ∙ ap (λ (n : ℕ). claimed_bytes k.pass + n) (sym x.share) in record {
      idle = idle;
      undone = undone;
      gone = p ∷ g.gone;
      these = g.these ∙ ap (λ (ps : List PublisherValue). ps ++ g.gone) e ∙ append_assoc rest (p ∷ []) g.gone;
      entries = (entries, g.entries);
      parts = (let a = last parts_in in let c = g.parts in let d = ap (λ (v : Pass). v.right.parts) x.pass in three (total parts_in left) (total parts_in rest) p.pass.right.parts k.pass.right.parts q.pass.right.parts 1024 a c d);
      weighed = λ h. (let a = last (weight_in h) in let c = g.weighed h in let d = ap (weight h) x.pass ∙ ap (total h) (maps_append entry_of k.pass.right.claims p.pass.right.claims) ∙ total_append h (entries_of k.pass) (entries_of p.pass) in
          three (total (weight_in h) left) (total (weight_in h) rest) (weight h p.pass) (weight h k.pass) (weight h q.pass) (total (weight_in h) all) a c d);
      eight = length-set shares number (slice_index shares number + share) ∙ g.eight;
      counted = λ n lt. (let a = last (share_as n) in let c = g.counted n lt in dite (ℕ_discrete n number)
          (λ same. (let put : slice_index (set shares number (slice_index shares number + share)) n ≡ slice_index shares n + share = ap (slice_index (set shares number (slice_index shares number + share))) same ∙ get_or-set_same shares number (slice_index shares number + share) 0 inside ∙ ap (λ (i : ℕ). slice_index shares i + share) (sym same) in
          let mine : share_as n p ≡ share = ap (λ (b : Bool). cond b (claimed_bytes p.pass) 0) (eq-eqb p.pass.number n (sym at ∙ sym same)) ∙ sym x.share in
          counts (slice_index (set shares number (slice_index shares number + share)) n) (slice_index shares n) (total (share_as n) left) (total (share_as n) rest) (share_as n p) share (total (share_as n) all) put a mine c))
          (λ ne. (let put : slice_index (set shares number (slice_index shares number + share)) n ≡ slice_index shares n = get_or-set_other shares number n (slice_index shares number + share) 0 ne in
          let none : share_as n p ≡ 0 = ap (λ (b : Bool). cond b (claimed_bytes p.pass) 0) (ne_eqb p.pass.number n (λ y. ne (sym y ∙ sym at))) in
          stays (slice_index (set shares number (slice_index shares number + share)) n) (slice_index shares n) (total (share_as n) left) (total (share_as n) rest) (share_as n p) (total (share_as n) all) put a none c)));
      owned = λ n lt. (let a = last (weight_in (owner_bytes n)) in let c = g.owned n lt in dite (ℕ_discrete n number)
          (λ same. (let put : slice_index (set shares number (slice_index shares number + share)) n ≡ slice_index shares n + share = ap (slice_index (set shares number (slice_index shares number + share))) same ∙ get_or-set_same shares number (slice_index shares number + share) 0 inside ∙ ap (λ (i : ℕ). slice_index shares i + share) (sym same) in
          let mine : weight_in (owner_bytes n) p ≡ share = own n ∙ ap (λ (b : Bool). cond b (claimed_bytes p.pass) 0) (eq-eqb p.pass.number n (sym at ∙ sym same)) ∙ sym x.share in
          counts (slice_index (set shares number (slice_index shares number + share)) n) (slice_index shares n) (total (weight_in (owner_bytes n)) left) (total (weight_in (owner_bytes n)) rest) (weight_in (owner_bytes n) p) share (total (weight_in (owner_bytes n)) all) put a mine c))
          (λ ne. (let put : slice_index (set shares number (slice_index shares number + share)) n ≡ slice_index shares n = get_or-set_other shares number n (slice_index shares number + share) 0 ne in
          let none : weight_in (owner_bytes n) p ≡ 0 = own n ∙ ap (λ (b : Bool). cond b (claimed_bytes p.pass) 0) (ne_eqb p.pass.number n (λ y. ne (sym y ∙ sym at))) in
          stays (slice_index (set shares number (slice_index shares number + share)) n) (slice_index shares n) (total (weight_in (owner_bytes n)) left) (total (weight_in (owner_bytes n)) rest) (weight_in (owner_bytes n) p) (total (weight_in (owner_bytes n)) all) put a none c)));
      committed = λ h. (let a = last (weight_in (in_entry h)) in let d = last (committed_in h) in let c = g.committed h in let same = ended h in
          levels (total (weight_in (in_entry h)) all) (total (committed_in h) all) (total (weight_in (in_entry h)) left) (total (weight_in (in_entry h)) rest) (weight_in (in_entry h) p) (total (committed_in h) left) (total (committed_in h) rest) (committed_in h p) a d same c);
      numbered = λ n. (let a = last (numbers_in n) in let c = g.numbered n in let d = ap (numbers_as n) x.pass ∙ total_append (is_number n) k.pass.right.numbers p.pass.right.numbers in
          at_least (total (numbers_in n) all) (total (numbers_in n) left) (total (numbers_in n) rest) (numbers_as n p.pass) (numbers_as n k.pass) (numbers_as n q.pass) a c d);
      summed = sum_set shares number share inside ∙ ap (λ (n : ℕ). n + share) g.summed ∙ sym more;
      tail_is = (let t = g.tail_is in tails tail l.start (claimed_bytes k.pass) share (claimed_bytes q.pass) t more);
      weighs = x.weighs;
      knows = ap (λ (v : Pass). v.reading) x.pass ∙ g.knows;
      frames = λ f among.
          ⊎_elim
          (λ (there : Among f k.pass.work.frames). among_right f p.pass.work.frames (flat_map committed_of g.gone) (g.frames f there))
          (λ (mine : Among f p.pass.work.frames). among_left f p.pass.work.frames (flat_map committed_of g.gone) mine)
          (among_cases f k.pass.work.frames p.pass.work.frames (subst (λ (v : Pass). Among f v.work.frames) x.pass among));
    }
  where
    three : (left rest p k q all : ℕ) → left ≡ rest + p → left + k ≡ all → q ≡ k + p → rest + q ≡ all
    three left rest p k q all a c d = omega arith

    at_least : (all left rest p k q : ℕ) → left ≡ rest + p → all ≤ left + k → q ≡ k + p → all ≤ rest + q
    at_least all left rest p k q a c d = omega arith

    levels : (all done left rest p dleft drest d : ℕ) → left ≡ rest + p → dleft ≡ drest + d → p ≡ d → all + dleft ≡ done + left → all + drest ≡ done + rest
    levels all done left rest p dleft drest d a e same c = omega arith

    few : (left rest p k : ℕ) → left ≡ rest + p → left + k ≡ 1024 → 0 < k → p < 1024
    few left rest p k a c pos = omega arith

    counts : (new old left rest p share all : ℕ) → new ≡ old + share → left ≡ rest + p → p ≡ share → old + left ≡ all → new + rest ≡ all
    counts new old left rest p share all a c d f = omega arith

    stays : (new old left rest p all : ℕ) → new ≡ old → left ≡ rest + p → p ≡ 0 → old + left ≡ all → new + rest ≡ all
    stays new old left rest p all a c d f = omega arith

    tails : (t s k m q : ℕ) → t ≡ s + k → q ≡ k + m → t + m ≡ s + q
    tails t s k m q a c = omega arith

-- a number isn't above the sum
index_low : (xs : List ℕ) (k : ℕ) → k < length xs → slice_index xs k ≤ sum xs
index_low xs k lt = let e = sum_by-set (λ (x : ℕ). x) xs k 0 0 lt in omega arith

-- each sum fits a word
pub sums_low : (l : LogValue) (reading : List Reading) (all left : List PublisherValue) (shares : List ℕ) (tail number share : ℕ) (q : PublisherValue) → IsGathering l reading all left (slice_set shares number (slice_index shares number + share)) (tail + share) q → number < 8 → q.pass.start + claimed_bytes q.pass ≤ 2 ^ 55
    → (tail + share ≤ 2 ^ 55) × (slice_index shares number + share ≤ 2 ^ 55)
sums_low l reading all left shares tail number share q g low most =
    let eight = g.eight in let at = g.idle.of.start in let sum_is = g.summed in let t = g.tail_is in
    let n : ℕ = slice_index shares number + share in let long : length (set shares number n) ≡ length shares = length-set shares number n in
    let there : slice_index (set shares number n) number ≡ n = get_or-set_same shares number n 0 (omega (arith, eight, long, low)) in
    let less = index_low (set shares number n) number (omega (arith, eight, low)) in
    (by_tail (tail + share) l.start (claimed_bytes q.pass) q.pass.start t at most, by_share n (slice_index (set shares number n) number) (sum (set shares number n)) (claimed_bytes q.pass) q.pass.start there less sum_is most)
  where
    by_tail : (t s m p : ℕ) → t ≡ s + m → p ≡ s → p + m ≤ 2 ^ 55 → t ≤ 2 ^ 55
    by_tail t s m p e f le = omega arith

    by_share : (n x all m p : ℕ) → x ≡ n → x ≤ all → all ≡ m → p + m ≤ 2 ^ 55 → n ≤ 2 ^ 55
    by_share n x all m p e le f low = omega arith

-- all of them
pub shows : (l : LogValue) (reading : List Reading) (all : List PublisherValue) (shares : List ℕ) (tail : ℕ) (k : PublisherValue) → IsGeometry l.identity.geometry → IsGathering l reading all [] shares tail k → ShowsBook l all (record { start = l.start; tail = tail; shares = shares })
shows l reading all shares tail k legal g =
    let p = g.parts in let whole : k.pass.right.parts ≡ 1024 = omega arith in let t = g.weighs.whole whole in
    let tiled : IsTiled l.identity l.start tail (λ h. weight h k.pass) = subst (λ (x : Identity × ℕ × ℕ). IsTiled x.0 x.1 x.2 (λ h. weight h k.pass)) (λ i. (g.idle.of.identity i, g.idle.of.start i, (ap (λ (n : ℕ). n + claimed_bytes k.pass) g.idle.of.start ∙ sym g.tail_is) i)) t in record {
      geometry = legal;
      start = refl;
      low = subst (λ (x : ℕ × Identity). x.0 ≤ max_position x.1.geometry) (λ i. ((ap (λ (n : ℕ). n + claimed_bytes k.pass) g.idle.of.start ∙ sym g.tail_is) i, g.idle.of.identity i)) g.weighs.low;
      entries = subst (AllByRecursion HasEntries) (sym g.these) g.entries;
      shares = λ n lt. (let c = g.counted n lt in none (slice_index shares n) (total (share_as n) all) c);
      whole = ap (λ (n : ℕ). l.start + n) g.summed ∙ sym g.tail_is;
      tiled = record { log = tiled.log; tiles = tiled.tiles; fair = λ h. all_of (weight h k.pass) (total (weight_in h) all) (g.weighed h) ∙ tiled.fair h };
      owned = λ n lt. none (slice_index shares n) (total (weight_in (owner_bytes n)) all) (g.owned n lt) ∙ all_of (weight (owner_bytes n) k.pass) (total (weight_in (owner_bytes n)) all) (g.weighed (owner_bytes n)) ∙ tiled.fair (owner_bytes n) ∙ share_is n tiled.log;
      numbers = λ n. (let a = g.numbered n in let c = g.weighs.single n in low (total (numbers_in n) all) (numbers_as n k.pass) a c);
      committed = λ h. sym (all_of (weight (in_entry h) k.pass) (total (weight_in (in_entry h)) all) (g.weighed (in_entry h)) ∙ tiled.fair (in_entry h)) ∙ ends (total (weight_in (in_entry h)) all) (total (committed_in h) all) (g.committed h);
    }
  where
    low : (a k : ℕ) → a ≤ 0 + k → k ≤ 1 → a ≤ 1
    low a k le one = omega arith

    ends : (a c : ℕ) → a + 0 ≡ c + 0 → a ≡ c
    ends a c e = omega arith

    none : (a c : ℕ) → a + 0 ≡ c → a ≡ c
    none a c e = omega arith

    all_of : (a c : ℕ) → 0 + a ≡ c → c ≡ a
    all_of a c e = omega arith

-- what its consumers know was committed by one of them
pub knows_committed : (l : LogValue) (reading : List Reading) (all : List PublisherValue) (shares : List ℕ) (tail : ℕ) (k : PublisherValue) → IsGathering l reading all [] shares tail k → AllByRecursion (IsCommittedBy all) (all_known reading)
knows_committed l reading all shares tail k g =
    let p = g.parts in let whole : k.pass.right.parts ≡ 1024 = omega arith in
    all_weaker (λ (f : FrameWords). Among f k.pass.work.frames) (IsCommittedBy all) (λ f among. subst (λ (ps : List PublisherValue). Among f (flat_map committed_of ps)) (sym g.these) (g.frames f among)) (all_known reading)
    (subst (λ (rs : List Reading). AllByRecursion (λ (f : FrameWords). Among f k.pass.work.frames) (all_known rs)) g.knows (g.weighs.known whole))
