-- The passes of a log that a run begins with: the publishers that take part, and the others.
use Rattle.std.proofs.Common.{◌≡◌, ◌<◌, ◌≤◌, ℕ, pos, zero, suc, ◌+◌, ◌*◌, nat_eq, List, [], ◌∷◌, ◌++◌, length, length-take-le, take, drop, subst, sym, ap, ◌∙◌, arith}
use Rattle.std.specs.Prelude.{if◌then◌else◌}
use Rattle.std.proofs.lemmas.List.{take-append-drop}
use Rattle.std.proofs.lemmas.Bool.Decides.{nat_tests}
use Rattle.std.specs.List.{AllByRecursion}
use Rattle.theory.proofs.Lists.{all_behind, all_front}
use Rattle.publication.specs.declared.pass.Pass.{Pass}
use Rattle.shared_log.specs.Steps.Handles.{LogValue, PublisherValue, parts_in}
use Rattle.log_rule.specs.Claims.Sums.{total}
use Rattle.log_rule.proofs.Claimed.Totals.{total_append}
use Rattle.shared_log.specs.Handles.{AreNew}
use Rattle.shared_log.specs.Keepers.{KeeperValue}
use Rattle.shared_log.specs.Books.{IsDone}
use Rattle.shared_log.specs.Parts.{IsNewKeeper, IsNewReader}
use Rattle.agents.proofs.NewPublishers.{are_done}
use Rattle.agents.specs.NewPasses.{AreNewPasses}
use Rattle.agents.specs.declared.passes.LogPasses.{LogPasses}
use Rattle.run_parties.specs.Passes.{HasNone, IsKept}
use Rattle.run_parties.specs.RunLogs.{IsNewRunLog, IsRunLog}
use Rattle.run_parties.specs.declared.run_log.RunLog.{RunLog}
use Rattle.theory.specs.Bytes.{Identity}
use Rattle.theory.specs.Position.{Geometry, IsGeometry}

not_first : (n a b : ℕ) → (if nat_eq (suc n) 0 then a else b) ≡ b
not_first n a b = grind (arith, nat_tests)

later_parts : (l : LogValue) (n : ℕ) (ps : List PublisherValue) → AreNew l (suc n) ps → total parts_in ps + 120 * suc n ≡ 960
later_parts l n [] new = let e : suc n ≡ 8 = new in omega arith
later_parts l n (p ∷ ps) new =
    let e : parts_in p ≡ 120 = ap (λ (v : Pass). v.right.parts) new.0.pass ∙ not_first n 176 120 in
    let r = later_parts l (suc n) ps new.1 in
    omega arith

-- their parts of the right to close, beside the keeper's
new_parts : (l : LogValue) (ps : List PublisherValue) → AreNew l 0 ps → total parts_in ps ≡ 1016
new_parts l [] new = let e : 0 ≡ 8 = new in absurd (omega arith)
new_parts l (p ∷ ps) new =
    let e : parts_in p ≡ 176 = ap (λ (v : Pass). v.right.parts) new.0.pass in
    let r = later_parts l 0 ps new.1 in
    omega arith

whole : (n : ℕ) (ps : List PublisherValue) → take n ps ++ drop n ps ≡ ps
whole n ps = take-append-drop n ps

pub first_done : (l : LogValue) (n : ℕ) (ps : List PublisherValue) → AreNew l 0 ps → AllByRecursion (IsDone l) (take n ps)
first_done l n ps new = all_front (IsDone l) (take n ps) (drop n ps) (subst (AllByRecursion (IsDone l)) (sym (whole n ps)) (are_done l 0 ps new))

pub others_done : (l : LogValue) (n : ℕ) (ps : List PublisherValue) → AreNew l 0 ps → AllByRecursion (IsDone l) (drop n ps)
others_done l n ps new = all_behind (IsDone l) (take n ps) (drop n ps) (subst (AllByRecursion (IsDone l)) (sym (whole n ps)) (are_done l 0 ps new))

pub all_parts : (l : LogValue) (n : ℕ) (ps : List PublisherValue) → AreNew l 0 ps → total parts_in (take n ps) + total parts_in (drop n ps) ≡ 1016
all_parts l n ps new = sym (total_append parts_in (take n ps) (drop n ps)) ∙ ap (total parts_in) (whole n ps) ∙ new_parts l ps new

-- none of them has claimed anything
unclaimed : (l : LogValue) (n : ℕ) (ps : List PublisherValue) → AreNew l n ps → AllByRecursion HasNone ps
unclaimed l n [] new = tt
unclaimed l n (p ∷ ps) new = (record { claims = ap (λ (v : Pass). v.right.claims) new.0.pass; frames = ap (λ (v : Pass). v.work.frames) new.0.pass }, unclaimed l (suc n) ps new.1)

pub first_unclaimed : (l : LogValue) (n : ℕ) (ps : List PublisherValue) → AreNew l 0 ps → AllByRecursion HasNone (take n ps)
first_unclaimed l n ps new = all_front HasNone (take n ps) (drop n ps) (subst (AllByRecursion HasNone) (sym (whole n ps)) (unclaimed l 0 ps new))

pub others_unclaimed : (l : LogValue) (n : ℕ) (ps : List PublisherValue) → AreNew l 0 ps → AllByRecursion HasNone (drop n ps)
others_unclaimed l n ps new = all_behind HasNone (take n ps) (drop n ps) (subst (AllByRecursion HasNone) (sym (whole n ps)) (unclaimed l 0 ps new))

-- the first ones have the lowest numbers
below : (l : LogValue) (n k most : ℕ) (ps : List PublisherValue) → n + k ≤ most → AreNew l n ps → AllByRecursion (λ p. p.pass.number < most) (take k ps)
below l n zero most ps room new = tt
below l n (suc k) most [] room new = tt
below l n (suc k) most (p ∷ ps) room new = (let e : p.pass.number ≡ n = ap (λ (v : Pass). v.number) new.0.pass in omega arith, below l (suc n) k most ps (omega arith) new.1)

pub first_low : (l : LogValue) (n : ℕ) (ps : List PublisherValue) → AreNew l 0 ps → AllByRecursion (λ p. p.pass.number < n) (take n ps)
first_low l n ps new = below l 0 n n ps (omega arith) new

pub first_many : (n : ℕ) (ps : List PublisherValue) → n ≤ 8 → length ps ≡ 8 → length (take n ps) ≡ n
first_many n ps few all = length-take-le n ps (omega arith)

-- the keeper
pub new_kept : (l : LogValue) (k : KeeperValue) → IsNewKeeper l k → IsKept l k
new_kept l k new = record {
  done = record { idle = record { of = new.held.of; unarmed = ap (λ (v : Pass). v.right.armed) new.held.pass_is }; ended = ap (λ (v : Pass). v.work.drafts) new.held.pass_is };
  unclaimed = ap (λ (v : Pass). v.right.claims) new.held.pass_is;
  parts = ap (λ (v : Pass). v.right.parts) new.held.pass_is;
}

-- a log that opens with all its passes, of which so many publishers take part
pub is_new : (g : Geometry) (n : ℕ) (p : LogPasses) (r : RunLog) → n ≤ 8 → IsGeometry g → AreNewPasses (record { geometry = g; session = pos 1; stream = pos 1001 }) 0 p → r.log ≡ p.log → r.publishers.items ≡ take n p.publishers.items → r.others.items ≡ drop n p.publishers.items → r.reader ≡ p.reader → r.keeper ≡ p.keeper → IsNewRunLog g n r
is_new g n p r few legal new at front others reads keeps =
    let l = p.log in let is = new.log_is in let ps = p.publishers.items in
    record {
      shape = ap (λ (x : LogValue). x.identity.geometry) at ∙ ap (λ (i : Identity). i.geometry) is.identity_is;
      legal = legal;
      log_is = subst IsRunLog (sym at) (record { session = ap (λ (i : Identity). i.session) is.identity_is; stream = ap (λ (i : Identity). i.stream) is.identity_is; start = is.start_is; consumers = is.consumers_is });
      publishers = subst (λ (x : LogValue). AllByRecursion (IsDone x) r.publishers.items) (sym at) (subst (AllByRecursion (IsDone l)) (sym front) (first_done l n ps new.publishers_are));
      others = subst (λ (x : LogValue). AllByRecursion (IsDone x) r.others.items) (sym at) (subst (AllByRecursion (IsDone l)) (sym others) (others_done l n ps new.publishers_are));
      many = ap (λ (xs : List PublisherValue). length xs) front ∙ first_many n ps few new.many;
      low = subst (AllByRecursion (λ q. q.pass.number < n)) (sym front) (first_low l n ps new.publishers_are);
      unclaimed = subst (AllByRecursion HasNone) (sym front) (first_unclaimed l n ps new.publishers_are);
      others_unclaimed = subst (AllByRecursion HasNone) (sym others) (others_unclaimed l n ps new.publishers_are);
      whole = (λ i. total parts_in (front i) + total parts_in (others i)) ∙ all_parts l n ps new.publishers_are;
      reader = subst (λ (x : LogValue). IsNewReader x 0 r.reader) (sym at) (subst (IsNewReader l 0) (sym reads) new.reader_is);
      keeper = subst (λ (x : LogValue). IsKept x r.keeper) (sym at) (subst (IsKept l) (sym keeps) (new_kept l p.keeper new.keeper_is));
    }
