-- Lanes of a log that opens, of one that threads publish to, and of one that closes.
use Rattle.std.proofs.Common.{◌≡◌, ℕ, zero, suc, ◌+◌, ◌*◌, ◌<◌, nat_eq, List, [], ◌∷◌, ◌++◌, map, length, get_or, take, drop, subst, sym, refl, ap, ◌∙◌, arith}
use Rattle.std.specs.Prelude.{if◌then◌else◌}
use Rattle.std.proofs.lemmas.List.{take-append-drop}
use Rattle.std.proofs.lemmas.List.Elements.{All-from_recursion}
use Rattle.std.proofs.lemmas.Bool.Decides.{nat_tests}
use Rattle.std.specs.List.{AllByRecursion}
use Rattle.theory.proofs.Lists.{all_append, all_behind, all_front}
use Rattle.publication.specs.declared.pass.Pass.{Pass}
use Rattle.shared_log.specs.Steps.Handles.{IsOf, LogValue, PublisherValue, parts_in}
use Rattle.log_rule.specs.Claims.Sums.{total}
use Rattle.log_rule.proofs.Claimed.Totals.{total_append, total_map}
use Rattle.shared_log.specs.Handles.{AreNew}
use Rattle.shared_log.specs.Keepers.{KeeperValue}
use Rattle.shared_log.specs.Books.{AreAll, IsDone}
use Rattle.speed.specs.declared.rounds.claiming.Job.{Job}
use Rattle.speed.specs.declared.rounds.lane.Lane.{Lane}
use Rattle.claims.specs.Holdings.{IsResting}
use Rattle.speed.specs.Rounds.{IsJob, IsKept, IsLane, IsSender, IsSent, claimant_in, job_parts, messages_of, parts_of, publisher_in}

-- a sum over four
pub sum_four : {A : Type 0} (f : A → ℕ) (xs : List A) (a b c d : A) → length xs ≡ 4 → a ≡ get_or xs 0 a → b ≡ get_or xs 1 b → c ≡ get_or xs 2 c → d ≡ get_or xs 3 d → f a + (f b + (f c + (f d + 0))) ≡ total f xs
sum_four f (x0 ∷ x1 ∷ x2 ∷ x3 ∷ []) a b c d long e0 e1 e2 e3 = λ i. f (e0 i) + (f (e1 i) + (f (e2 i) + (f (e3 i) + 0)))
sum_four f xs a b c d long e0 e1 e2 e3 = absurd (omega arith)

-- ---- new ones

pub new_lanes : (l : LogValue) (n : ℕ) (lanes : List Lane) → AreNew l n (map publisher_in lanes) → AllByRecursion (λ lane. lane.accepted ≡ 0) lanes → AllByRecursion (IsLane l) lanes
new_lanes l n [] new none = tt
new_lanes l n (x ∷ xs) new none = (
  record {
    sender = record {
      done = record { idle = record { of = new.0.of; unarmed = ap (λ (v : Pass). v.right.armed) new.0.pass }; ended = ap (λ (v : Pass). v.work.drafts) new.0.pass };
      sent = subst (AllByRecursion (IsSent l.identity.geometry.term_length x.publisher.pass.number)) (sym (ap (λ (v : Pass). v.right.claims) new.0.pass)) tt;
    };
    counted = ap messages_of new.0.pass ∙ sym none.0;
  },
  new_lanes l (suc n) xs new.1 none.1,
)

not_first : (n a b : ℕ) → (if nat_eq (suc n) 0 then a else b) ≡ b
not_first n a b = grind (arith, nat_tests)

later_parts : (l : LogValue) (n : ℕ) (lanes : List Lane) → AreNew l (suc n) (map publisher_in lanes) → total parts_of lanes + 120 * suc n ≡ 960
later_parts l n [] new = let e : suc n ≡ 8 = new in omega arith
later_parts l n (x ∷ xs) new =
    let e : parts_of x ≡ 120 = ap (λ (v : Pass). v.right.parts) new.0.pass ∙ not_first n 176 120 in
    let r = later_parts l (suc n) xs new.1 in
    omega arith

pub new_parts : (l : LogValue) (lanes : List Lane) → AreNew l 0 (map publisher_in lanes) → total parts_of lanes ≡ 1016
new_parts l [] new = let e : 0 ≡ 8 = new in absurd (omega arith)
new_parts l (x ∷ xs) new =
    let e : parts_of x ≡ 176 = ap (λ (v : Pass). v.right.parts) new.0.pass in
    let r = later_parts l 0 xs new.1 in
    omega arith

-- ---- those that claim

pub of_lanes : (l : LogValue) (lanes : List Lane) → AllByRecursion (IsLane l) lanes → AllByRecursion (IsOf l) (map publisher_in lanes)
of_lanes l [] all = tt
of_lanes l (x ∷ xs) all = (all.0.sender.done.idle.of, of_lanes l xs all.1)

pub resting_lanes : (l : LogValue) (lanes : List Lane) → AllByRecursion (IsLane l) lanes → AllByRecursion IsResting (map publisher_in lanes)
resting_lanes l [] all = tt
resting_lanes l (x ∷ xs) all = (record { unarmed = all.0.sender.done.idle.unarmed; ended = all.0.sender.done.ended }, resting_lanes l xs all.1)

pub jobs_are : (l : LogValue) (jobs : List Job) (lanes : List Lane) → map claimant_in jobs ≡ map publisher_in lanes → AllByRecursion (IsLane l) lanes → AllByRecursion (λ lane. lane.accepted ≡ 0) lanes → AllByRecursion (IsJob l) jobs
jobs_are l [] lanes same all none = tt
jobs_are l (j ∷ js) [] same all none = absurd (let long = ap length same in omega (arith, long))
jobs_are l (j ∷ js) (x ∷ xs) same all none =
    let here : j.claimant ≡ x.publisher = ap (λ (ps : List PublisherValue). get_or ps 0 j.claimant) same in
    let rest : map claimant_in js ≡ map publisher_in xs = ap (drop 1) same in (
      record { sender = subst (IsSender l) (sym here) all.0.sender; none = ap (λ (p : PublisherValue). messages_of p.pass) here ∙ all.0.counted ∙ none.0 },
      jobs_are l js xs rest all.1 none.1,
    )

pub job_parts_are : (jobs : List Job) (lanes : List Lane) → map claimant_in jobs ≡ map publisher_in lanes → total job_parts jobs ≡ total parts_of lanes
job_parts_are jobs lanes same = sym (total_map parts_in claimant_in jobs) ∙ ap (total parts_in) same ∙ total_map parts_in publisher_in lanes

-- ---- filled ones

pub all_taken : {A : Type 0} (P : A → Type 0) (n : ℕ) (xs : List A) → AllByRecursion P xs → AllByRecursion P (take n xs)
all_taken P n xs all = all_front P (take n xs) (drop n xs) (subst (AllByRecursion P) (sym (take-append-drop n xs)) all)

all_dropped : {A : Type 0} (P : A → Type 0) (n : ℕ) (xs : List A) → AllByRecursion P xs → AllByRecursion P (drop n xs)
all_dropped P n xs all = all_behind P (take n xs) (drop n xs) (subst (AllByRecursion P) (sym (take-append-drop n xs)) all)

-- the first ones were filled
pub first_filled : (l : LogValue) (n : ℕ) (xs ys : List Lane) → AllByRecursion (IsLane l) xs → AllByRecursion (IsLane l) ys → AllByRecursion (IsLane l) (ys ++ drop n xs)
first_filled l n xs ys all filled = all_append (IsLane l) ys (drop n xs) filled (all_dropped (IsLane l) n xs all)

pub same_parts : (n : ℕ) (xs ys : List Lane) → total parts_of ys ≡ total parts_of (take n xs) → total parts_of (ys ++ drop n xs) ≡ total parts_of xs
same_parts n xs ys same =
    let a = total_append parts_of ys (drop n xs) in
    let b = total_append parts_of (take n xs) (drop n xs) in
    let c : total parts_of (take n xs ++ drop n xs) ≡ total parts_of xs = ap (total parts_of) (take-append-drop n xs) in
    omega arith

-- what holds of each element
pub all_or : {A : Type 0} (P : A → Type 0) (xs : List A) (k : ℕ) (d : A) → k < length xs → AllByRecursion P xs → P (get_or xs k d)
all_or P [] k d low all = absurd (omega arith)
all_or P (x ∷ xs) zero d low all = all.0
all_or P (x ∷ xs) (suc k) d low all = all_or P xs k d (omega arith) all.1

-- each lane is one of this log, and has the parts that it had
pub all_filled : (l : LogValue) (xs ys : List Lane) → length ys ≡ length xs → ((k : ℕ) (d : Lane) → k < length xs → IsLane l (get_or ys k d) × (parts_of (get_or ys k d) ≡ parts_of (get_or xs k d))) → AllByRecursion (IsLane l) ys × (total parts_of ys ≡ total parts_of xs)
all_filled l [] [] long each = (tt, refl)
all_filled l [] (y ∷ ys) long each = absurd (omega arith)
all_filled l (x ∷ xs) [] long each = absurd (omega arith)
all_filled l (x ∷ xs) (y ∷ ys) long each =
    let here = each 0 y (omega arith) in
    let rest = all_filled l xs ys (omega arith) (λ k d low. each (suc k) d (omega arith)) in
    ((here.0, rest.0), (let a = here.1 in let b = rest.1 in omega arith))

-- ---- closing

done_lanes : (l : LogValue) (lanes : List Lane) → AllByRecursion (IsLane l) lanes → AllByRecursion (IsDone l) (map publisher_in lanes)
done_lanes l [] all = tt
done_lanes l (x ∷ xs) all = (all.0.sender.done, done_lanes l xs all.1)

-- they and the keeper are all
pub all_there : (l : LogValue) (lanes : List Lane) (k : KeeperValue) → AllByRecursion (IsLane l) lanes → total parts_of lanes ≡ 1016 → IsKept l k → AreAll l (map publisher_in lanes) k
all_there l lanes k all whole kept = record {
  publishers_are = All-from_recursion (IsDone l) (map publisher_in lanes) (done_lanes l lanes all);
  keeper_is = kept.done;
  unclaimed = kept.unclaimed;
  whole = sums (total parts_in (map publisher_in lanes)) (total parts_of lanes) k.held.pass.right.parts (total_map parts_in publisher_in lanes) whole kept.parts;
}
  where
    sums : (a b k : ℕ) → a ≡ b → b ≡ 1016 → k ≡ 8 → a + k ≡ 1024
    sums a b k e f g = omega arith
