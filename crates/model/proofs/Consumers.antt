-- A consumer has passed frames that follow each other, and so is within what stands without a gap.
use Rattle.std.proofs.Common.{◌≡◌, ℕ, ◌≤◌, List, [], ◌∷◌, ◌++◌, map, Option, None, Some, false, refl, sym, ap, ◌∙◌, arith}
use Rattle.std.specs.List.{AllByRecursion}
use Rattle.theory.specs.Placed.{IsReached, Placed, Among, Chain, AllAmong}
use Rattle.theory.specs.Assembly.{Assembly, nothing_heard, after, after_all}
use Rattle.theory.specs.Units.{IsContiguous, contiguous}
use Rattle.theory.specs.Consumer.{consumer_at, Consumer, moved, passed_by}
use Rattle.model.specs.Headline.{StayWithin, positions}
use Rattle.theory.specs.Numbered.{Each}
use Rattle.theory.proofs.Lists.{all_weaker, all_append}
use Rattle.theory.proofs.Frames.{AllBelow}
use Rattle.theory.proofs.Follow.{Chain-push}
use Rattle.theory.proofs.Contiguous.{chain_bound, contiguous_is, end_below}

-- what an assembler has after these frames
abbrev pub heard : Assembly → List Placed → Assembly
heard a read = after_all a (map (λ s. s.frame) read)

heard-push : (a : Assembly) (read : List Placed) (s : Placed) → heard a (read ++ s ∷ []) ≡ after (heard a read) s.frame
heard-push a [] s = refl
heard-push a (t ∷ ts) s = heard-push (after a t.frame) ts s

-- the consumer has passed frames of the list, and handed each to its assembler
pub record Follows (frames : List Placed) (start : ℕ) (r : Consumer) : Type 0 where
  pub read : List Placed
  pub chain : Chain start r.at read
  pub among : AllAmong frames read
  pub kept : List Placed
  pub kept_chain : Chain r.join r.heard_to kept
  pub kept_among : AllAmong frames kept
  pub heard_all : r.assembly ≡ heard nothing_heard kept
  pub behind : r.heard_to ≤ r.at
  pub same : r.lost ≡ false → r.heard_to ≡ r.at

pub follows_more : (old new : List Placed) → ((s : Placed) → Among s old → Among s new) → (start : ℕ) (r : Consumer) → Follows old start r → Follows new start r
follows_more old new keeps start r f = record { read = f.read; chain = f.chain; among = all_weaker (λ s. Among s old) (λ s. Among s new) keeps f.read f.among; kept = f.kept; kept_chain = f.kept_chain; kept_among = all_weaker (λ s. Among s old) (λ s. Among s new) keeps f.kept f.kept_among; heard_all = f.heard_all; behind = f.behind; same = f.same }

pub follows_moved : (frames : List Placed) (start : ℕ) (r : Consumer) (s : Placed) → Follows frames start r → Among s frames → s.at ≡ r.at → r.lost ≡ false → Follows frames start (moved r s)
follows_moved frames start r s f a e l = record {
  read = f.read ++ s ∷ [];
  chain = Chain-push start r.at f.read s f.chain e;
  among = all_append (λ x. Among x frames) f.read (s ∷ []) f.among (a, tt);
  kept = f.kept ++ s ∷ [];
  kept_chain = Chain-push r.join r.heard_to f.kept s f.kept_chain (e ∙ sym (f.same l));
  kept_among = all_append (λ x. Among x frames) f.kept (s ∷ []) f.kept_among (a, tt);
  heard_all = ap (λ x. after x s.frame) f.heard_all ∙ sym (heard-push nothing_heard f.kept s);
  behind = omega arith;
  same = λ x. refl;
}

pub follows_passed : (frames : List Placed) (start : ℕ) (r : Consumer) (s : Placed) → Follows frames start r → Among s frames → s.at ≡ r.at → Follows frames start (passed_by r s)
follows_passed frames start r s f a e = record {
  read = f.read ++ s ∷ [];
  chain = Chain-push start r.at f.read s f.chain e;
  among = all_append (λ x. Among x frames) f.read (s ∷ []) f.among (a, tt);
  kept = f.kept;
  kept_chain = f.kept_chain;
  kept_among = f.kept_among;
  heard_all = f.heard_all;
  behind = omega (arith, f.behind, e);
  same = λ x. absurd (cc);
}

-- where it stands, who just joined
pub follows_joined : (frames : List Placed) (start at : ℕ) → IsReached frames start at → Follows frames start (consumer_at at)
follows_joined frames start at p = record { read = p.read; chain = p.chain; among = p.among; kept = []; kept_chain = refl; kept_among = tt; heard_all = refl; behind = omega arith; same = λ x. refl }

pub follows_bound : (frames : List Placed) (start q : ℕ) → IsContiguous frames start q → (rs : List Consumer) → AllByRecursion (Follows frames start) rs → AllByRecursion (λ p. p ≤ q) (map (λ r. r.at) rs)
follows_bound frames start q c [] h = tt
follows_bound frames start q c (r ∷ rs) h = (chain_bound frames start q r.at h.0.read c h.0.chain h.0.among, follows_bound frames start q c rs h.1)

pub seats_bound : (frames : List Placed) (start q : ℕ) → IsContiguous frames start q → (seats : List (Option Consumer)) → Each (Follows frames start) seats → AllByRecursion (λ p. p ≤ q) (positions seats)
seats_bound frames start q c [] h = tt
seats_bound frames start q c (None ∷ seats) h = seats_bound frames start q c seats h.1
seats_bound frames start q c (Some r ∷ seats) h = (chain_bound frames start q r.at h.0.read c h.0.chain h.0.among, seats_bound frames start q c seats h.1)

pub bounded : (frames : List Placed) (start mark : ℕ) (rs : List Consumer) → AllBelow mark frames → start ≤ mark → AllByRecursion (Follows frames start) rs → StayWithin frames start mark (map (λ r. r.at) rs)
bounded frames start mark rs below le h =
    let c : IsContiguous frames start (contiguous frames start mark) = contiguous_is frames start mark below in
    (contiguous frames start mark, c, end_below frames start (contiguous frames start mark) mark below le c, follows_bound frames start (contiguous frames start mark) c rs h)
