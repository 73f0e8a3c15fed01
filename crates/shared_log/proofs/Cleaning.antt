-- All is cleaned up to a position.
use Rattle.std.proofs.Common.{rules, ◌≡◌, ℕ, ◌+◌, ◌-◌, ◌*◌, ◌^◌, ◌<◌, ◌≤◌, max, List, [], length, sym, ap, ◌∙◌, subst, refl, arith}
use Rattle.std.specs.Prelude.{Bool, false, true, nat_eq, slice_index, if◌then◌else◌}
use Rattle.theory.specs.Bytes.{Identity}
use Rattle.publication.specs.declared.pass.Keeping.{Keeping}
use Rattle.log_rule.specs.Keepings.{least_there}
use Rattle.log_memory.specs.Frames.{Follow}
use Rattle.std.specs.List.{AllByRecursion}
use Rattle.theory.specs.Position.{Geometry, IsGeometry, max_position}
use Rattle.shared_log.specs.Steps.Handles.{IsOf, LogValue, PublisherValue}
use Rattle.shared_log.specs.Steps.Keepers.{Cleans}
use Rattle.shared_log.specs.Keepers.{CleansAndLimits, CleansTo, IsKeeping, KeepsAs, KeeperValue, KnowsLimit, MayCleanTo, ReadsConsumer, SameFreed, Sweeps, TookSteps, freeing_steps, keeping_of, raised, reads_of, seen_positions, stored_once, there_of, those_there, with_cleaned, with_limit, with_reads}
use Rattle.shared_log.proofs.Limits.{cleans_none}
use Rattle.shared_log.proofs.Stepping.{keeping_is, keeps_then}

eq_self : (n : ℕ) → nat_eq n n ≡ true
eq_self n = search rules

-- nothing is left to clean
pub cleans_nothing : (i : Identity) (k : KeeperValue) (end : ℕ) → IsKeeping k.held.pass k.limit k.cleaned → KnowsLimit k → MayCleanTo k end → end ≤ k.cleaned → CleansTo i end k k
cleans_nothing i k end is knows may le = record {
  keeps = subst (λ (n : ℕ). KeepsAs k (with_cleaned n k) k) (same k.cleaned end may.further le) (cleans_none k is knows);
  frees = record { frames = []; follow = refl; low = tt; reached = λ lt. absurd (self k.cleaned lt); same = λ _. refl };
  steps = (let z : freeing_steps k.cleaned end 0 ≡ 0 = ap (λ (n : ℕ). freeing_steps k.cleaned n 0) (sym (same k.cleaned end may.further le)) ∙ ap (λ (b : Bool). if b then 0 else 3) (eq_self k.cleaned) in none k.held.steps (freeing_steps k.cleaned end 0) z);
}
  where
    same : (a b : ℕ) → a ≤ b → b ≤ a → a ≡ b
    same a b le ge = omega arith

    self : (n : ℕ) → n < n → ⊥
    self n lt = omega arith

    none : (s z : ℕ) → z ≡ 0 → s ≡ s + z
    none s z e = omega arith

-- up to there all is
pub cleans_some : (i : Identity) (k : KeeperValue) (end freed : ℕ) (w : PublisherValue) → IsKeeping k.held.pass k.limit k.cleaned → KnowsLimit k → k.cleaned < end → Cleans i end freed k.held w → CleansTo i end k (record k { held = w; cleaned = end })
cleans_some i k end freed w is knows lt x = record {
  keeps = record {
    of = x.of;
    seat = x.seat;
    pass = x.pass;
    sure = x.sure;
    controls = λ one. x.controls one ∙ ap (λ (n : ℕ). record k.held.controls { limit = n }) (knows one ∙ sym is.limit_is);
    limit = sym is.limit_is;
    cleaned = refl;
  };
  frees = record {
    frames = x.frames;
    follow = subst (λ (n : ℕ). Follow i k.held.freed x.frames n) (sym x.freed_is) x.follow;
    low = x.low;
    reached = λ _. subst (λ (n : ℕ). end ≤ n) (sym x.freed_is) x.reached;
    same = λ e. absurd (apart k.cleaned end lt e);
  };
  steps = x.steps ∙ ap (λ (n : ℕ). k.held.steps + n) (sym (ap (λ (b : Bool). if b then 0 else 2 * length x.frames + 3) (differ k.cleaned end lt)));
}
  where
    apart : (a b : ℕ) → a < b → b ≡ a → ⊥
    apart a b lt e = omega arith

    differ : (a b : ℕ) → a < b → nat_eq a b ≡ false
    differ a b lt = search (rules, lt)

-- ---- a whole cleaning

pub low_end : (g : Geometry) (start least end : ℕ) → IsGeometry g → start ≤ max_position g → least ≤ max_position g → end ≡ max start (least - g.term_length) → end ≤ 2 ^ 56
low_end g start least end is s l e = let t = is.term.greatest in let le : end ≤ max_position g = go start (least - g.term_length) end (max_position g) s (let z : least - g.term_length ≤ max_position g = omega arith in z) e in through end g.term_length le t
  where
    go : (a b c m : ℕ) → a ≤ m → b ≤ m → c ≡ max a b → c ≤ m
    go a b c m x y e = omega arith

    through : (e t : ℕ) → e ≤ t * 2147483648 → t ≤ 16777216 → e ≤ 2 ^ 56
    through e t le small = omega arith

pub all_done : (l : LogValue) (k k1 k2 k3 : KeeperValue) (least end : ℕ) → IsOf l k.held → Sweeps l k least k1 → CleansTo l.identity end k1 k2 → end ≡ max l.start (least - l.identity.geometry.term_length)
    → KeepsAs k2 (with_limit (raised k2.limit least l.identity.geometry.term_length) k2) k3 → SameFreed k2 k3 → TookSteps k2 (stored_once k2.limit k3.limit) k3 → CleansAndLimits l k k3
all_done l k k1 k2 k3 least end of s d end_is r freed took = record {
  once = reads3 ∙ s.once;
  all = ap length seen3 ∙ s.all;
  reads = λ j a. subst (λ (ps : List ℕ). ReadsConsumer k j (slice_index ps j)) (sym seen3) (s.reads j a);
  not_back = subst (λ (n : ℕ). k.cleaned ≤ n) (sym cleaned3) ahead;
  keeps = subst (λ (x : Keeping). KeepsAs k x k3) kept (keeps_then (keeps_then s.keeps d.keeps) r);
  frees = record {
    frames = d.frees.frames;
    follow = subst (λ (x : ℕ × ℕ). Follow l.identity x.0 d.frees.frames x.1) (λ j. (s.freed j, sym freed j)) d.frees.follow;
    low = subst (λ (n : ℕ). AllByRecursion (λ f. f.start < n) d.frees.frames) on d.frees.low;
    reached = λ lt. subst (λ (x : ℕ × ℕ). x.0 ≤ x.1) (λ j. (on j, sym freed j)) (d.frees.reached (subst (λ (x : ℕ × ℕ). x.0 < x.1) (λ j. (sym cleaned1 j, sym on j)) lt));
    same = λ e. d.frees.same (on ∙ e ∙ sym cleaned1);
  };
  steps = counts k3.held.steps k2.held.steps k1.held.steps k.held.steps (length (those_there k)) _ _ _ _ took d.steps s.steps (λ j. freeing_steps (cleaned1 j) (sym cleaned3 j) (length d.frees.frames)) (λ j. stored_once (limit2 j) k3.limit);
}
  where
    first : keeping_of k1 ≡ with_reads (seen_positions k1) (reads_of k1) k
    first = keeping_is s.keeps

    second : keeping_of k2 ≡ with_cleaned end k1
    second = keeping_is d.keeps

    third : keeping_of k3 ≡ with_limit (raised k2.limit least l.identity.geometry.term_length) k2
    third = keeping_is r

    seen3 : seen_positions k3 ≡ seen_positions k1
    seen3 = ap (λ (x : Keeping). x.positions) third ∙ ap (λ (x : Keeping). x.positions) second

    reads3 : reads_of k3 ≡ reads_of k1
    reads3 = ap (λ (x : Keeping). x.reads) third ∙ ap (λ (x : Keeping). x.reads) second

    limit2 : k2.limit ≡ k.limit
    limit2 = d.keeps.limit ∙ ap (λ (x : Keeping). x.limit) first ∙ s.is.limit_is

    cleaned1 : k1.cleaned ≡ k.cleaned
    cleaned1 = s.keeps.cleaned ∙ s.is.cleaned_is

    cleaned3 : k3.cleaned ≡ end
    cleaned3 = r.cleaned ∙ ap (λ (x : Keeping). x.cleaned) second

    on : k2.cleaned ≡ k3.cleaned
    on = d.keeps.cleaned ∙ sym cleaned3

    least3 : least ≡ least_there (there_of k) (seen_positions k3)
    least3 = s.least_is ∙ ap (least_there (there_of k)) (sym seen3)

    end3 : end ≡ max l.start (least_there (there_of k) (seen_positions k3) - l.identity.geometry.term_length)
    end3 = end_is ∙ ap (λ (n : ℕ). max l.start (n - l.identity.geometry.term_length)) least3

    ahead : k.cleaned ≤ end
    ahead = subst (λ (n : ℕ). n ≤ end) s.is.cleaned_is (subst (λ (n : ℕ). k.held.pass.keeping.cleaned ≤ n) ((λ j. max (of.start j) (least - (of.identity j).geometry.term_length)) ∙ sym end_is) s.stands.readable)

    kept : with_limit (raised k2.limit least l.identity.geometry.term_length) k2 ≡ record (keeping_of k) { limit = raised k.limit (least_there (there_of k) (seen_positions k3)) l.identity.geometry.term_length; cleaned = max l.start (least_there (there_of k) (seen_positions k3) - l.identity.geometry.term_length); positions = seen_positions k3; reads = reads_of k3 }
    kept =
        ap (λ (x : Keeping). record x { limit = raised k2.limit least l.identity.geometry.term_length }) second
        ∙ ap (λ (x : Keeping). record x { cleaned = end; limit = raised k2.limit least l.identity.geometry.term_length }) first
        ∙ (λ j. record (keeping_of k) { limit = raised (limit2 j) (least3 j) l.identity.geometry.term_length; cleaned = end3 j; positions = sym seen3 j; reads = sym reads3 j })

    counts : (s3 s2 s1 s a b c b' c' : ℕ) → s3 ≡ s2 + c → s2 ≡ s1 + b → s1 ≡ s + a → b ≡ b' → c ≡ c' → s3 ≡ s + (a + b' + c')
    counts s3 s2 s1 s a b c b' c' x y z e f = omega arith
