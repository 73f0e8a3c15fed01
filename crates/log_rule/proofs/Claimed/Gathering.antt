-- Passes that are gathered keep the rule, and one that has all parts has all that was claimed.
use Rattle.std.proofs.Common.{zero-le, ◌≡◌, ◌≢◌, ℕ, ◌+◌, ◌*◌, ◌%◌, ◌<◌, ◌≤◌, List, ◌++◌, map, set, sym, refl, ap, ◌∙◌, subst, ⊎_elim, suc-ne-zero, arith}
use mathlib.Core.Option.{some}
use lib.ListN.{get_elem?}
use Rattle.std.specs.List.{AllByRecursion}
use Rattle.atomic_table.proofs.Lists.{at_set, set_else}
use Rattle.theory.specs.Entry.{Entry, length_of}
use Rattle.theory.proofs.Lists.{all_append, all_behind, all_front}
use Rattle.publication.specs.declared.pass.FrameWords.{FrameWords}
use Rattle.publication.specs.declared.pass.Pass.{Pass}
use Rattle.publication.specs.Steps.{Extent, extent_of, ranges_of}
use Rattle.log_rule.specs.Claims.Sums.{total}
use Rattle.log_rule.specs.Claims.Terms.{claimed_to}
use Rattle.log_rule.specs.Claims.Rule.{Bounds, IsClaimEntry, Knows, armed_of, armed_on, entries_of, entry_of, parts_of, shape_of, size_of, weight}
use Rattle.log_rule.specs.Claims.Memory.{IsAligned, IsCommittedFrame, IsOpen, Ruled, StandsInTable, Stored}
use Rattle.log_rule.specs.Claims.Plays.{newcomer}
use Rattle.log_rule.specs.Claims.Closing.{both}
use Rattle.log_rule.proofs.Claimed.Totals.{total_append, total_flat, total_set}
use Rattle.log_rule.proofs.Claimed.Accounts.{none_armed}
use Rattle.log_rule.proofs.Claimed.Memories.{maps_append}

-- ---- sums

join_total : (f : Pass → ℕ) (ps : List Pass) (i j : ℕ) (v w l r : Pass) → get_elem? ps i ≡ some v → get_elem? (set ps i l) j ≡ some w → f l + f r ≡ f v + f w → total f (set (set ps i l) j r) ≡ total f ps
join_total f ps i j v w l r at at' e = let a = total_set f ps i v l at in let c = total_set f (set ps i l) j w r at' in omega arith

all_cross : {A : Type 0} (P : A → Type 0) (fs gs ds es : List A) → AllByRecursion P (fs ++ ds) → AllByRecursion P (gs ++ es) → AllByRecursion P ((fs ++ gs) ++ (ds ++ es))
all_cross P fs gs ds es a c = all_append P (fs ++ gs) (ds ++ es) (all_append P fs gs (all_front P fs ds a) (all_front P gs es c)) (all_append P ds es (all_behind P fs ds a) (all_behind P gs es c))

sum_cross : (h : Extent → ℕ) (fs gs ds es : List FrameWords) → total h (map extent_of ((fs ++ gs) ++ (ds ++ es))) ≡ total h (map extent_of (fs ++ ds)) + total h (map extent_of (gs ++ es))
sum_cross h fs gs ds es =
    let two : (xs ys : List FrameWords) → total h (map extent_of (xs ++ ys)) ≡ total h (map extent_of xs) + total h (map extent_of ys) = λ xs ys. ap (total h) (maps_append extent_of xs ys) ∙ total_append h (map extent_of xs) (map extent_of ys) in
    let a = two (fs ++ gs) (ds ++ es) in let b = two fs gs in let c = two ds es in let d = two fs ds in let e = two gs es in omega arith

-- ---- a join

pub joined : (b : Bounds) (ws : List ℕ) (ps : List Pass) → Ruled b ws ps → (i j : ℕ) (v w : Pass) → get_elem? ps i ≡ some v → (j ≡ i → ⊥) → get_elem? (set ps i (both v w)) j ≡ some w → v.right.armed ≡ 0 → w.right.armed ≡ 0 → 0 < v.right.parts → Ruled b ws (set (set ps i (both v w)) j (newcomer b.identity b.start 0 0))
joined b ws ps r i j v w at ne at' off off' able =
    let l : Pass = both v w in let q : Pass = newcomer b.identity b.start 0 0 in let ps' : List Pass = set (set ps i l) j q in let t = r.claims.terms in let k = r.claims.each i v at in let m = r.memory.each i v at in
    let was : get_elem? ps j ≡ some w = sym (set_else ps i j l ne) ∙ at' in let k' = r.claims.each j w was in let m' = r.memory.each j w was in
    let from = r.claims.tailed.turns.from in
    let entries : entries_of l ≡ entries_of v ++ entries_of w = maps_append entry_of v.right.claims w.right.claims in
    let weighs : (h : Entry → ℕ) → total (weight h) ps' ≡ total (weight h) ps = λ h. join_total (weight h) ps i j v w l q at at' (plus_none (weight h l) (weight h v + weight h w) (ap (total h) entries ∙ total_append h (entries_of v) (entries_of w))) in
    let keeps : Knows b t l = record { identity = k.identity; start = k.start; number = k.number; right = record { capped = k.right.capped; able = omega arith; once = k.right.once; idle = λ z. absurd (omega arith) }; entries = subst (AllByRecursion IsClaimEntry) (sym entries) (all_append IsClaimEntry (entries_of v) (entries_of w) k.entries k'.entries); seen = k.seen } in
    let gets : Knows b t q = record { identity = refl; start = refl; number = omega arith; right = record { capped = omega arith; able = omega arith; once = omega arith; idle = λ z. refl }; entries = tt; seen = record { count = (omega arith, from); term = (omega arith, from); full = λ n e. absurd (suc-ne-zero n (sym e)); begun = from; shown = zero-le } } in
    let has : Stored b ws l = record {
      stands = all_cross (StandsInTable b ws) v.work.frames w.work.frames v.work.drafts w.work.drafts m.stands m'.stands;
      placed = λ h. total_flat h ranges_of (v.right.claims ++ w.right.claims) ∙ total_append (λ c. total h (ranges_of c)) v.right.claims w.right.claims ∙ (λ x. sym (total_flat h ranges_of v.right.claims) x + sym (total_flat h ranges_of w.right.claims) x) ∙ (λ x. m.placed h x + m'.placed h x) ∙ sym (sum_cross h v.work.frames w.work.frames v.work.drafts w.work.drafts);
      aligned = all_cross IsAligned v.work.frames w.work.frames v.work.drafts w.work.drafts m.aligned m'.aligned;
      done = all_append (IsCommittedFrame b.identity) v.work.frames w.work.frames m.done m'.done;
      undone = all_append IsOpen v.work.drafts w.work.drafts m.undone m'.undone;
      kept = all_append (λ f. b.cleaned ≤ f.start) v.work.drafts w.work.drafts m.kept m'.kept;
    } in
    let none : Stored b ws q = record { stands = tt; placed = λ h. refl; aligned = tt; done = tt; undone = tt; kept = tt } in
    let each : (P : Pass → Type 0) → P l → P q → ((x : ℕ) (u : Pass) → get_elem? ps x ≡ some u → P u) → (x : ℕ) (u : Pass) → get_elem? ps' x ≡ some u → P u = λ P pl pq pe x u e. ⊎_elim
    (λ (y : (x ≡ j) × (q ≡ u)). subst P y.1 pq)
    (λ (y : (x ≢ j) × (get_elem? (set ps i l) x ≡ some u)). ⊎_elim (λ (z : (x ≡ i) × (l ≡ u)). subst P z.1 pl) (λ (z : (x ≢ i) × (get_elem? ps x ≡ some u)). pe x u z.1) (at_set ps i x l u y.1))
    (at_set (set ps i l) j x q u e) in record {
      claims = record {
        sound = r.claims.sound;
        wide = r.claims.wide;
        limit = r.claims.limit;
        terms = t;
        tailed = r.claims.tailed;
        log = r.claims.log;
        tiles = r.claims.tiles;
        fair = λ h. weighs h ∙ r.claims.fair h;
        reached = r.claims.reached;
        parted = join_total parts_of ps i j v w l q at at' (plus_none (v.right.parts + w.right.parts) (v.right.parts + w.right.parts) refl) ∙ r.claims.parted;
        over = λ n x y. subst (λ (z : ℕ). t.offset n + b.greatest * z < size_of b + b.greatest * 8)
            (sym (join_total (armed_on (n % 3)) ps i j v w l q at at' (let a = none_armed (n % 3) l off in let c = none_armed (n % 3) q refl in let d = none_armed (n % 3) v off in let e = none_armed (n % 3) w off' in let z : armed_on (n % 3) l + armed_on (n % 3) q ≡ armed_on (n % 3) v + armed_on (n % 3) w = omega arith in z))) (r.claims.over n x y);
        room = subst (λ (z : ℕ). claimed_to (shape_of b) t + b.greatest * z ≤ b.limit + b.greatest * 8) (sym (join_total armed_of ps i j v w l q at at' (let z : v.right.armed + 0 ≡ v.right.armed + w.right.armed = omega arith in z))) r.claims.room;
        each = each (Knows b t) keeps gets r.claims.each;
      };
      memory = record {
        cleaned = r.memory.cleaned;
        held = r.memory.held;
        zeros = λ x unit above below. r.memory.zeros x unit (subst (λ (z : ℕ). b.start + z ≤ x) (weighs length_of) above) below;
        each = each (Stored b ws) has none r.memory.each;
      };
    }
  where
    plus_none : (n m : ℕ) → n ≡ m → n + 0 ≡ m
    plus_none n m e = omega arith
