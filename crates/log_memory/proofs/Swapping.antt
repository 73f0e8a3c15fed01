-- A pass goes to another seat: to a new one, and back to one that has nothing.
use Rattle.std.proofs.Common.{zero-le, ◌≡◌, ◌≢◌, ℕ, ◌+◌, ◌*◌, ◌/◌, ◌%◌, ◌<◌, ◌≤◌, List, [], ◌∷◌, ◌++◌, map, set, sym, refl, ap, ◌∙◌, subst, ⊎_elim, suc-ne-zero, arith}
use mathlib.Core.Option.{some}
use lib.ListN.{get_elem?}
use Rattle.std.specs.Prelude.{slice_index}
use Rattle.std.proofs.lemmas.List.{map-set}
use Rattle.atomic_table.specs.Table.{Joins, Splits, State}
use Rattle.atomic_table.proofs.Lists.{at_map, at_set, set_else}
use Rattle.theory.specs.Entry.{length_of}
use Rattle.publication.specs.declared.pass.Pass.{Pass}
use Rattle.log_rule.specs.declared.claims.view.View.{View}
use Rattle.log_rule.specs.declared.rule.Key.{Key}
use Rattle.log_rule.specs.Claims.Closing.{spent_seat}
use Rattle.log_rule.specs.Claims.Events.{committed_weight}
use Rattle.log_rule.specs.Claims.Memory.{Ruled, Stored}
use Rattle.log_rule.specs.Claims.Packs.{limit_place}
use Rattle.log_rule.specs.Claims.Plays.{newcomer, pass_in}
use Rattle.log_rule.specs.Claims.Rule.{Bounds, Knows, armed_of, armed_on, parts_of, shape_of, size_of, weight}
use Rattle.log_rule.specs.Claims.Sums.{total}
use Rattle.log_rule.specs.Claims.Terms.{claimed_to}
use Rattle.log_rule.specs.Kept.{Kept, keepers_of, readers_of}
use Rattle.log_rule.specs.Numbers.{AreNumbered, numbers_as}
use Rattle.log_rule.specs.Table.{new_seat, now_at}
use Rattle.log_memory.specs.Lifted.{lifted_left, lifted_right}
use Rattle.log_rule.specs.Table.{LogRuled}
use Rattle.log_memory.specs.Lifted.{lowered}
use Rattle.log_rule.proofs.Claimed.Accounts.{none_armed}
use Rattle.log_rule.proofs.Claimed.Begun.{split_ruled}
use Rattle.log_rule.proofs.Claimed.Sures.{sure_join, unsure}
use Rattle.log_rule.proofs.Claimed.Totals.{total_set}
use Rattle.log_rule.proofs.Dealing.{cut, kept_split, none_kept}
use Rattle.log_rule.proofs.Gathering.{kept_join}
use Rattle.log_rule.proofs.Owning.{numbered_join, numbered_split, owns_none}

none_first : (n : ℕ) → 0 + n ≡ n
none_first n = omega arith

here : (id : ℕ) (v : View) (s : State (Unit {0}) View) → get_elem? s.views id ≡ some v → get_elem? (map pass_in s.views) id ≡ some v.pass
here id v s at = at_map pass_in s.views id v at

-- ---- to a new one

pub lifts : (key : Key) (id : ℕ) (v : View) → Splits (LogRuled key) id v (lifted_left v) (lifted_right v)
lifts key id v s r at =
    let ps : List Pass = map pass_in s.views in let bs : Bounds = now_at key (slice_index s.words limit_place) r.cleaned in let h = here id v s at in let a = r.kept.each id v.pass (here id v s at) in
    let c = r.ruled.claims.each id v.pass h in let m = r.ruled.memory.each id v.pass h in let from = r.ruled.claims.tailed.turns.from in let l : Pass = newcomer v.pass.identity v.pass.start 0 0 in
    let ruled : Ruled bs s.words (set ps id l ++ v.pass ∷ []) =
    split_ruled bs s.words ps r.ruled id v.pass l v.pass h (λ f. none_first (weight f v.pass)) (none_first v.pass.right.parts) (none_first v.pass.right.armed)
    (λ j. let d = none_armed j l refl in none (armed_on j v.pass) (armed_on j l) d)
    (subst (λ (x : Pass). Knows bs r.ruled.claims.terms x) (λ i. newcomer (sym c.identity i) (sym c.start i) 0 0)
    record { identity = refl; start = refl; number = omega arith; right = record { capped = omega arith; able = omega arith; once = omega arith; idle = λ z. refl }; entries = tt; seen = record { count = (omega arith, from); term = (omega arith, from); full = λ i e. absurd (suc-ne-zero i (sym e)); begun = from; shown = zero-le } })
    c
    record { stands = tt; placed = λ h. refl; aligned = tt; done = tt; undone = tt; kept = tt } m in
    cut key id v s r at (lifted_left v) (lifted_right v) ruled
    (kept_split bs r.there s.words ps r.ruled r.kept id v.pass l v.pass h ruled (λ f. none_first (weight f v.pass)) (λ f. none_first (committed_weight f v.pass)) (λ j lt. none_first (readers_of j v.pass)) (none_first (keepers_of v.pass))
    record { readings = tt; keeping = none_kept bs r.there s.words ps } a)
    (unsure s.words (lifted_left v) refl) refl
    (numbered_split ps id v.pass l v.pass h (λ n. none_first (numbers_as n v.pass)) (owns_none l refl refl) (r.numbered.each id v.pass h) r.numbered)
  where
    none : (a c : ℕ) → c ≡ 0 → c + a ≡ a
    none a c e = omega arith

-- ---- to one that has nothing

swap_total : (f : Pass → ℕ) (ps : List Pass) (i j : ℕ) (v w : Pass) → get_elem? ps i ≡ some v → get_elem? (set ps i w) j ≡ some w → total f (set (set ps i w) j v) ≡ total f ps
swap_total f ps i j v w at at' = let a = total_set f ps i v w at in let c = total_set f (set ps i w) j w v at' in omega arith

swapped : (b : Bounds) (ws : List ℕ) (ps : List Pass) → Ruled b ws ps → (i j : ℕ) (v w : Pass) → get_elem? ps i ≡ some v → (j ≡ i → ⊥) → get_elem? (set ps i w) j ≡ some w → Ruled b ws (set (set ps i w) j v)
swapped b ws ps r i j v w at ne at' =
    let ps' : List Pass = set (set ps i w) j v in let t = r.claims.terms in let was : get_elem? ps j ≡ some w = sym (set_else ps i j w ne) ∙ at' in
    let same : (f : Pass → ℕ) → total f ps' ≡ total f ps = λ f. swap_total f ps i j v w at at' in
    let each : (P : Pass → Type 0) → ((x : ℕ) (u : Pass) → get_elem? ps x ≡ some u → P u) → (x : ℕ) (u : Pass) → get_elem? ps' x ≡ some u → P u = λ P pe x u e. ⊎_elim
    (λ (y : (x ≡ j) × (v ≡ u)). subst P y.1 (pe i v at))
    (λ (y : (x ≢ j) × (get_elem? (set ps i w) x ≡ some u)). ⊎_elim (λ (z : (x ≡ i) × (w ≡ u)). subst P z.1 (pe j w was)) (λ (z : (x ≢ i) × (get_elem? ps x ≡ some u)). pe x u z.1) (at_set ps i x w u y.1))
    (at_set (set ps i w) j x v u e) in record {
      claims = record {
        sound = r.claims.sound;
        wide = r.claims.wide;
        limit = r.claims.limit;
        terms = t;
        tailed = r.claims.tailed;
        log = r.claims.log;
        tiles = r.claims.tiles;
        fair = λ h. same (weight h) ∙ r.claims.fair h;
        reached = r.claims.reached;
        parted = same parts_of ∙ r.claims.parted;
        over = λ n x y. subst (λ (z : ℕ). t.offset n + b.greatest * z < size_of b + b.greatest * 8) (sym (same (armed_on (n % 3)))) (r.claims.over n x y);
        room = subst (λ (z : ℕ). claimed_to (shape_of b) t + b.greatest * z ≤ b.limit + b.greatest * 8) (sym (same armed_of)) r.claims.room;
        each = each (Knows b t) r.claims.each;
      };
      memory = record {
        cleaned = r.memory.cleaned;
        held = r.memory.held;
        zeros = λ x unit above below. r.memory.zeros x unit (subst (λ (z : ℕ). b.start + z ≤ x) (same (weight length_of)) above) below;
        each = each (Stored b ws) r.memory.each;
      };
    }

pub lowers : (key : Key) (id other : ℕ) (v w : View) → v.pass ≡ newcomer key.identity key.start 0 0 → Joins (LogRuled key) id v other w (lowered v w) (spent_seat key.identity key.start)
lowers key id other v w none s r at ne at' =
    let ps : List Pass = map pass_in s.views in let bs : Bounds = now_at key (slice_index s.words limit_place) r.cleaned in let h = here id v s at in let l : View = lowered v w in let q : View = spent_seat key.identity key.start in
    let was : get_elem? s.views other ≡ some w = sym (set_else s.views id other l ne) ∙ at' in let h' = at_map pass_in s.views other w was in
    let there : get_elem? (set ps id w.pass) other ≡ some w.pass = set_else ps id other w.pass ne ∙ h' in
    let ruled1 = swapped bs s.words ps r.ruled id other v.pass w.pass h ne there in
    let kept1 : Kept bs r.there s.words (set (set ps id w.pass) other v.pass) = kept_join bs r.there s.words ps r.ruled r.kept id other v.pass w.pass w.pass v.pass h there ruled1 (λ f. both (weight f v.pass) (weight f w.pass)) (λ f. both (committed_weight f v.pass) (committed_weight f w.pass))
    (λ m. no_more (readers_of m v.pass) (readers_of m w.pass)) (no_more (keepers_of v.pass) (keepers_of w.pass)) (r.kept.each other w.pass h') (r.kept.each id v.pass h) in
    let numbered1 : AreNumbered (set (set ps id w.pass) other v.pass) = numbered_join ps id other v.pass w.pass w.pass v.pass h there (λ n. both (numbers_as n v.pass) (numbers_as n w.pass)) (r.numbered.each other w.pass h') (r.numbered.each id v.pass h) r.numbered in
    let is : map pass_in (set (set s.views id l) other q) ≡ set (set ps id w.pass) other v.pass = map-set pass_in (set s.views id l) other q ∙ (λ i. set (map-set pass_in s.views id l i) other (sym none i)) in record {
      cleaned = r.cleaned;
      there = r.there;
      ruled = subst (Ruled bs s.words) (sym is) ruled1;
      kept = subst (Kept bs r.there s.words) (sym is) kept1;
      sure = sure_join s.words s.views r.sure id other l q (unsure s.words l refl) (unsure s.words q refl);
      numbered = subst AreNumbered (sym is) numbered1;
    }
  where
    both : (a c : ℕ) → c + a ≡ a + c
    both a c = omega arith

    no_more : (n m : ℕ) → m + n ≤ n + m
    no_more n m = omega arith
