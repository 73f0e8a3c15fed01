-- What a publisher claimed goes to another's number: the rule is kept, with the same stream but for the owners.
use Rattle.std.proofs.Common.{◌≡◌, ◌≢◌, inl, inr, ℕ, zero, suc, ◌+◌, ◌-◌, ◌<◌, ◌≤◌, eqb, cond, min, Bool, true, false, List, [], ◌∷◌, ◌++◌, map, set, sym, refl, ap, ◌∙◌, subst, ⊎_elim, eq-eqb, ne_eqb, arith}
use mathlib.Core.Option.{some}
use lib.ListN.{get_elem?}
use Rattle.std.specs.Prelude.{slice_index}
use Rattle.std.specs.List.{AllByRecursion, flat_map}
use Rattle.std.proofs.lemmas.List.{map-set}
use Rattle.atomic_table.specs.Table.{Joins, State}
use Rattle.atomic_table.proofs.Lists.{at_map, at_set, set_else}
use Rattle.theory.specs.Entry.{Entry, length_of}
use Rattle.theory.specs.Placed.{Among}
use Rattle.theory.specs.Position.{span}
use Rattle.theory.specs.Tiling.{Tiles}
use Rattle.theory.proofs.Lists.{all_at}
use Rattle.theory.proofs.Tiling.{Tiles-map}
use Rattle.publication.specs.declared.pass.ClaimRange.{ClaimRange}
use Rattle.publication.specs.declared.pass.FrameWords.{FrameWords}
use Rattle.publication.specs.declared.pass.Pass.{Pass}
use Rattle.publication.specs.Steps.{Extent, extent_of, ranges_of}
use Rattle.log_rule.specs.declared.claims.view.View.{View}
use Rattle.log_rule.specs.declared.rule.Key.{Key}
use Rattle.log_rule.specs.Claims.Packs.{limit_place}
use Rattle.log_rule.specs.Claims.Sums.{covers, total}
use Rattle.log_rule.specs.Claims.Terms.{Terms, claimed_to}
use Rattle.log_rule.specs.Claims.Rule.{Bounds, IsClaimEntry, Knows, entry_of, shape_of, size_of, weight}
use Rattle.log_rule.specs.Claims.Memory.{Ruled, Stored, tail_of}
use Rattle.log_rule.specs.Claims.Events.{committed_weight}
use Rattle.log_rule.specs.Claims.Sure.{AreSure, IsSure}
use Rattle.log_rule.specs.Claims.Plays.{newcomer, pass_in}
use Rattle.log_rule.specs.Claims.Closing.{handing_seats, owned_by, renamed, spent_seat}
use Rattle.log_rule.specs.Edges.{begins_at, begins_below, claimed_sum, in_entry}
use Rattle.log_rule.specs.Kept.{Kept}
use Rattle.log_rule.specs.Numbers.{AreNumbered, is_number, numbers_as}
use Rattle.log_rule.specs.Table.{LogRuled, now_at}
use Rattle.log_rule.proofs.Claimed.Accounts.{moved, same_over, same_room, unchanged}
use Rattle.log_rule.proofs.Claimed.Memories.{cover_passes, held_by}
use Rattle.log_rule.proofs.Claimed.Totals.{both_at, total_append, total_map, total_set}
use Rattle.log_rule.proofs.Claimed.Whole.{set_at}
use Rattle.log_rule.proofs.Consumers.{spared_same}
use Rattle.log_rule.proofs.Gathering.{Rest, gathered}
use Rattle.log_rule.proofs.Owning.{numbered_join, owns_handed, owns_none}
use Rattle.log_rule.proofs.Growing.{Grows, kept_on, same_sum}
use Rattle.log_rule.proofs.Known.{among_total}

-- ---- entries of the stream, with the owner of some changed

starts_in : ℕ → List ClaimRange → Bool
starts_in p [] = false
starts_in p (c ∷ cs) = cond (eqb c.start p) true (starts_in p cs)

starts_here : (cs : List ClaimRange) (c : ClaimRange) → Among c cs → starts_in c.start cs ≡ true
unfolding starts_in
starts_here [] c a = absurd a
starts_here (d ∷ ds) c (inl e) = ap (λ (b : Bool). cond b true (starts_in c.start ds)) (eq-eqb d.start c.start (sym (ap (λ (x : ClaimRange). x.start) e)))
starts_here (d ∷ ds) c (inr a) = go (eqb d.start c.start) (starts_here ds c a)
  where
    go : (b : Bool) → starts_in c.start ds ≡ true → cond b true (starts_in c.start ds) ≡ true
    go true e = refl
    go false e = e

starts_none : (p : ℕ) (cs : List ClaimRange) → ((c : ClaimRange) → Among c cs → c.start ≡ p → ⊥) → starts_in p cs ≡ false
unfolding starts_in
starts_none p [] none = refl
starts_none p (c ∷ cs) none = ap (λ (b : Bool). cond b true (starts_in p cs)) (ne_eqb c.start p (none c (inl refl))) ∙ starts_none p cs (λ d a. none d (inr a))

-- those that begin where one of the claims does are the publisher's
abbrev taking : ℕ → List ClaimRange → Entry → Entry
taking n cs e = record e { owner = cond (starts_in e.start cs) n e.owner }

total_among : {A : Type 0} (f g : A → ℕ) (xs : List A) → ((x : A) → Among x xs → f x ≡ g x) → total f xs ≡ total g xs
total_among f g [] e = refl
total_among f g (x ∷ xs) e = λ i. e x (inl refl) i + total_among f g xs (λ y a. e y (inr a)) i

total_equal : {A : Type 0} (f g : A → ℕ) (xs : List A) → ((i : ℕ) (x : A) → get_elem? xs i ≡ some x → f x ≡ g x) → total f xs ≡ total g xs
total_equal f g [] e = refl
total_equal f g (x ∷ xs) e = λ k. e 0 x refl k + total_equal f g xs (λ i. e (suc i)) k

-- ---- the pass with its claims under another number

renamed_weight : (n : ℕ) (h : Entry → ℕ) (v : Pass) → weight h (renamed n v) ≡ total (λ (c : ClaimRange). h (entry_of (owned_by n c))) v.right.claims
renamed_weight n h v = total_map h entry_of (map (owned_by n) v.right.claims) ∙ total_map (λ (c : ClaimRange). h (entry_of c)) (owned_by n) v.right.claims

-- what doesn't go by the owner is the same
same_weight : (n : ℕ) (h : Entry → ℕ) (v : Pass) → ((c : ClaimRange) → h (entry_of (owned_by n c)) ≡ h (entry_of c)) → weight h (renamed n v) ≡ weight h v
same_weight n h v free = renamed_weight n h v ∙ total_among (λ (c : ClaimRange). h (entry_of (owned_by n c))) (λ (c : ClaimRange). h (entry_of c)) v.right.claims (λ c a. free c) ∙ sym (total_map h entry_of v.right.claims)

renamed_entries : (n : ℕ) → n < 8 → (cs : List ClaimRange) → AllByRecursion IsClaimEntry (map entry_of cs) → AllByRecursion IsClaimEntry (map entry_of (map (owned_by n) cs))
renamed_entries n low [] a = tt
renamed_entries n low (c ∷ cs) a = (record { entry = record { owner = low; cuts = a.0.entry.cuts; long = a.0.entry.long; frames = a.0.entry.frames }; unit = a.0.unit }, renamed_entries n low cs a.1)

renamed_ranges : (n : ℕ) (cs : List ClaimRange) → flat_map ranges_of (map (owned_by n) cs) ≡ flat_map ranges_of cs
renamed_ranges n [] = refl
renamed_ranges n (c ∷ cs) = ap (λ (rs : List Extent). ranges_of c ++ rs) (renamed_ranges n cs)

long_claims : (cs : List ClaimRange) → AllByRecursion IsClaimEntry (map entry_of cs) → AllByRecursion (λ (c : ClaimRange). 0 < span c.cuts) cs
long_claims [] a = tt
long_claims (c ∷ cs) a = (a.0.entry.long, long_claims cs a.1)

module _ (b : Bounds) (ws : List ℕ) (ps : List Pass) (r : Ruled b ws ps) (j : ℕ) (w : Pass) (at : get_elem? ps j ≡ some w) (n : ℕ) (low : n < 8) where
  -- no other pass has a claim that begins where one of this one does
  others_apart : (i : ℕ) (u : Pass) → i ≢ j → get_elem? ps i ≡ some u → (d : ClaimRange) → Among d u.right.claims → (c : ClaimRange) → Among c w.right.claims → c.start ≡ d.start → ⊥
  others_apart i u ne at_u d in_u c in_w same =
      let x : ℕ = d.start in let cover : ClaimRange → ℕ = λ e. covers x e.start (span e.cuts) in
      let long_d = all_at (λ (e : ClaimRange). 0 < span e.cuts) d u.right.claims (long_claims u.right.claims (r.claims.each i u at_u).entries) in_u in let long_c = all_at (λ (e : ClaimRange). 0 < span e.cuts) c w.right.claims (long_claims w.right.claims (r.claims.each j w at).entries) in_w in
      let first = among_total cover w.right.claims c in_w in let second = among_total cover u.right.claims d in_u in
      let held_w = total_map (λ (e : Entry). covers x e.start (length_of e)) entry_of w.right.claims in let held_u = total_map (λ (e : Entry). covers x e.start (length_of e)) entry_of u.right.claims in
      twice x c.start (span c.cuts) (span d.cuts) (total cover w.right.claims) (total cover u.right.claims) (held_by x w) (held_by x u) (total (held_by x) ps) (min (x + 1 - b.start) (tail_of b ps - x)) same long_c long_d first second held_w held_u (both_at (held_by x) ps j i w u ne at at_u) (cover_passes b ws ps r.claims x)
    where
      twice : (x s m k f g hw hu t q : ℕ) → s ≡ x → 0 < m → 0 < k → covers x s m ≤ f → covers x x k ≤ g → hw ≡ f → hu ≡ g → hw + hu ≤ t → t ≡ min 1 q → ⊥
      twice x s m k f g hw hu t q e lm lk a c ew eu both one = omega arith

  other_weight : (h : Entry → ℕ) (i : ℕ) (u : Pass) → i ≢ j → get_elem? ps i ≡ some u → weight (λ e. h (taking n w.right.claims e)) u ≡ weight h u
  other_weight h i u ne at_u =
      total_map (λ (e : Entry). h (taking n w.right.claims e)) entry_of u.right.claims
      ∙ total_among (λ (c : ClaimRange). h (taking n w.right.claims (entry_of c))) (λ (c : ClaimRange). h (entry_of c)) u.right.claims
      (λ d in_u. ap (λ (k : Bool). h (record (entry_of d) { owner = cond k n d.owner })) (starts_none d.start w.right.claims (λ c in_w same. others_apart i u ne at_u d in_u c in_w same)))
      ∙ sym (total_map h entry_of u.right.claims)

  own_weight : (h : Entry → ℕ) → weight (λ e. h (taking n w.right.claims e)) w ≡ weight h (renamed n w)
  own_weight h =
      total_map (λ (e : Entry). h (taking n w.right.claims e)) entry_of w.right.claims
      ∙ total_among (λ (c : ClaimRange). h (taking n w.right.claims (entry_of c))) (λ (c : ClaimRange). h (entry_of (owned_by n c))) w.right.claims (λ c in_w. ap (λ (k : Bool). h (record (entry_of c) { owner = cond k n c.owner })) (starts_here w.right.claims c in_w))
      ∙ sym (renamed_weight n h w)

  fair : (h : Entry → ℕ) → weight h (renamed n w) + total h r.claims.log ≡ weight h w + total h (map (taking n w.right.claims) r.claims.log)
  fair h =
      let H : Entry → ℕ = λ e. h (taking n w.right.claims e) in let none : Pass = newcomer b.identity b.start 0 0 in
      let a = total_set (weight h) ps j w none at in let c = total_set (weight H) ps j w none at in
      let same : total (weight H) (set ps j none) ≡ total (weight h) (set ps j none) = total_equal (weight H) (weight h) (set ps j none) (λ i u e. ⊎_elim
      (λ (y : (i ≡ j) × (none ≡ u)). subst (λ (x : Pass). weight H x ≡ weight h x) y.1 refl)
      (λ (y : (i ≢ j) × (get_elem? ps i ≡ some u)). other_weight h i u y.0 y.1)
      (at_set ps j i none u e)) in
      sums (weight h (renamed n w)) (total h r.claims.log) (weight h w) (total h (map (taking n w.right.claims) r.claims.log)) (total (weight h) ps) (total (weight H) ps) (total (weight h) (set ps j none)) (total (weight H) (set ps j none)) (weight H w) (total H r.claims.log)
      a c same (own_weight h) (r.claims.fair h) (r.claims.fair H) (total_map h (taking n w.right.claims) r.claims.log)
    where
      sums : (w' log v log' p q ps qs hw hl : ℕ) → ps + v ≡ p + 0 → qs + hw ≡ q + 0 → qs ≡ ps → hw ≡ w' → p ≡ log → q ≡ hl → log' ≡ hl → w' + log ≡ v + log'
      sums w' log v log' p q ps qs hw hl a c e f g k l = omega arith

  renamed_stored : Stored b ws w → Stored b ws (renamed n w)
  renamed_stored k = record { stands = k.stands; placed = λ h. ap (total h) (renamed_ranges n w.right.claims) ∙ k.placed h; aligned = k.aligned; done = k.done; undone = k.undone; kept = k.kept }

  pub renamed_ruled : Ruled b ws (set ps j (renamed n w))
  renamed_ruled =
      let t : Terms = r.claims.terms in let k = r.claims.each j w at in let x : Pass = renamed n w in
      let mine : Knows b t x = record {
        identity = k.identity;
        start = k.start;
        number = k.number;
        right = record { capped = k.right.capped; able = k.right.able; once = k.right.once; idle = λ z. ap (map (owned_by n)) (k.right.idle z) };
        entries = renamed_entries n low w.right.claims k.entries;
        seen = k.seen;
      } in
      let tiles : Tiles (size_of b) b.start (claimed_to (shape_of b) t) (map (taking n w.right.claims) r.claims.log) = Tiles-map (taking n w.right.claims) (λ e. refl) (λ e. refl) (size_of b) b.start (claimed_to (shape_of b) t) r.claims.log r.claims.tiles in
      let same : total (weight length_of) (set ps j x) ≡ total (weight length_of) ps = same_sum (weight length_of) ps j w x at (same_weight n length_of w (λ c. refl)) in record {
        claims = moved b ws ps r.claims j w x ws (map (taking n w.right.claims) r.claims.log) t at (unchanged (shape_of b) t) r.claims.tailed mine refl refl refl (same_over b ws ps r.claims j w x at refl refl) tiles fair (same_room b ws ps r.claims j w x at refl) r.claims.reached;
        memory = record {
          cleaned = r.memory.cleaned;
          held = r.memory.held;
          zeros = λ y unit above below. r.memory.zeros y unit (subst (λ (z : ℕ). b.start + z ≤ y) same above) below;
          each = λ i u e. ⊎_elim
              (λ (y : (i ≡ j) × (x ≡ u)). subst (Stored b ws) y.1 (renamed_stored (r.memory.each j w at)))
              (λ (y : (i ≢ j) × (get_elem? ps i ≡ some u)). r.memory.each i u y.1)
              (at_set ps j i x u e);
        };
      }

  -- edges and committed frames are where they were
  renamed_grows : Grows b ps (set ps j (renamed n w))
  renamed_grows =
      let x : Pass = renamed n w in let sum : (h : Extent → ℕ) → claimed_sum h (set ps j x) ≡ claimed_sum h ps = λ h. same_sum (weight (in_entry h)) ps j w x at (same_weight n (in_entry h) w (λ c. refl)) in
      let frames : (h : FrameWords → ℕ) → total (committed_weight h) (set ps j x) ≡ total (committed_weight h) ps = λ h. same_sum (committed_weight h) ps j w x at refl in
      let ends : tail_of b (set ps j x) ≡ tail_of b ps = ap (λ (m : ℕ). b.start + m) (same_sum (weight length_of) ps j w x at (same_weight n length_of w (λ c. refl))) in record {
        edge = λ p e. ⊎_elim (λ (t : p ≡ tail_of b ps). inl (t ∙ sym ends)) (λ (pos : 0 < claimed_sum (begins_at p) ps). inr (subst (λ (m : ℕ). 0 < m) (sym (sum (begins_at p))) pos)) e;
        passed = λ p e same. sum (begins_below p) ∙ same ∙ sym (frames (λ f. begins_below p (extent_of f)));
        among = λ f a h. subst (λ (m : ℕ). h f ≤ m) (sym (frames h)) (a h);
      }

-- ---- a seat's claims go to another number

abbrev under : ℕ → View → View
under n w = record w { pass = renamed n w.pass }

sure_under : (ws : List ℕ) (vs : List View) (j n : ℕ) (w : View) → get_elem? vs j ≡ some w → AreSure ws vs → AreSure ws (set vs j (under n w))
sure_under ws vs j n w at a = record {
  each = λ i u e. ⊎_elim
      (λ (y : (i ≡ j) × (under n w ≡ u)). subst (IsSure ws) y.1 (let k = a.each j w at in record { whole = k.whole; exact = k.exact }))
      (λ (y : (i ≢ j) × (get_elem? vs i ≡ some u)). a.each i u y.1)
      (at_set vs j i (under n w) u e);
}

named : (key : Key) (s : State (Unit {0}) View) → LogRuled key s → (j n : ℕ) (w : View) → n < 8 → get_elem? s.views j ≡ some w → Rest key record { words = s.words; homes = s.homes; views = set s.views j (under n w) }
named key s q j n w low at =
    let ps : List Pass = map pass_in s.views in let b : Bounds = now_at key (slice_index s.words limit_place) q.cleaned in let here = at_map pass_in s.views j w at in
    let is : map pass_in (set s.views j (under n w)) ≡ set ps j (renamed n w.pass) = map-set pass_in s.views j (under n w) in record {
      cleaned = q.cleaned;
      there = q.there;
      ruled = subst (Ruled b s.words) (sym is) (renamed_ruled b s.words ps q.ruled j w.pass here n low);
      kept = subst (Kept b q.there s.words) (sym is) (kept_on b q.there s.words s.words ps j w.pass (renamed n w.pass) here record { identity = refl; start = refl; number = refl; parts = refl; numbers = refl; reading = refl; keeping = refl } (renamed_grows b s.words ps q.ruled j w.pass here n low) (spared_same s.words) q.kept);
      sure = sure_under s.words s.views j n w at q.sure;
    }

-- ---- and then to the other seat

set_again : {A : Type 0} (xs : List A) (i : ℕ) (x y : A) → set (set xs i x) i y ≡ set xs i y
set_again [] i x y = refl
set_again (z ∷ zs) zero x y = refl
set_again (z ∷ zs) (suc i) x y = ap (λ (l : List _). z ∷ l) (set_again zs i x y)

set_over : {A : Type 0} (xs : List A) (i j : ℕ) (a x y : A) → j ≢ i → set (set (set xs j a) i x) j y ≡ set (set xs i x) j y
set_over [] i j a x y ne = refl
set_over (z ∷ zs) zero zero a x y ne = absurd (ne refl)
set_over (z ∷ zs) zero (suc j) a x y ne = ap (λ (l : List _). x ∷ l) (set_again zs j a y)
set_over (z ∷ zs) (suc i) zero a x y ne = refl
set_over (z ∷ zs) (suc i) (suc j) a x y ne = ap (λ (l : List _). z ∷ l) (set_over zs i j a x y (λ e. ne (ap suc e)))

pub hands_over : (key : Key) (id other : ℕ) (v w : View) → v.pass.number < 8 → (v.pass.right.parts < 1024 → Among v.pass.number v.pass.right.numbers) → v.pass.right.armed ≡ 0 → w.pass.right.armed ≡ 0 → 0 < v.pass.right.parts → Joins (LogRuled key) id v other w (handing_seats v w) (spent_seat key.identity key.start)
hands_over key id other v w low mine off off' able s r at ne at' =
    let l : View = handing_seats v w in let x : View = under v.pass.number w in let q : View = spent_seat key.identity key.start in let ps : List Pass = map pass_in s.views in
    let there : get_elem? s.views other ≡ some w = sym (set_else s.views id other l ne) ∙ at' in
    let before : Rest key record { words = s.words; homes = s.homes; views = set s.views other x } = named key s r other v.pass.number w low there in
    let is : map pass_in (set (set s.views id l) other q) ≡ set (set ps id l.pass) other q.pass = map-set pass_in (set s.views id l) other q ∙ ap (λ (y : List Pass). set y other q.pass) (map-set pass_in s.views id l) in
    let here = at_map pass_in s.views id v at in let was = at_map pass_in s.views other w there in
    let numbered : AreNumbered (set (set ps id l.pass) other q.pass) = numbered_join ps id other v.pass w.pass l.pass q.pass here (set_else ps id other l.pass ne ∙ was)
    (λ n. more (numbers_as n l.pass) (numbers_as n v.pass) (numbers_as n w.pass) (total_append (is_number n) v.pass.right.numbers w.pass.right.numbers))
    (owns_handed v.pass w.pass off mine (r.numbered.each id v.pass here)) (owns_none q.pass refl refl) r.numbered in
    subst (λ (vs : List View). LogRuled key record { words = s.words; homes = s.homes; views = vs }) (set_over s.views id other x l q ne)
    (gathered key id other v x off off' able record { words = s.words; homes = s.homes; views = set s.views other x } before (set_else s.views other id x (λ e. ne (sym e)) ∙ at) ne (set_else (set s.views other x) id other l ne ∙ set_at s.views other w x there)
    (subst (λ (vs : List View). AreNumbered (map pass_in vs)) (sym (set_over s.views id other x l q ne)) (subst AreNumbered (sym is) numbered)))
  where
    more : (l v w : ℕ) → l ≡ v + w → l + 0 ≡ v + w
    more l v w e = omega arith
