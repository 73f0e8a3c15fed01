-- The words of the stream, beside the claims: what is covered, and by whom.
use Rattle.std.proofs.Common.{◌≡◌, ◌≢◌, ℕ, zero, suc, ◌+◌, ◌-◌, ◌*◌, ◌/◌, ◌%◌, ◌<◌, ◌≤◌, min, List, [], ◌∷◌, ◌++◌, map, replicate, length, set, get_or-set_other, sym, refl, ap, ◌∙◌, subst, ⊎_elim, lt_of_not-le, append_assoc, arith}
use mathlib.Core.Option.{some}
use mathlib.Core.Logic.{dite}
use native.Mathlib.Decide.{dec_le}
use lib.ListN.{get_elem?}
use Rattle.std.specs.Prelude.{slice_index}
use Rattle.std.specs.List.{AllByRecursion, flat_map}
use Rattle.std.proofs.lemmas.List.{length-replicate}
use Rattle.atomic_table.proofs.Lists.{at_set, one_turn}
use Rattle.theory.specs.Position.{aligned, span}
use Rattle.theory.specs.Entry.{Entry, length_of}
use Rattle.theory.proofs.Lists.{all_append, all_behind}
use Rattle.theory.proofs.Places.{power_unit}
use Rattle.publication.specs.declared.pass.ClaimRange.{ClaimRange}
use Rattle.publication.specs.declared.pass.FrameWords.{FrameWords}
use Rattle.publication.specs.declared.pass.Pass.{Pass}
use Rattle.publication.specs.Steps.{blanks, extent_of, extents, frames_of, ranges_of}
use Rattle.log_rule.specs.Claims.Packs.{ring_of, slot}
use Rattle.log_rule.specs.Claims.Sums.{covers, total}
use Rattle.log_rule.specs.Claims.Terms.{claimed_to}
use Rattle.log_rule.specs.Claims.Rule.{Bounds, ClaimsHold, IsClaimEntry, armed_of, entries_of, entry_of, shape_of, size_of, weight}
use Rattle.log_rule.specs.Claims.Memory.{IsAligned, IsCommittedFrame, IsOpen, Memory, StandsInTable, Stored, tail_of}
use Rattle.log_rule.proofs.Claimed.Totals.{cover_of, extent_of as whole_extent, total_append, total_flat, total_map, total_same, total_set}

-- ---- lists

zero_at : (n i : ℕ) → slice_index (replicate {A = ℕ} n 0) i ≡ 0
zero_at zero i = refl
zero_at (suc n) zero = refl
zero_at (suc n) (suc i) = zero_at n i

pub maps_append : {A B : Type 0} (f : A → B) (xs ys : List A) → map f (xs ++ ys) ≡ map f xs ++ map f ys
maps_append f [] ys = refl
maps_append f (x ∷ xs) ys = ap (λ l. f x ∷ l) (maps_append f xs ys)

all_on : {A : Type 0} (P Q : A → Type 0) → ((x : A) → P x → Q x) → (xs : List A) → AllByRecursion P xs → AllByRecursion Q xs
all_on P Q f [] a = tt
all_on P Q f (x ∷ xs) a = (f x a.0, all_on P Q f xs a.1)

-- ---- what is covered

-- how often the frames have the position x
abbrev pub Covered : ℕ → List FrameWords → ℕ
Covered x fs = total (λ f. covers x f.start (8 * length f.words)) fs

-- the entries of a pass
abbrev pub held_by : ℕ → Pass → ℕ
held_by x v = weight (λ e. covers x e.start (length_of e)) v

cover_two : (x p a s : ℕ) → covers x p a + covers x (p + a) s ≡ covers x p (a + s)
cover_two x p a s = omega arith

cover_cuts : (x p : ℕ) (cuts : List ℕ) → total (λ r. covers x r.start r.bytes) (extents p cuts) ≡ covers x p (span cuts)
cover_cuts x p [] = omega arith
cover_cuts x p (cut ∷ cuts) = ap (λ (n : ℕ). covers x p (aligned cut) + n) (cover_cuts x (p + aligned cut) cuts) ∙ cover_two x p (aligned cut) (span cuts)

-- its frames have the positions of its entries
pub held_is : (b : Bounds) (ws : List ℕ) (v : Pass) → Stored b ws v → (x : ℕ) → held_by x v ≡ Covered x (frames_of v)
held_is b ws v k x =
    total_map (λ e. covers x e.start (length_of e)) entry_of v.right.claims
    ∙ sym (total_same (λ c. total (λ r. covers x r.start r.bytes) (ranges_of c)) (λ c. covers x c.start (span c.cuts)) v.right.claims (λ c. cover_cuts x c.start c.cuts))
    ∙ sym (total_flat (λ r. covers x r.start r.bytes) ranges_of v.right.claims)
    ∙ k.placed (λ r. covers x r.start r.bytes)
    ∙ total_map (λ r. covers x r.start r.bytes) extent_of (frames_of v)

pub tail_is : (b : Bounds) (ws : List ℕ) (ps : List Pass) (r : ClaimsHold b ws ps) → tail_of b ps ≡ claimed_to (shape_of b) r.terms
tail_is b ws ps r = ap (λ (z : ℕ). b.start + z) (r.fair length_of) ∙ whole_extent (size_of b) b.start (claimed_to (shape_of b) r.terms) r.log r.tiles

-- a position is in one entry of one pass, or outside the stream
pub cover_passes : (b : Bounds) (ws : List ℕ) (ps : List Pass) → ClaimsHold b ws ps → (x : ℕ) → total (held_by x) ps ≡ min 1 (min (x + 1 - b.start) (tail_of b ps - x))
cover_passes b ws ps r x = r.fair (λ e. covers x e.start (length_of e)) ∙ cover_of (size_of b) b.start (claimed_to (shape_of b) r.terms) r.log r.tiles x ∙ ap (λ (z : ℕ). min 1 (min (x + 1 - b.start) (z - x))) (sym (tail_is b ws ps r))

pub tail_low : (b : Bounds) (ws : List ℕ) (ps : List Pass) → ClaimsHold b ws ps → tail_of b ps ≤ b.limit + b.greatest * 8
tail_low b ws ps r = low (tail_of b ps) (claimed_to (shape_of b) r.terms) (b.greatest * total armed_of ps) b.limit (b.greatest * 8) (tail_is b ws ps r) r.room
  where
    low : (t z x l y : ℕ) → t ≡ z → z + x ≤ l + y → t ≤ l + y
    low t z x l y e o = omega arith

-- the positions that stand in the table
abbrev pub InWindow : Bounds → ℕ → Type 0
InWindow b x = (b.cleaned ≤ x) × (x < b.cleaned + 3 * size_of b)

-- a claimed one is below the tail, and stands in the table if it isn't cleaned
pub held_low : (b : Bounds) (ws : List ℕ) (ps : List Pass) → ClaimsHold b ws ps → b.limit + b.greatest * 8 ≤ b.cleaned + 3 * size_of b → (x : ℕ) → 0 < total (held_by x) ps → (x < tail_of b ps) × (x < b.cleaned + 3 * size_of b)
held_low b ws ps r room x pos = let low = go x b.start (tail_of b ps) (total (held_by x) ps) pos (cover_passes b ws ps r x) in (low, past x (tail_of b ps) (b.limit + b.greatest * 8) (b.cleaned + 3 * size_of b) low (tail_low b ws ps r) room)
  where
    go : (x s t n : ℕ) → 0 < n → n ≡ min 1 (min (x + 1 - s) (t - x)) → x < t
    go x s t n pos e = omega arith

    past : (x t m w : ℕ) → x < t → t ≤ m → m ≤ w → x < w
    past x t m w a c d = omega arith

apart_in : (x y w t : ℕ) → t % 8 ≡ 0 → w ≤ x → x < y → y < w + 3 * t → x % 8 ≡ 0 → y % 8 ≡ 0 → y / 8 < x / 8 + 3 * (t / 8)
apart_in x y w t e a lt c dx dy = omega arith

pub slot_apart : (b : Bounds) → size_of b % 8 ≡ 0 → (x y : ℕ) → x % 8 ≡ 0 → y % 8 ≡ 0 → InWindow b x → InWindow b y → x ≢ y → slot (shape_of b) x ≢ slot (shape_of b) y
slot_apart b whole x y dx dy a c ne e = let m : (x / 8) % ring_of (shape_of b) ≡ (y / 8) % ring_of (shape_of b) = omega arith in dite (dec_le x y)
    (λ le. let lt : x < y = omega arith in let far = apart_in x y b.cleaned (size_of b) whole a.0 lt c.1 dx dy in let near : x / 8 ≤ y / 8 = omega arith in let one = one_turn (x / 8) (y / 8) (ring_of (shape_of b)) near far m in ne (omega arith))
    (λ gt. let lt = lt_of_not-le gt in let far = apart_in y x b.cleaned (size_of b) whole c.0 lt a.1 dy dx in let near : y / 8 ≤ x / 8 = omega arith in let one = one_turn (y / 8) (x / 8) (ring_of (shape_of b)) near far (sym m) in ne (omega arith))

pub whole_words : (b : Bounds) (ws : List ℕ) (ps : List Pass) → ClaimsHold b ws ps → size_of b % 8 ≡ 0
whole_words b ws ps r = let u = power_unit (size_of b) r.sound.geometry.term.power r.sound.geometry.term.least in omega arith

-- ---- a step on a control word

stands_far : (b : Bounds) (ws : List ℕ) (i n : ℕ) → i < 208 → (f : FrameWords) → StandsInTable b ws f → StandsInTable b (set ws i n) f
stands_far b ws i n low f s j lt from = get_or-set_other ws i (slot (shape_of b) (f.start + 8 * j)) n 0 (λ e. omega arith) ∙ s j lt from

stored_far : (b : Bounds) (ws : List ℕ) (i n : ℕ) → i < 208 → (v : Pass) → Stored b ws v → Stored b (set ws i n) v
stored_far b ws i n low v k = record { stands = all_on (StandsInTable b ws) (StandsInTable b (set ws i n)) (stands_far b ws i n low) (frames_of v) k.stands; placed = k.placed; aligned = k.aligned; done = k.done; undone = k.undone; kept = k.kept }

-- the pass has the same claims and the same frames
pub record Holds (v w : Pass) : Type 0 where
  pub claims : w.right.claims ≡ v.right.claims
  pub work : w.work ≡ v.work

-- and it is the same in all but what it has seen
pub record Stays (v w : Pass) : Type 0 where
  pub number : w.number ≡ v.number
  pub parts : w.right.parts ≡ v.right.parts
  pub numbers : w.right.numbers ≡ v.right.numbers
  pub claims : w.right.claims ≡ v.right.claims
  pub work : w.work ≡ v.work
  pub reading : w.reading ≡ v.reading
  pub keeping : w.keeping ≡ v.keeping

-- it has one claim more, in which nothing is stored
pub record Opens (v w : Pass) : Type 0 where
  pub claim : ClaimRange
  pub number : w.number ≡ v.number
  pub parts : w.right.parts ≡ v.right.parts
  pub numbers : w.right.numbers ≡ v.right.numbers
  pub claims : w.right.claims ≡ v.right.claims ++ claim ∷ []
  pub frames : w.work.frames ≡ v.work.frames
  pub drafts : w.work.drafts ≡ v.work.drafts ++ blanks claim.start claim.cuts
  pub reading : w.reading ≡ v.reading
  pub keeping : w.keeping ≡ v.keeping

stored_as : (b : Bounds) (ws : List ℕ) (v w : Pass) → Holds v w → Stored b ws v → Stored b ws w
stored_as b ws v w g k = record {
  stands = subst (λ x. AllByRecursion (StandsInTable b ws) (x.frames ++ x.drafts)) (sym g.work) k.stands;
  placed = λ h. (λ i. total h (flat_map ranges_of (g.claims i))) ∙ k.placed h ∙ (λ i. total h (map extent_of ((sym g.work i).frames ++ (sym g.work i).drafts)));
  aligned = subst (λ x. AllByRecursion IsAligned (x.frames ++ x.drafts)) (sym g.work) k.aligned;
  done = subst (λ x. AllByRecursion (IsCommittedFrame b.identity) x.frames) (sym g.work) k.done;
  undone = subst (λ x. AllByRecursion IsOpen x.drafts) (sym g.work) k.undone;
  kept = subst (λ x. AllByRecursion (λ f. b.cleaned ≤ f.start) x.drafts) (sym g.work) k.kept;
}

pub stayed : (b : Bounds) (ws : List ℕ) (ps : List Pass) → Memory b ws ps → (id i n : ℕ) (v w : Pass) → i < 208 → get_elem? ps id ≡ some v → Holds v w → Memory b (set ws i n) (set ps id w)
stayed b ws ps m id i n v w low at g =
    let same : total (weight length_of) (set ps id w) ≡ total (weight length_of) ps = (let a = total_set (weight length_of) ps id v w at in let c : weight length_of w ≡ weight length_of v = (λ j. total length_of (map entry_of (g.claims j))) in omega arith) in
    record {
      cleaned = m.cleaned;
      held = m.held;
      zeros = λ x unit above below. get_or-set_other ws i (slot (shape_of b) x) n 0 (λ e. omega arith) ∙ m.zeros x unit (subst (λ (z : ℕ). b.start + z ≤ x) same above) below;
      each = λ j u e. ⊎_elim
          (λ (y : (j ≡ id) × (w ≡ u)). subst (Stored b (set ws i n)) y.1 (stored_as b (set ws i n) v w g (stored_far b ws i n low v (m.each id v at))))
          (λ (y : (j ≢ id) × (get_elem? ps j ≡ some u)). stored_far b ws i n low u (m.each j u y.1))
          (at_set ps id j w u e);
    }

-- ---- a new claim

-- its words are those that are zero
blanks_stand : (b : Bounds) (ws : List ℕ) (p : ℕ) (cuts : List ℕ) → p % 8 ≡ 0 → ((x : ℕ) → x % 8 ≡ 0 → 0 < covers x p (span cuts) → slice_index ws (slot (shape_of b) x) ≡ 0) → AllByRecursion (StandsInTable b ws) (blanks p cuts)
blanks_stand b ws p [] unit z = tt
blanks_stand b ws p (cut ∷ cuts) unit z = (
  (λ i lt from. let n : ℕ = aligned cut / 8 in let l : length (replicate {A = ℕ} n 0) ≡ n = length-replicate n 0 in let lt' : i < length (replicate {A = ℕ} n 0) = lt in
      z (p + 8 * i) (omega arith) (first p i (aligned cut) (span cuts) (omega arith)) ∙ sym (zero_at n i)),
  blanks_stand b ws (p + aligned cut) cuts (omega arith) (λ x u some'. z x u (later x p (aligned cut) (span cuts) some')),
)
  where
    first : (p i a s : ℕ) → 8 * i < a → 0 < covers (p + 8 * i) p (a + s)
    first p i a s lt = omega arith

    later : (x p a s : ℕ) → 0 < covers x (p + a) s → 0 < covers x p (a + s)
    later x p a s some' = omega arith

blanks_open : (p : ℕ) (cuts : List ℕ) → AllByRecursion IsOpen (blanks p cuts)
blanks_open p [] = tt
blanks_open p (cut ∷ cuts) = (zero_at (aligned cut / 8) 0, blanks_open (p + aligned cut) cuts)

blanks_aligned : (p : ℕ) (cuts : List ℕ) → p % 8 ≡ 0 → AllByRecursion IsAligned (blanks p cuts)
blanks_aligned p [] unit = tt
blanks_aligned p (cut ∷ cuts) unit = (unit, blanks_aligned (p + aligned cut) cuts (omega arith))

blanks_from : (c p : ℕ) (cuts : List ℕ) → c ≤ p → AllByRecursion (λ (f : FrameWords). c ≤ f.start) (blanks p cuts)
blanks_from c p [] le = tt
blanks_from c p (cut ∷ cuts) le = (le, blanks_from c (p + aligned cut) cuts (omega arith))

blanks_extents : (p : ℕ) (cuts : List ℕ) → map extent_of (blanks p cuts) ≡ extents p cuts
blanks_extents p [] = refl
blanks_extents p (cut ∷ cuts) = λ i. record { start = p; bytes = bytes_is i; cut = cut } ∷ blanks_extents (p + aligned cut) cuts i
  where
    bytes_is : 8 * length (replicate {A = ℕ} (aligned cut / 8) 0) ≡ aligned cut
    bytes_is = let l : length (replicate {A = ℕ} (aligned cut / 8) 0) ≡ aligned cut / 8 = length-replicate (aligned cut / 8) 0 in omega arith

last_claim : (P : Entry → Type 0) (es : List Entry) (e : Entry) → AllByRecursion P (es ++ e ∷ []) → P e
last_claim P es e a = (all_behind P es (e ∷ []) a).0

-- of the position of a new claim: nothing stood there
new_there : (start tail tail' before now one x : ℕ) → now ≡ before + one → 0 < one → now ≡ min 1 (min (x + 1 - start) (tail' - x)) → before ≡ min 1 (min (x + 1 - start) (tail - x)) → (tail ≤ x) × (x < tail')
new_there start tail tail' before now one x sum some' is was = (omega arith, omega arith)

pub opened : (b : Bounds) (ws : List ℕ) (ps : List Pass) → ClaimsHold b ws ps → Memory b ws ps → (id i n : ℕ) (v w : Pass) → ClaimsHold b (set ws i n) (set ps id w) → i < 208 → get_elem? ps id ≡ some v → get_elem? (set ps id w) id ≡ some w → Opens v w → Memory b (set ws i n) (set ps id w)
opened b ws ps r m id i n v w r' low at at' g =
    let c : ClaimRange = g.claim in let ws' : List ℕ = set ws i n in let ps' : List Pass = set ps id w in let k = m.each id v at in let g' = shape_of b in
    let entries : entries_of w ≡ entries_of v ++ entry_of c ∷ [] = ap (map entry_of) g.claims ∙ maps_append entry_of v.right.claims (c ∷ []) in
    let weighs : (h : Entry → ℕ) → total (weight h) ps' ≡ total (weight h) ps + h (entry_of c) = λ h. (let a = total_set (weight h) ps id v w at in let e : weight h w ≡ weight h v + (h (entry_of c) + 0) = ap (total h) entries ∙ total_append h (entries_of v) (entry_of c ∷ []) in sums (total (weight h) ps') (weight h v) (total (weight h) ps) (weight h w) (h (entry_of c)) a e) in
    let claim : IsClaimEntry (entry_of c) = last_claim IsClaimEntry (entries_of v) (entry_of c) (subst (AllByRecursion IsClaimEntry) entries (r'.each id w at').entries) in
    let there : (x : ℕ) → 0 < covers x c.start (span c.cuts) → (tail_of b ps ≤ x) × (x < tail_of b ps') = λ x some'. new_there b.start (tail_of b ps) (tail_of b ps') (total (held_by x) ps) (total (held_by x) ps') (covers x c.start (span c.cuts)) x (weighs (λ e. covers x e.start (length_of e))) some' (cover_passes b ws' ps' r' x) (cover_passes b ws ps r x) in
    let up : tail_of b ps ≤ tail_of b ps' = (let a = weighs length_of in rises b.start (total (weight length_of) ps) (total (weight length_of) ps') (span c.cuts) a) in
    let zeros' : (x : ℕ) → x % 8 ≡ 0 → tail_of b ps ≤ x → x < b.cleaned + 3 * size_of b → slice_index ws' (slot g' x) ≡ 0 = λ x unit above below. get_or-set_other ws i (slot g' x) n 0 (λ e. omega arith) ∙ m.zeros x unit above below in
    let fresh : (x : ℕ) → x % 8 ≡ 0 → 0 < covers x c.start (span c.cuts) → slice_index ws' (slot g' x) ≡ 0 = λ x unit some'. (let t = there x some' in
    let end = past x (tail_of b ps') (b.limit + b.greatest * 8) (b.cleaned + 3 * size_of b) t.1 (tail_low b ws' ps' r') m.held in zeros' x unit t.0 end) in
    let begins : b.cleaned ≤ c.start = (let t = there c.start (first c.start (span c.cuts) claim.entry.long) in let a = m.cleaned in let d = r.reached in let e = tail_is b ws ps r in chain b.cleaned b.floor (claimed_to g' r.terms) (tail_of b ps) c.start a d e t.0) in
    let unit : c.start % 8 ≡ 0 = (let q : c.start % 32 ≡ 0 = claim.unit in by_eight c.start q) in
    let frames_is : frames_of w ≡ frames_of v ++ blanks c.start c.cuts = (λ j. g.frames j ++ g.drafts j) ∙ sym (append_assoc v.work.frames v.work.drafts (blanks c.start c.cuts)) in
    let mine : Stored b ws' w = record {
      stands = subst (AllByRecursion (StandsInTable b ws')) (sym frames_is) (all_append (StandsInTable b ws') (frames_of v) (blanks c.start c.cuts) (stored_far b ws i n low v k).stands (blanks_stand b ws' c.start c.cuts unit fresh));
      placed = λ h. ap (λ l. total h (flat_map ranges_of l)) g.claims ∙ total_flat h ranges_of (v.right.claims ++ c ∷ []) ∙ total_append (λ x. total h (ranges_of x)) v.right.claims (c ∷ [])
          ∙ (λ j. sym (total_flat h ranges_of v.right.claims) j + (total h (ranges_of c) + 0)) ∙ ap (λ (z : ℕ). z + (total h (ranges_of c) + 0)) (k.placed h) ∙ (let q : total h (map extent_of (frames_of v)) + (total h (ranges_of c) + 0) ≡ total h (map extent_of (frames_of v)) + total h (ranges_of c) = omega arith in q)
          ∙ ap (λ l. total h (map extent_of (frames_of v)) + total h l) (sym (blanks_extents c.start c.cuts)) ∙ sym (total_append h (map extent_of (frames_of v)) (map extent_of (blanks c.start c.cuts))) ∙ ap (total h) (sym (maps_append extent_of (frames_of v) (blanks c.start c.cuts)) ∙ ap (map extent_of) (sym frames_is));
      aligned = subst (AllByRecursion IsAligned) (sym frames_is) (all_append IsAligned (frames_of v) (blanks c.start c.cuts) k.aligned (blanks_aligned c.start c.cuts unit));
      done = subst (AllByRecursion (IsCommittedFrame b.identity)) (sym g.frames) k.done;
      undone = subst (AllByRecursion IsOpen) (sym g.drafts) (all_append IsOpen v.work.drafts (blanks c.start c.cuts) k.undone (blanks_open c.start c.cuts));
      kept = subst (AllByRecursion (λ f. b.cleaned ≤ f.start)) (sym g.drafts) (all_append (λ f. b.cleaned ≤ f.start) v.work.drafts (blanks c.start c.cuts) k.kept (blanks_from b.cleaned c.start c.cuts begins));
    } in
    record {
      cleaned = m.cleaned;
      held = m.held;
      zeros = λ x u above below. zeros' x u (let q : tail_of b ps' ≤ x = above in trans (tail_of b ps) (tail_of b ps') x up q) below;
      each = λ j u e. ⊎_elim
          (λ (y : (j ≡ id) × (w ≡ u)). subst (Stored b ws') y.1 mine)
          (λ (y : (j ≢ id) × (get_elem? ps j ≡ some u)). stored_far b ws i n low u (m.each j u y.1))
          (at_set ps id j w u e);
    }
  where
    sums : (now v old w h : ℕ) → now + v ≡ old + w → w ≡ v + (h + 0) → now ≡ old + h
    sums now v old w h a e = omega arith

    rises : (s old now h : ℕ) → now ≡ old + h → s + old ≤ s + now
    rises s old now h e = omega arith

    past : (x t m w : ℕ) → x < t → t ≤ m → m ≤ w → x < w
    past x t m w a c d = omega arith

    first : (p s : ℕ) → 0 < s → 0 < covers p p s
    first p s pos = omega arith

    chain : (c f e t s : ℕ) → c ≤ f → f ≤ e → t ≡ e → t ≤ s → c ≤ s
    chain c f e t s a d q z = omega arith

    by_eight : (s : ℕ) → s % 32 ≡ 0 → s % 8 ≡ 0
    by_eight s q = omega arith

    trans : (a c d : ℕ) → a ≤ c → c ≤ d → a ≤ d
    trans a c d p q = omega arith
