-- A store in an open frame changes no other word of the stream.
use Rattle.std.proofs.Common.{◌≡◌, ◌≢◌, ℕ, ◌+◌, ◌-◌, ◌*◌, ◌/◌, ◌%◌, ◌<◌, ◌≤◌, min, List, [], ◌∷◌, ◌++◌, map, length, set, length-set, get_or-set_same, get_or-set_other, sym, ap, ◌∙◌, subst, ⊎_elim, mod-lt, arith}
use mathlib.Core.Option.{some}
use mathlib.Core.Logic.{dite}
use native.Mathlib.Decide.{ℕ_discrete}
use lib.ListN.{get_elem?}
use Rattle.std.specs.Prelude.{slice_index}
use Rattle.std.specs.List.{AllByRecursion, flat_map}
use Rattle.atomic_table.proofs.Lists.{at_set}
use Rattle.theory.specs.Entry.{length_of}
use Rattle.theory.proofs.Lists.{all_append, all_behind, all_front}
use Rattle.publication.specs.declared.pass.FrameWords.{FrameWords}
use Rattle.publication.specs.declared.pass.Pass.{Pass}
use Rattle.publication.specs.Steps.{Extent, extent_of, frames_of, ranges_of, written}
use Rattle.log_rule.specs.Claims.Packs.{ring_of, slot}
use Rattle.log_rule.specs.Claims.Sums.{covers, total}
use Rattle.log_rule.specs.Claims.Rule.{Bounds, ClaimsHold, entry_of, shape_of, size_of, weight}
use Rattle.log_rule.specs.Claims.Memory.{IsAligned, IsCommittedFrame, IsOpen, Memory, StandsInTable, Stored, tail_of}
use Rattle.log_rule.proofs.Claimed.Totals.{both_at, total_append, total_at, total_set}
use Rattle.log_rule.proofs.Claimed.Memories.{Covered, InWindow, cover_passes, held_by, held_is, held_low, slot_apart, whole_words}

-- frames that don't have the position keep their words
else_stand : (b : Bounds) (ws : List ℕ) (x n : ℕ) → size_of b % 8 ≡ 0 → x % 8 ≡ 0 → InWindow b x → (fs : List FrameWords) → ((y : ℕ) → 0 < Covered y fs → y < b.cleaned + 3 * size_of b) → Covered x fs ≡ 0 → AllByRecursion IsAligned fs → AllByRecursion (StandsInTable b ws) fs → AllByRecursion (StandsInTable b (set ws (slot (shape_of b) x) n)) fs
else_stand b ws x n whole dx at [] below free unit st = tt
else_stand b ws x n whole dx at (f ∷ fs) below free unit st = (
  (λ i lt from. let y : ℕ = f.start + 8 * i in let u : f.start % 8 ≡ 0 = unit.0 in
      get_or-set_other ws (slot (shape_of b) x) (slot (shape_of b) y) n 0
      (λ e. slot_apart b whole y x (even f.start i u) dx (from, below y (first f.start i (length f.words) (Covered y fs) lt)) at (λ same. none f.start i (length f.words) (Covered x fs) x lt same free) e) ∙ st.0 i lt from),
  else_stand b ws x n whole dx at fs (λ y some'. below y (more (covers y f.start (8 * length f.words)) (Covered y fs) some')) (rest (covers x f.start (8 * length f.words)) (Covered x fs) free) unit.1 st.1,
)
  where
    even : (s i : ℕ) → s % 8 ≡ 0 → (s + 8 * i) % 8 ≡ 0
    even s i e = omega arith

    first : (s i l r : ℕ) → i < l → 0 < covers (s + 8 * i) s (8 * l) + r
    first s i l r lt = omega arith

    none : (s i l r x : ℕ) → i < l → s + 8 * i ≡ x → covers x s (8 * l) + r ≡ 0 → ⊥
    none s i l r x lt e free = omega arith

    more : (a r : ℕ) → 0 < r → 0 < a + r
    more a r p = omega arith

    rest : (a r : ℕ) → a + r ≡ 0 → r ≡ 0
    rest a r e = omega arith

-- what a store of the kth word of one of the open frames makes of a pass: pre and post are its other frames
pub record Rewrites (b : Bounds) (v : Pass) (pre : List FrameWords) (d : FrameWords) (post : List FrameWords) (k n : ℕ) (w : Pass) : Type 0 where
  pub claims : w.right.claims ≡ v.right.claims
  -- the same frames, in whatever order
  pub stands : (ws : List ℕ) → AllByRecursion (StandsInTable b ws) (pre ++ written d k n ∷ post) → AllByRecursion (StandsInTable b ws) (frames_of w)
  pub aligned : AllByRecursion IsAligned (pre ++ written d k n ∷ post) → AllByRecursion IsAligned (frames_of w)
  pub sums : (h : Extent → ℕ) → total h (map extent_of (frames_of w)) ≡ total h (map extent_of (pre ++ written d k n ∷ post))
  pub done : AllByRecursion (IsCommittedFrame b.identity) w.work.frames
  pub undone : AllByRecursion IsOpen w.work.drafts
  pub kept : AllByRecursion (λ f. b.cleaned ≤ f.start) w.work.drafts

same_extents : (pre : List FrameWords) (d : FrameWords) (post : List FrameWords) (k n : ℕ) → map extent_of (pre ++ d ∷ post) ≡ map extent_of (pre ++ written d k n ∷ post)
same_extents [] d post k n = λ i. record { start = d.start; bytes = 8 * sym (length-set d.words k n) i; cut = d.cut } ∷ map extent_of post
same_extents (f ∷ pre) d post k n = ap (λ l. extent_of f ∷ l) (same_extents pre d post k n)

covered_parts : (x : ℕ) (pre : List FrameWords) (d : FrameWords) (post : List FrameWords) → Covered x (pre ++ d ∷ post) ≡ Covered x pre + (covers x d.start (8 * length d.words) + Covered x post)
covered_parts x pre d post = total_append (λ f. covers x f.start (8 * length f.words)) pre (d ∷ post)

-- a word's position, by its frame
own_there : (s k l a p q t m : ℕ) → k < l → p ≡ a + (covers (s + 8 * k) s (8 * l) + q) → p ≤ t → t ≡ min 1 m → (a ≡ 0) × (q ≡ 0) × (0 < t) × (p ≡ 1)
own_there s k l a p q t m lt e le is = (omega arith, omega arith, omega arith, omega arith)

pub rewritten : (b : Bounds) (ws : List ℕ) (ps : List Pass) → ClaimsHold b ws ps → Memory b ws ps → (id k n : ℕ) (v w : Pass) (pre : List FrameWords) (d : FrameWords) (post : List FrameWords) → get_elem? ps id ≡ some v → frames_of v ≡ pre ++ d ∷ post → k < length d.words → b.cleaned ≤ d.start → Rewrites b v pre d post k n w
    → Memory b (set ws (slot (shape_of b) (d.start + 8 * k)) n) (set ps id w)
rewritten b ws ps r m id k n v w pre d post at here lt from g =
    let x : ℕ = d.start + 8 * k in let sp : ℕ = slot (shape_of b) x in let ws' : List ℕ = set ws sp n in let f = m.each id v at in let whole = whole_words b ws ps r in
    let parts : (y : ℕ) → held_by y v ≡ Covered y pre + (covers y d.start (8 * length d.words) + Covered y post) = λ y. held_is b ws v f y ∙ ap (Covered y) here ∙ covered_parts y pre d post in
    let units : AllByRecursion IsAligned (pre ++ d ∷ post) = subst (AllByRecursion IsAligned) here f.aligned in
    let unit_d : d.start % 8 ≡ 0 = (all_behind IsAligned pre (d ∷ post) units).0 in let dx : x % 8 ≡ 0 = even d.start k unit_d in
    let under : (y : ℕ) → 0 < held_by y v → y < b.cleaned + 3 * size_of b = λ y pos. (held_low b ws ps r m.held y (grow (held_by y v) (total (held_by y) ps) pos (total_at (held_by y) ps id v at))).1 in
    let own = own_there d.start k (length d.words) (Covered x pre) (held_by x v) (Covered x post) (total (held_by x) ps) (min (x + 1 - b.start) (tail_of b ps - x)) lt (parts x) (total_at (held_by x) ps id v at) (cover_passes b ws ps r x) in
    let low = held_low b ws ps r m.held x own.2 in
    let window : InWindow b x = (let q : b.cleaned ≤ x = above d.start k b.cleaned from in q, low.1) in
    let old : AllByRecursion (StandsInTable b ws) (pre ++ d ∷ post) = subst (AllByRecursion (StandsInTable b ws)) here f.stands in
    let before : (y : ℕ) → 0 < Covered y pre → y < b.cleaned + 3 * size_of b = λ y pos. under y (front (held_by y v) (Covered y pre) (covers y d.start (8 * length d.words) + Covered y post) pos (parts y)) in
    let behind : (y : ℕ) → 0 < Covered y post → y < b.cleaned + 3 * size_of b = λ y pos. under y (back (held_by y v) (Covered y pre) (covers y d.start (8 * length d.words)) (Covered y post) pos (parts y)) in
    let place : sp < length ws = (let e = r.wide in let c : (x / 8) % ring_of (shape_of b) < ring_of (shape_of b) = mod-lt (x / 8) (let s = r.sound.geometry.term.least in let q : 0 < ring_of (shape_of b) = ring_some (size_of b) s in q) in let q : sp < length ws = within ((x / 8) % ring_of (shape_of b)) (ring_of (shape_of b)) (length ws) c e in q) in
    let draft : StandsInTable b ws' (written d k n) = λ i li far. (let li' : i < length d.words = subst (λ (z : ℕ). i < z) (length-set d.words k n) li in dite (ℕ_discrete i k)
    (λ e. subst (λ (z : ℕ). slice_index ws' (slot (shape_of b) (d.start + 8 * z)) ≡ slice_index (set d.words k n) z) (sym e) (get_or-set_same ws sp n 0 place ∙ sym (get_or-set_same d.words k n 0 lt)))
    (λ ne. let y : ℕ = d.start + 8 * i in get_or-set_other ws sp (slot (shape_of b) y) n 0
    (λ e. slot_apart b whole y x (even d.start i unit_d) dx (far, under y (mid (held_by y v) (Covered y pre) (Covered y post) d.start i (length d.words) li' (parts y))) window (λ same. ne (one d.start i k same)) e)
    ∙ (all_behind (StandsInTable b ws) pre (d ∷ post) old).0 i li' far ∙ sym (get_or-set_other d.words k i n 0 ne))) in
    let mine : Stored b ws' w = record {
      stands = g.stands ws' (all_append (StandsInTable b ws') pre (written d k n ∷ post)
          (else_stand b ws x n whole dx window pre before own.0 (all_front IsAligned pre (d ∷ post) units) (all_front (StandsInTable b ws) pre (d ∷ post) old))
          (draft, else_stand b ws x n whole dx window post behind own.1 (all_behind IsAligned pre (d ∷ post) units).1 (all_behind (StandsInTable b ws) pre (d ∷ post) old).1));
      placed = λ h. ap (λ l. total h (flat_map ranges_of l)) g.claims ∙ f.placed h ∙ ap (λ l. total h (map extent_of l)) here ∙ ap (total h) (same_extents pre d post k n) ∙ sym (g.sums h);
      aligned = g.aligned (all_append IsAligned pre (written d k n ∷ post) (all_front IsAligned pre (d ∷ post) units) (unit_d, (all_behind IsAligned pre (d ∷ post) units).1));
      done = g.done;
      undone = g.undone;
      kept = g.kept;
    } in
    let same : total (weight length_of) (set ps id w) ≡ total (weight length_of) ps = (let a = total_set (weight length_of) ps id v w at in let c : weight length_of w ≡ weight length_of v = (λ j. total length_of (map entry_of (g.claims j))) in equal (total (weight length_of) (set ps id w)) (weight length_of v) (total (weight length_of) ps) (weight length_of w) a c) in
    record {
      cleaned = m.cleaned;
      held = m.held;
      zeros = λ y unit up below. (let up' : tail_of b ps ≤ y = subst (λ (z : ℕ). b.start + z ≤ y) same up in
          get_or-set_other ws sp (slot (shape_of b) y) n 0 (λ e. slot_apart b whole y x unit dx (let q : b.cleaned ≤ y = high b.cleaned x (tail_of b ps) y window.0 low.0 up' in q, below) window (λ s. apart x (tail_of b ps) y low.0 up' s) e) ∙ m.zeros y unit up' below);
      each = λ j u e. ⊎_elim
          (λ (y : (j ≡ id) × (w ≡ u)). subst (Stored b ws') y.1 mine)
          (λ (y : (j ≢ id) × (get_elem? ps j ≡ some u)). (let o = m.each j u y.1 in let theirs = held_is b ws u o in
          let two = both_at (held_by x) ps id j v u y.0 at y.1 in
          let free : Covered x (frames_of u) ≡ 0 = others (held_by x v) (held_by x u) (total (held_by x) ps) (Covered x (frames_of u)) (min (x + 1 - b.start) (tail_of b ps - x)) own.3 two (cover_passes b ws ps r x) (theirs x) in record {
            stands = else_stand b ws x n whole dx window (frames_of u) (λ z pos. (held_low b ws ps r m.held z (grow (held_by z u) (total (held_by z) ps) (subst (λ (q : ℕ). 0 < q) (sym (theirs z)) pos) (total_at (held_by z) ps j u y.1))).1) free o.aligned o.stands;
            placed = o.placed;
            aligned = o.aligned;
            done = o.done;
            undone = o.undone;
            kept = o.kept;
          }))
          (at_set ps id j w u e);
    }
  where
    even : (s i : ℕ) → s % 8 ≡ 0 → (s + 8 * i) % 8 ≡ 0
    even s i e = omega arith

    grow : (a t : ℕ) → 0 < a → a ≤ t → 0 < t
    grow a t p le = omega arith

    above : (s k c : ℕ) → c ≤ s → c ≤ s + 8 * k
    above s k c le = omega arith

    front : (p a q : ℕ) → 0 < a → p ≡ a + q → 0 < p
    front p a q pos e = omega arith

    back : (p a q z : ℕ) → 0 < z → p ≡ a + (q + z) → 0 < p
    back p a q z pos e = omega arith

    mid : (p a z s i l : ℕ) → i < l → p ≡ a + (covers (s + 8 * i) s (8 * l) + z) → 0 < p
    mid p a z s i l lt e = omega arith

    one : (s i k : ℕ) → s + 8 * i ≡ s + 8 * k → i ≡ k
    one s i k e = omega arith

    ring_some : (t : ℕ) → 65536 ≤ t → 0 < 3 * (t / 8)
    ring_some t le = omega arith

    within : (a q l : ℕ) → a < q → l ≡ 208 + q → 208 + a < l
    within a q l lt e = omega arith

    equal : (now v old w : ℕ) → now + v ≡ old + w → w ≡ v → now ≡ old
    equal now v old w a e = omega arith

    high : (c x t y : ℕ) → c ≤ x → x < t → t ≤ y → c ≤ y
    high c x t y a lt le = omega arith

    apart : (x t y : ℕ) → x < t → t ≤ y → y ≡ x → ⊥
    apart x t y lt le e = omega arith

    others : (p u t c m : ℕ) → p ≡ 1 → p + u ≤ t → t ≡ min 1 m → u ≡ c → c ≡ 0
    others p u t c m e le is same = omega arith

-- ---- the place of a position among open frames is one

abbrev pub HasIt : ℕ → FrameWords → Type 0
HasIt x f = (f.start ≤ x) × (x < f.start + 8 * length f.words)

abbrev front_of : FrameWords → List FrameWords → FrameWords
front_of d [] = d
front_of d (f ∷ fs) = f

abbrev rest_of : List FrameWords → List FrameWords
rest_of [] = []
rest_of (f ∷ fs) = fs

pub same_place : (x : ℕ) (F : List FrameWords → FrameWords → List FrameWords → Type 0) (pre : List FrameWords) (d : FrameWords) (post pre' : List FrameWords) (d' : FrameWords) (post' : List FrameWords) → pre ++ d ∷ post ≡ pre' ++ d' ∷ post' → HasIt x d → HasIt x d' → Covered x (pre ++ d ∷ post) ≤ 1 → F pre d post → F pre' d' post'
same_place x F [] d post [] d' post' e a c once f = subst (λ (q : FrameWords × List FrameWords). F [] q.0 q.1) (λ i. (ap (front_of d) e i, ap rest_of e i)) f
same_place x F [] d post (g ∷ pre') d' post' e a c once f = absurd (twice d.start (8 * length d.words) d'.start (8 * length d'.words) (Covered x pre') (Covered x post') (Covered x post) a c once
    (ap (Covered x) (ap rest_of e) ∙ total_append (λ (h : FrameWords). covers x h.start (8 * length h.words)) pre' (d' ∷ post')))
  where
    twice : (s l s' l' p q z : ℕ) → (s ≤ x) × (x < s + l) → (s' ≤ x) × (x < s' + l') → covers x s l + z ≤ 1 → z ≡ p + (covers x s' l' + q) → ⊥
    twice s l s' l' p q z a c once e = let a0 = a.0 in let a1 = a.1 in let c0 = c.0 in let c1 = c.1 in omega arith
same_place x F (g ∷ pre) d post [] d' post' e a c once f = absurd (twice g.start (8 * length g.words) d.start (8 * length d.words) d'.start (8 * length d'.words) (Covered x pre) (Covered x post) (Covered x (pre ++ d ∷ post)) a c once
    (ap (λ (h : FrameWords). covers x h.start (8 * length h.words)) (ap (front_of d) e)) (total_append (λ (h : FrameWords). covers x h.start (8 * length h.words)) pre (d ∷ post)))
  where
    twice : (s l t m s' l' p q z : ℕ) → (t ≤ x) × (x < t + m) → (s' ≤ x) × (x < s' + l') → covers x s l + z ≤ 1 → covers x s l ≡ covers x s' l' → z ≡ p + (covers x t m + q) → ⊥
    twice s l t m s' l' p q z a c once same e = let a0 = a.0 in let a1 = a.1 in let c0 = c.0 in let c1 = c.1 in omega arith
same_place x F (g ∷ pre) d post (g' ∷ pre') d' post' e a c once f = subst (λ (z : FrameWords). F (z ∷ pre') d' post') (ap (front_of d) e)
    (same_place x (λ l. F (g ∷ l)) pre d post pre' d' post' (ap rest_of e) a c (less (covers x g.start (8 * length g.words)) (Covered x (pre ++ d ∷ post)) once) f)
  where
    less : (a r : ℕ) → a + r ≤ 1 → r ≤ 1
    less a r le = omega arith
