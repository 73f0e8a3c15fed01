-- Frames that are known, and the words where they stand.
use Rattle.std.proofs.Common.{◌≡◌, ◌≢◌, ℕ, zero, suc, ◌+◌, ◌-◌, ◌*◌, ◌%◌, map, ◌<◌, ◌≤◌, ◌⊎◌, inl, inr, min, max, List, [], ◌∷◌, length, sym, refl, ap, ◌∙◌, subst, ⊎_elim, lt_of_not-le, arith}
use mathlib.Core.Option.{some, some-injective, some-ne-none}
use mathlib.Core.Logic.{dite}
use native.Mathlib.Decide.{dec_le, ℕ_discrete}
use lib.ListN.{get_elem?}
use Rattle.std.specs.Prelude.{slice_index}
use Rattle.std.specs.List.{AllByRecursion}
use Rattle.theory.specs.Position.{aligned}
use Rattle.theory.specs.Entry.{Entry}
use Rattle.theory.specs.Placed.{Among}
use Rattle.theory.proofs.Lists.{all_at, among_cases, among_left}
use Rattle.publication.specs.declared.pass.ClaimRange.{ClaimRange}
use Rattle.publication.specs.declared.pass.FrameWords.{FrameWords}
use Rattle.publication.specs.declared.pass.Pass.{Pass}
use Rattle.publication.specs.Steps.{Extent, extent_of, extents, frame, frames_of}
use Rattle.log_rule.specs.Claims.Packs.{slot}
use Rattle.log_rule.specs.Claims.Sums.{covers, total}
use Rattle.log_rule.specs.Claims.Rule.{Bounds, IsClaimEntry, entries_of, entry_of, parts_of, shape_of, size_of, weight}
use Rattle.log_rule.specs.Claims.Memory.{IsCommittedFrame, IsOpen, Ruled, StandsInTable, tail_of}
use Rattle.log_rule.specs.Claims.Events.{committed_weight}
use Rattle.log_rule.proofs.Claimed.Totals.{both_at, total_at}
use Rattle.log_rule.proofs.Claimed.Memories.{tail_low}
use Rattle.log_rule.specs.Edges.{CommittedBy, IsAmong, IsPlaced, begins_at, claimed_sum, committed_sum, in_entry}
use Rattle.log_rule.proofs.Sums.{claimed_by, covered, covering, has_some, sum_less, total_both, total_up}

-- ---- a frame is told from another

either_nat : (m n : ℕ) → (m ≡ n) ⊎ (m ≢ n)
either_nat m n = dite (ℕ_discrete m n) inl inr

abbrev head_is : ℕ → List ℕ → ℕ
head_is d [] = d
head_is d (x ∷ xs) = x

abbrev rest_is : List ℕ → List ℕ
rest_is [] = []
rest_is (x ∷ xs) = xs

either_words : (xs ys : List ℕ) → (xs ≡ ys) ⊎ (xs ≢ ys)
either_words [] [] = inl refl
either_words [] (y ∷ ys) = inr (λ e. cc)
either_words (x ∷ xs) [] = inr (λ e. cc)
either_words (x ∷ xs) (y ∷ ys) = ⊎_elim
    (λ (h : x ≡ y). ⊎_elim (λ (t : xs ≡ ys). inl (λ i. h i ∷ t i)) (λ (n : xs ≢ ys). inr (λ e. n (ap rest_is e))) (either_words xs ys))
    (λ (n : x ≢ y). inr (λ e. n (ap (head_is x) e)))
    (either_nat x y)

pub either_frame : (f g : FrameWords) → (f ≡ g) ⊎ (f ≢ g)
either_frame f g = ⊎_elim
    (λ (h : f.start ≡ g.start). ⊎_elim (λ (t : f.words ≡ g.words). ⊎_elim (λ (c : f.cut ≡ g.cut). inl (λ i. frame (h i) (c i) (t i))) (λ (n : f.cut ≢ g.cut). inr (λ e. n (ap (λ (x : FrameWords). x.cut) e))) (either_nat f.cut g.cut)) (λ (n : f.words ≢ g.words). inr (λ e. n (ap (λ (x : FrameWords). x.words) e))) (either_words f.words g.words))
    (λ (n : f.start ≢ g.start). inr (λ e. n (ap (λ (x : FrameWords). x.start) e)))
    (either_nat f.start g.start)

-- 1 for this frame, else 0
is_frame : FrameWords → FrameWords → ℕ
is_frame f g = ⊎_elim (λ (_ : f ≡ g). 1) (λ (_ : f ≢ g). 0) (either_frame f g)

abbrev IsOne : ℕ → Type 0
IsOne n = n ≡ 1

is_itself : (f : FrameWords) → is_frame f f ≡ 1
unfolding is_frame
is_itself f = go (either_frame f f)
  where
    go : (d : (f ≡ f) ⊎ (f ≢ f)) → IsOne (⊎_elim (λ (_ : f ≡ f). 1) (λ (_ : f ≢ f). 0) d)
    go (inl e) = refl
    go (inr n) = absurd (n refl)

is_same : (f g : FrameWords) → 0 < is_frame f g → f ≡ g
unfolding is_frame
is_same f g = go (either_frame f g)
  where
    go : (d : (f ≡ g) ⊎ (f ≢ g)) → 0 < ⊎_elim (λ (_ : f ≡ g). 1) (λ (_ : f ≢ g). 0) d → f ≡ g
    go (inl e) pos = e
    go (inr n) pos = absurd (omega arith)

is_little : (f g : FrameWords) → is_frame f g ≤ 1
unfolding is_frame
is_little f g = go (either_frame f g)
  where
    go : (d : (f ≡ g) ⊎ (f ≢ g)) → ⊎_elim (λ (_ : f ≡ g). 1) (λ (_ : f ≢ g). 0) d ≤ 1
    go (inl e) = omega arith
    go (inr n) = omega arith

-- ---- lists

pub among_at : {A : Type 0} (xs : List A) (i : ℕ) (x : A) → get_elem? xs i ≡ some x → Among x xs
among_at [] i x e = absurd (some-ne-none x (sym e))
among_at (y ∷ ys) zero x e = inl (sym (some-injective y x e))
among_at (y ∷ ys) (suc i) x e = inr (among_at ys i x e)

pub among_total : {A : Type 0} (h : A → ℕ) (xs : List A) (x : A) → Among x xs → h x ≤ total h xs
among_total h [] x a = absurd a
among_total h (y ∷ ys) x (inl e) = let c : h x ≡ h y = ap h e in omega arith
among_total h (y ∷ ys) x (inr a) = let r = among_total h ys x a in omega arith

-- ---- a committed frame is some pass's

pub found : (ps : List Pass) (f : FrameWords) → IsAmong ps f → CommittedBy ps f
found ps f among =
    let one = among (is_frame f) in let self = is_itself f in
    let p = has_some (committed_weight (is_frame f)) ps (omega arith) in let g = has_some (is_frame f) p.one.work.frames p.some in
    record { place = p.place; holder = p.one; at = p.at; among = subst (λ (x : FrameWords). Among x p.one.work.frames) (sym (is_same f g.one g.some)) (among_at p.one.work.frames g.place g.one g.at) }

pub is_among : (ps : List Pass) (i : ℕ) (v : Pass) (f : FrameWords) → get_elem? ps i ≡ some v → Among f v.work.frames → IsAmong ps f
is_among ps i v f at among h = let a = among_total h v.work.frames f among in let c = total_at (committed_weight h) ps i v at in up (h f) (total h v.work.frames) (total (committed_weight h) ps) a c
  where
    up : (x y z : ℕ) → x ≤ y → y ≤ z → x ≤ z
    up x y z p q = omega arith

pub done_of : (b : Bounds) (ws : List ℕ) (ps : List Pass) → Ruled b ws ps → (f : FrameWords) → IsAmong ps f → IsCommittedFrame b.identity f
done_of b ws ps r f among = let i = found ps f among in all_at (IsCommittedFrame b.identity) f i.holder.work.frames (r.memory.each i.place i.holder i.at).done i.among

pub stands_of : (b : Bounds) (ws : List ℕ) (ps : List Pass) → Ruled b ws ps → (f : FrameWords) → IsAmong ps f → StandsInTable b ws f
stands_of b ws ps r f among = let i = found ps f among in all_at (StandsInTable b ws) f (frames_of i.holder) (r.memory.each i.place i.holder i.at).stands (among_left f i.holder.work.frames i.holder.work.drafts i.among)

-- ---- no two begin at one position

pub one_frame : (b : Bounds) (ws : List ℕ) (ps : List Pass) → Ruled b ws ps → (f g : FrameWords) → IsAmong ps f → IsAmong ps g → f.start ≡ g.start → 0 < length f.words → 0 < length g.words → f ≡ g
one_frame b ws ps r f g in_f in_g same long_f long_g = ⊎_elim (λ (e : f ≡ g). e) (λ (ne : f ≢ g). absurd (clash ne)) (either_frame f g)
  where
    cover : (x : FrameWords) → 0 < length x.words → 1 ≤ covers x.start x.start (8 * length x.words)
    cover x long = omega arith

    little : f ≢ g → (x : FrameWords) → is_frame f x + is_frame g x ≤ covering f.start (extent_of x)
    little ne x =
        let lf = is_little f x in let lg = is_little g x in
        dite (dec_le 1 (is_frame f x))
        (λ pf. let e : f ≡ x = is_same f x pf in dite (dec_le 1 (is_frame g x))
        (λ pg. absurd (ne (e ∙ sym (is_same g x pg))))
        (λ no. let z = lt_of_not-le no in let c : 1 ≤ covering f.start (extent_of x) = subst (λ (y : FrameWords). 1 ≤ covering f.start (extent_of y)) e (cover f long_f) in first (is_frame f x) (is_frame g x) (covering f.start (extent_of x)) lf z c))
        (λ no. let z = lt_of_not-le no in dite (dec_le 1 (is_frame g x))
        (λ pg. let e : g ≡ x = is_same g x pg in let c : 1 ≤ covering f.start (extent_of x) = subst (λ (y : FrameWords). 1 ≤ covering f.start (extent_of y)) e (subst (λ (p : ℕ). 1 ≤ covers p g.start (8 * length g.words)) (sym same) (cover g long_g)) in second (is_frame f x) (is_frame g x) (covering f.start (extent_of x)) lg z c)
        (λ no'. let z' = lt_of_not-le no' in none (is_frame f x) (is_frame g x) (covering f.start (extent_of x)) z z'))
      where
        first : (a c d : ℕ) → a ≤ 1 → c < 1 → 1 ≤ d → a + c ≤ d
        first a c d l z o = omega arith

        second : (a c d : ℕ) → c ≤ 1 → a < 1 → 1 ≤ d → a + c ≤ d
        second a c d l z o = omega arith

        none : (a c d : ℕ) → a < 1 → c < 1 → a + c ≤ d
        none a c d l z = omega arith

    clash : f ≢ g → ⊥
    clash ne =
        let one = in_f (is_frame f) in let self = is_itself f in let two = in_g (is_frame g) in let self' = is_itself g in
        let both : total (committed_weight (λ x. is_frame f x + is_frame g x)) ps ≡ total (committed_weight (is_frame f)) ps + total (committed_weight (is_frame g)) ps = sums ps in
        let up : total (committed_weight (λ x. is_frame f x + is_frame g x)) ps ≤ committed_sum (covering f.start) ps = total_up (committed_weight (λ x. is_frame f x + is_frame g x)) (committed_weight (λ x. covering f.start (extent_of x))) ps (λ v. total_up (λ x. is_frame f x + is_frame g x) (λ x. covering f.start (extent_of x)) v.work.frames (little ne)) in
        let less = sum_less b ws ps r.memory (covering f.start) in let once = covered b ws ps r.claims f.start in
        many (is_frame f f) (is_frame g g) (total (committed_weight (is_frame f)) ps) (total (committed_weight (is_frame g)) ps) (total (committed_weight (λ x. is_frame f x + is_frame g x)) ps) (committed_sum (covering f.start) ps) (claimed_sum (covering f.start) ps) (min (f.start + 1 - b.start) (tail_of b ps - f.start)) self self' one two both up less once
      where
        sums : (qs : List Pass) → total (committed_weight (λ x. is_frame f x + is_frame g x)) qs ≡ total (committed_weight (is_frame f)) qs + total (committed_weight (is_frame g)) qs
        sums [] = refl
        sums (q ∷ qs) = let a = total_both (is_frame f) (is_frame g) q.work.frames in let c = sums qs in omega arith

        many : (a c p q s t u m : ℕ) → a ≡ 1 → c ≡ 1 → a ≤ p → c ≤ q → s ≡ p + q → s ≤ t → t ≤ u → u ≡ min 1 m → ⊥
        many a c p q s t u m e1 e2 e3 e4 e5 e6 e7 e8 = omega arith

-- ---- the first word where a consumer stands

pub low_enough : (b : Bounds) (ps : List Pass) (p : ℕ) → IsPlaced b ps p → b.cleaned ≤ p
low_enough b ps p k = let a = k.readable in let c = k.from in go b.cleaned b.start p (size_of b) a c
  where
    go : (c s p t : ℕ) → c ≤ max s (p - t) → s ≤ p → c ≤ p
    go c s p t le from = omega arith

-- where a frame is committed it isn't zero
pub word_there : (b : Bounds) (ws : List ℕ) (ps : List Pass) → Ruled b ws ps → (p : ℕ) → IsPlaced b ps p → (f : FrameWords) → IsAmong ps f → f.start ≡ p → 0 < length f.words → slice_index ws (slot (shape_of b) p) ≡ slice_index f.words 0
word_there b ws ps r p k f among at long = let low = low_enough b ps p k in let e : f.start + 8 * 0 ≡ p = omega arith in let from : b.cleaned ≤ f.start + 8 * 0 = omega arith in
    ap (λ (q : ℕ). slice_index ws (slot (shape_of b) q)) (sym e) ∙ stands_of b ws ps r f among 0 long from

pub record Finds (b : Bounds) (ps : List Pass) (p n : ℕ) : Type 0 where
  pub frame_there : FrameWords
  pub among : IsAmong ps frame_there
  pub at : frame_there.start ≡ p
  pub long : 0 < length frame_there.words
  pub word : slice_index frame_there.words 0 ≡ n

-- where it isn't zero, a frame is committed
pub finds : (b : Bounds) (ws : List ℕ) (ps : List Pass) → Ruled b ws ps → b.limit + b.greatest * 8 < b.cleaned + 3 * size_of b → (p : ℕ) → IsPlaced b ps p → 0 < slice_index ws (slot (shape_of b) p) → Finds b ps p (slice_index ws (slot (shape_of b) p))
finds b ws ps r ahead p k pos =
    let n : ℕ = slice_index ws (slot (shape_of b) p) in
    ⊎_elim
    (λ (end : p ≡ tail_of b ps). absurd (empty (let low = tail_low b ws ps r.claims in let u = k.unit in r.memory.zeros p (by_eight p u) (let q : tail_of b ps ≤ p = omega arith in q) (below p (tail_of b ps) (b.limit + b.greatest * 8) (b.cleaned + 3 * size_of b) end low ahead))))
    (λ (some' : 0 < claimed_sum (begins_at p) ps).
    let v = has_some (weight (in_entry (begins_at p))) ps some' in let m = r.memory.each v.place v.one v.at in
    let here : 0 < total (λ f. begins_at p (extent_of f)) (frames_of v.one) = (let e = claimed_by b ws v.one m (begins_at p) in let s = v.some in more (weight (in_entry (begins_at p)) v.one) (total (λ f. begins_at p (extent_of f)) (frames_of v.one)) s e) in
    let f = has_some (λ f. begins_at p (extent_of f)) (frames_of v.one) here in
    let start : f.one.start ≡ p = at_it p f.one.start (8 * length f.one.words) f.some in let long : 0 < length f.one.words = is_long p f.one.start (length f.one.words) f.some in
    let within = among_at (frames_of v.one) f.place f.one f.at in
    let low = low_enough b ps p k in let e : f.one.start + 8 * 0 ≡ p = omega arith in let from : b.cleaned ≤ f.one.start + 8 * 0 = omega arith in
    let word : n ≡ slice_index f.one.words 0 = ap (λ (q : ℕ). slice_index ws (slot (shape_of b) q)) (sym e) ∙ all_at (StandsInTable b ws) f.one (frames_of v.one) m.stands within 0 long from in
    let done : Among f.one v.one.work.frames = ⊎_elim (λ (l : Among f.one v.one.work.frames). l) (λ (d : Among f.one v.one.work.drafts). absurd (let z : slice_index f.one.words 0 ≡ 0 = all_at IsOpen f.one v.one.work.drafts m.undone d in clash n (slice_index f.one.words 0) pos word z)) (among_cases f.one v.one.work.frames v.one.work.drafts within) in
    record { frame_there = f.one; among = is_among ps v.place v.one f.one v.at done; at = start; long = long; word = sym word })
    k.edge
  where
    empty : slice_index ws (slot (shape_of b) p) ≡ 0 → ⊥
    empty z = omega arith

    by_eight : (s : ℕ) → s % 32 ≡ 0 → s % 8 ≡ 0
    by_eight s q = omega arith

    below : (p t l c : ℕ) → p ≡ t → t ≤ l → l < c → p < c
    below p t l c e le lt = omega arith

    more : (a c : ℕ) → 0 < a → a ≡ c → 0 < c
    more a c pos e = omega arith

    at_it : (p s m : ℕ) → 0 < min m (1 - ((s - p) + (p - s))) → s ≡ p
    at_it p s m pos = omega arith

    is_long : (p s m : ℕ) → 0 < min (8 * m) (1 - ((s - p) + (p - s))) → 0 < m
    is_long p s m pos = omega arith

    clash : (n w : ℕ) → 0 < n → n ≡ w → w ≡ 0 → ⊥
    clash n w pos e z = omega arith

-- ---- who has all parts

-- a pass without parts has claimed nothing, so it has no frame
pub whole_has : (b : Bounds) (ws : List ℕ) (ps : List Pass) → Ruled b ws ps → (id : ℕ) (v : Pass) → get_elem? ps id ≡ some v → v.right.parts ≡ 1024 → (f : FrameWords) → IsAmong ps f → 0 < length f.words → Among f v.work.frames
whole_has b ws ps r id v at all f among long =
    let i = found ps f among in let u : Pass = i.holder in
    ⊎_elim
    (λ (e : i.place ≡ id). subst (λ (x : Pass). Among f x.work.frames) (some-injective u v (sym i.at ∙ ap (get_elem? ps) e ∙ at)) i.among)
    (λ (ne : i.place ≢ id). absurd (
    let two = both_at parts_of ps id i.place v u ne at i.at in let none : u.right.claims ≡ [] = (r.claims.each i.place u i.at).right.idle (no_part v.right.parts u.right.parts (total parts_of ps) two all r.claims.parted) in
    let is = claimed_by b ws u (r.memory.each i.place u i.at) (λ x. x.bytes) in let zero_sum : weight (in_entry (λ x. x.bytes)) u ≡ 0 = ap (λ (cs : List ClaimRange). total (in_entry (λ x. x.bytes)) (map entry_of cs)) none in
    let some' = among_total (λ (g : FrameWords). 8 * length g.words) (frames_of u) f (among_left f u.work.frames u.work.drafts i.among) in
    clash (length f.words) (weight (in_entry (λ x. x.bytes)) u) (total (λ (g : FrameWords). 8 * length g.words) (frames_of u)) is zero_sum some' long))
    (either_nat i.place id)
  where
    no_part : (a c t : ℕ) → a + c ≤ t → a ≡ 1024 → t ≡ 1024 → c ≡ 0
    no_part a c t le e f = omega arith

    clash : (n w t : ℕ) → w ≡ t → w ≡ 0 → 8 * n ≤ t → 0 < n → ⊥
    clash n w t e z le pos = omega arith

-- ---- where frames begin

units_in : (p : ℕ) (cuts : List ℕ) → p % 32 ≡ 0 → total (λ (x : Extent). x.start % 32) (extents p cuts) ≡ 0
units_in p [] u = refl
units_in p (c ∷ cs) u = let next : (p + aligned c) % 32 ≡ 0 = omega arith in let r = units_in (p + aligned c) cs next in none (p % 32) (total (λ (x : Extent). x.start % 32) (extents (p + aligned c) cs)) u r
  where
    none : (a c : ℕ) → a ≡ 0 → c ≡ 0 → a + c ≡ 0
    none a c e f = omega arith

units_of : (es : List Entry) → AllByRecursion IsClaimEntry es → total (in_entry (λ x. x.start % 32)) es ≡ 0
units_of [] all = refl
units_of (e ∷ es) all = let a = units_in e.start e.cuts all.0.unit in let c = units_of es all.1 in none (in_entry (λ x. x.start % 32) e) (total (in_entry (λ x. x.start % 32)) es) a c
  where
    none : (a c : ℕ) → a ≡ 0 → c ≡ 0 → a + c ≡ 0
    none a c e f = omega arith

pub units_sum : (ps : List Pass) → ((i : ℕ) (v : Pass) → get_elem? ps i ≡ some v → AllByRecursion IsClaimEntry (entries_of v)) → claimed_sum (λ x. x.start % 32) ps ≡ 0
units_sum [] each = refl
units_sum (v ∷ vs) each = let a = units_of (entries_of v) (each 0 v refl) in let c = units_sum vs (λ i. each (suc i)) in none (weight (in_entry (λ x. x.start % 32)) v) (claimed_sum (λ x. x.start % 32) vs) a c
  where
    none : (a c : ℕ) → a ≡ 0 → c ≡ 0 → a + c ≡ 0
    none a c e f = omega arith
