-- What the rule says of open frames: each is a frame of a claim, so they are whole units, and none lies over another one or over a
-- committed one.
use Rattle.std.proofs.Common.{◌≡◌, ◌≢◌, ◌⊎◌, ℕ, suc, ◌+◌, ◌-◌, ◌*◌, ◌/◌, ◌%◌, ◌<◌, ◌≤◌, inl, inr, min, List, [], ◌∷◌, length, sym, refl, ap, ◌∙◌, subst, lt_of_not-le, mul_comm, div-add-mod', arith}
use mathlib.Core.Option.{some}
use mathlib.Core.Logic.{dite}
use native.Mathlib.Decide.{dec_le}
use lib.ListN.{get_elem?}
use Rattle.std.specs.List.{AllByRecursion}
use Rattle.theory.specs.Entry.{Entry}
use Rattle.theory.specs.Placed.{Among}
use Rattle.theory.specs.Position.{aligned}
use Rattle.publication.specs.declared.pass.FrameWords.{FrameWords}
use Rattle.publication.specs.declared.pass.Pass.{Pass}
use Rattle.publication.specs.Steps.{Extent, extent_of, extents}
use Rattle.log_rule.specs.Claims.Memory.{Ruled, tail_of}
use Rattle.log_rule.specs.Claims.Rule.{Bounds, IsClaimEntry, entries_of, size_of, weight}
use Rattle.log_rule.specs.Claims.Sums.{covers, total}
use Rattle.log_rule.specs.Edges.{AreCommitted, IsAmong, begins_below, claimed_sum, committed_sum, in_entry, open_sum, open_weight}
use Rattle.log_rule.specs.Readings.{end_of}
use Rattle.log_rule.proofs.Claimed.Totals.{both_at, total_at}
use Rattle.log_rule.proofs.InTerm.{nothing_crosses}
use Rattle.log_rule.proofs.Known.{among_total, units_sum}
use Rattle.log_rule.proofs.Sums.{all_parted, covered, covering}
use Rattle.log_memory.specs.declared.view.LogView.{LogView}
use Rattle.log_memory.specs.declared.view.Site.{Site}
use Rattle.log_memory.specs.Rule.{Board, LogMemoryRuled, passes_of, ring, tail_in, term}
use Rattle.log_memory.specs.Steps.{AreApart}
use Rattle.log_memory.proofs.Facts.{bounds, least, pass_at, width}
use Rattle.log_memory.proofs.Places.{in_ring}

-- ---- sums that no claim adds to

none : (a c : ℕ) → a ≡ 0 → c ≡ 0 → a + c ≡ 0
none a c e f = omega arith

module _ (h : Extent → ℕ) (zero_in : (e : Entry) → IsClaimEntry e → in_entry h e ≡ 0) where
  entries_zero : (es : List Entry) → AllByRecursion IsClaimEntry es → total (in_entry h) es ≡ 0
  entries_zero [] all = refl
  entries_zero (e ∷ es) all = none (in_entry h e) (total (in_entry h) es) (zero_in e all.0) (entries_zero es all.1)

  sum_zero : (ps : List Pass) → ((i : ℕ) (v : Pass) → get_elem? ps i ≡ some v → AllByRecursion IsClaimEntry (entries_of v)) → claimed_sum h ps ≡ 0
  sum_zero [] each = refl
  sum_zero (v ∷ vs) each = none (weight (in_entry h) v) (claimed_sum h vs) (entries_zero (entries_of v) (each 0 v refl)) (sum_zero vs (λ i. each (suc i)))

-- 1 where a range is empty
abbrev empty : Extent → ℕ
empty e = 1 - e.bytes

some_in : (p : ℕ) (cuts : List ℕ) → AllByRecursion (λ cut. 0 < cut) cuts → total empty (extents p cuts) ≡ 0
some_in p [] all = refl
some_in p (cut ∷ cuts) all = none (1 - aligned cut) (total empty (extents (p + aligned cut) cuts)) (pos cut all.0) (some_in (p + aligned cut) cuts all.1)
  where
    pos : (n : ℕ) → 0 < n → 1 - aligned n ≡ 0
    pos n lt = omega arith

abbrev rest_of : Extent → ℕ
rest_of e = e.bytes % 32

whole_in : (p : ℕ) (cuts : List ℕ) → total rest_of (extents p cuts) ≡ 0
whole_in p [] = refl
whole_in p (cut ∷ cuts) = none (aligned cut % 32) (total rest_of (extents (p + aligned cut) cuts)) (unit cut) (whole_in (p + aligned cut) cuts)
  where
    unit : (n : ℕ) → aligned n % 32 ≡ 0
    unit n = omega arith

-- ---- of one pass

-- two of a list
among_two : (h : FrameWords → ℕ) (fs : List FrameWords) (f g : FrameWords) → f.start ≢ g.start → Among f fs → Among g fs → h f + h g ≤ total h fs
among_two h [] f g ne a c = absurd a
among_two h (x ∷ xs) f g ne (inl e) (inl e') = absurd (ne (ap (λ (y : FrameWords). y.start) e ∙ sym (ap (λ (y : FrameWords). y.start) e')))
among_two h (x ∷ xs) f g ne (inl e) (inr c) = let i : h f ≡ h x = ap h e in let l = among_total h xs g c in omega arith
among_two h (x ∷ xs) f g ne (inr a) (inl e) = let i : h g ≡ h x = ap h e in let l = among_total h xs f a in omega arith
among_two h (x ∷ xs) f g ne (inr a) (inr c) = let l = among_two h xs f g ne a c in omega arith

-- a position lies before a frame or behind it, where it can't lie in it
pub sides : (x p l : ℕ) → (p ≤ x → x < p + 8 * l → ⊥) → (x < p) ⊎ (p + 8 * l ≤ x)
sides x p l not = dite (dec_le p x) (λ from. dite (dec_le (p + 8 * l) x) (λ past. inr past) (λ in_it. absurd (not from (lt_of_not-le in_it)))) (λ before. inl (lt_of_not-le before))

module _ (b : Bounds) (ws : List ℕ) (ps : List Pass) (r : Ruled b ws ps) where
  entries : (i : ℕ) (v : Pass) → get_elem? ps i ≡ some v → AllByRecursion IsClaimEntry (entries_of v)
  entries i v at = (r.claims.each i v at).entries

  both_low : (h : Extent → ℕ) → committed_sum h ps + open_sum h ps ≤ claimed_sum h ps
  both_low h = let e = all_parted b ws ps r.memory h in omega arith

  open_low : (h : Extent → ℕ) → open_sum h ps ≤ claimed_sum h ps
  open_low h = let e = all_parted b ws ps r.memory h in omega arith

  one_at_most : (x : ℕ) → claimed_sum (covering x) ps ≤ 1
  one_at_most x = let e = covered b ws ps r.claims x in go (claimed_sum (covering x) ps) (min (x + 1 - b.start) (tail_of b ps - x)) e
    where
      go : (c m : ℕ) → c ≡ min 1 m → c ≤ 1
      go c m e = omega arith

  module _ (i : ℕ) (v : Pass) (at : get_elem? ps i ≡ some v) where
    mine_low : (h : Extent → ℕ) → open_weight h v ≤ claimed_sum h ps
    mine_low h = let a = total_at (open_weight h) ps i v at in let c = open_low h in go (open_weight h v) (open_sum h ps) (claimed_sum h ps) a c
      where
        go : (x y z : ℕ) → x ≤ y → y ≤ z → x ≤ z
        go x y z p q = omega arith

    its_low : (h : Extent → ℕ) (f : FrameWords) → Among f v.work.drafts → h (extent_of f) ≤ claimed_sum h ps
    its_low h f among = let a = among_total (λ (g : FrameWords). h (extent_of g)) v.work.drafts f among in let c = mine_low h in go (h (extent_of f)) (open_weight h v) (claimed_sum h ps) a c
      where
        go : (x y z : ℕ) → x ≤ y → y ≤ z → x ≤ z
        go x y z p q = omega arith

    pub long : (f : FrameWords) → Among f v.work.drafts → 0 < length f.words
    long f among = let a = its_low empty f among in let z = sum_zero empty (λ e legal. some_in e.start e.cuts legal.entry.cuts) ps entries in go (length f.words) (claimed_sum empty ps) a z
      where
        go : (n s : ℕ) → 1 - 8 * n ≤ s → s ≡ 0 → 0 < n
        go n s le e = omega arith

    pub unit : (f : FrameWords) → Among f v.work.drafts → f.start % 32 ≡ 0
    unit f among = let a = its_low (λ x. x.start % 32) f among in let z = units_sum ps entries in go (f.start % 32) (claimed_sum (λ x. x.start % 32) ps) a z
      where
        go : (n s : ℕ) → n ≤ s → s ≡ 0 → n ≡ 0
        go n s le e = omega arith

    pub whole : (f : FrameWords) → Among f v.work.drafts → (8 * length f.words) % 32 ≡ 0
    whole f among = let a = its_low rest_of f among in let z = sum_zero rest_of (λ e legal. whole_in e.start e.cuts) ps entries in go ((8 * length f.words) % 32) (claimed_sum rest_of ps) a z
      where
        go : (n s : ℕ) → n ≤ s → s ≡ 0 → n ≡ 0
        go n s le e = omega arith

    -- it ends at the tail, or below
    pub end_low : (f : FrameWords) → Among f v.work.drafts → end_of f ≤ tail_of b ps
    end_low f among =
        let x : ℕ = f.start + 8 * length f.words - 1 in let a = its_low (covering x) f among in let c = covered b ws ps r.claims x in
        go f.start (length f.words) b.start (tail_of b ps) (claimed_sum (covering x) ps) (long f among) a c
      where
        go : (p l s e c : ℕ) → 0 < l → covers (p + 8 * l - 1) p (8 * l) ≤ c → c ≡ min 1 (min (p + 8 * l - 1 + 1 - s) (e - (p + 8 * l - 1))) → p + 8 * l ≤ e
        go p l s e c pos a is = omega arith

    -- it lies in one term
    pub in_term : (f : FrameWords) → Among f v.work.drafts → f.start % size_of b + 8 * length f.words ≤ size_of b
    in_term f among =
        let t : ℕ = size_of b in let p : ℕ = f.start in let q : ℕ = p / t in let least = r.claims.sound.geometry.term.least in let parts : q * t + p % t ≡ p = div-add-mod' p t in
        let next : suc q * t ≡ q * t + t = (let a = mul_comm (suc q) t in let c = mul_comm t q in let e : t * suc q ≡ t * q + t = omega arith in sum3 (suc q * t) (t * suc q) (t * q) (q * t) t a e c) in
        let none' = nothing_crosses b ws ps r (suc q) (positive (suc q * t) (q * t) t next least) in
        let mine = its_low (λ (x : Extent). min (covers (suc q * t) x.start x.bytes) (covers (suc q * t - 1) x.start x.bytes)) f among in
        fits (suc q * t) (q * t) t (p % t) p (8 * length f.words) _ (mod_low p t least) next parts none' mine
      where
        sum3 : (a c d e t : ℕ) → a ≡ c → c ≡ d + t → d ≡ e → a ≡ e + t
        sum3 a c d e t p q r = omega arith

        positive : (x y t : ℕ) → x ≡ y + t → 65536 ≤ t → 0 < x
        positive x y t e le = omega arith

        mod_low : (p t : ℕ) → 65536 ≤ t → p % t < t
        mod_low p t le = omega arith

        fits : (x y t m p n c : ℕ) → m < t → x ≡ y + t → y + m ≡ p → c ≡ 0 → min (covers x p n) (covers (x - 1) p n) ≤ c → m + n ≤ t
        fits x y t m p n c low e whole z le = omega arith

    -- where all below a position is committed, it begins there or above
    pub above : (p : ℕ) → AreCommitted ps p → (f : FrameWords) → Among f v.work.drafts → p ≤ f.start
    above p same f among =
        let a = among_total (λ (g : FrameWords). begins_below p (extent_of g)) v.work.drafts f among in let c = total_at (open_weight (begins_below p)) ps i v at in let e = all_parted b ws ps r.memory (begins_below p) in
        go p f.start (length f.words) (open_weight (begins_below p) v) (open_sum (begins_below p) ps) (committed_sum (begins_below p) ps) (claimed_sum (begins_below p) ps) (long f among) a c e same
      where
        go : (p s l m o c k : ℕ) → 0 < l → min 1 (min (8 * l) (p - s)) ≤ m → m ≤ o → k ≡ c + o → k ≡ c → p ≤ s
        go p s l m o c k pos a d e f = omega arith

    -- no two begin at one position
    pub apart : AreApart v.work.drafts
    apart = go v.work.drafts (λ x. let a = mine_low (covering x) in let o = one_at_most x in le (open_weight (covering x) v) (claimed_sum (covering x) ps) a o) (λ f among. long f among)
      where
        le : (x y : ℕ) → x ≤ y → y ≤ 1 → x ≤ 1
        le x y p q = omega arith

        clash : (p l m t : ℕ) → 0 < l → 0 < m → covers p p (8 * m) ≤ t → covers p p (8 * l) + t ≤ 1 → ⊥
        clash p l m t pl pm a c = omega arith

        go : (fs : List FrameWords) → ((x : ℕ) → total (λ (f : FrameWords). covering x (extent_of f)) fs ≤ 1) → ((f : FrameWords) → Among f fs → 0 < length f.words) → AreApart fs
        go [] once all = tt
        go (f ∷ fs) once all = (
          (λ g among e. let a = among_total (λ (x : FrameWords). covering f.start (extent_of x)) fs g among in let c = subst (λ (s : ℕ). covers f.start s (8 * length g.words) ≤ total (λ (x : FrameWords). covering f.start (extent_of x)) fs) e a in
              clash f.start (length f.words) (length g.words) (total (λ (x : FrameWords). covering f.start (extent_of x)) fs) (all f (inl refl)) (all g (inr among)) c (once f.start)),
          go fs (λ x. let o = once x in less (covering x (extent_of f)) (total (λ (g : FrameWords). covering x (extent_of g)) fs) o) (λ g among. all g (inr among)),
        )
          where
            less : (a c : ℕ) → a + c ≤ 1 → c ≤ 1
            less a c o = omega arith

    -- a position of an open frame is no committed frame's
    pub beside : (g : FrameWords) → IsAmong ps g → (f : FrameWords) → Among f v.work.drafts → (x : ℕ) → f.start ≤ x → x < end_of f → (x < g.start) ⊎ (end_of g ≤ x)
    beside g in_g f among x lo hi = sides x g.start (length g.words) (λ from to. let a = among_total (λ (y : FrameWords). covering x (extent_of y)) v.work.drafts f among in let c = total_at (open_weight (covering x)) ps i v at in let d = in_g (λ (y : FrameWords). covering x (extent_of y)) in let e = both_low (covering x) in let o = one_at_most x in
        clash x f.start (length f.words) g.start (length g.words) (open_weight (covering x) v) (open_sum (covering x) ps) (committed_sum (covering x) ps) (claimed_sum (covering x) ps) lo hi from to a c d e o)
      where
        clash : (x s l p m w o c k : ℕ) → s ≤ x → x < s + 8 * l → p ≤ x → x < p + 8 * m → covers x s (8 * l) ≤ w → w ≤ o → covers x p (8 * m) ≤ c → c + o ≤ k → k ≤ 1 → ⊥
        clash x s l p m w o c k a b d e f g h i j = omega arith

    -- nor another pass's open frame's
    pub beside_open : (k : ℕ) (u : Pass) → k ≢ i → get_elem? ps k ≡ some u → (g : FrameWords) → Among g u.work.drafts → (f : FrameWords) → Among f v.work.drafts → (x : ℕ) → f.start ≤ x → x < end_of f → (x < g.start) ⊎ (end_of g ≤ x)
    beside_open k u ne at' g in_g f among x lo hi = sides x g.start (length g.words) (λ from to. let a = among_total (λ (y : FrameWords). covering x (extent_of y)) v.work.drafts f among in let d = among_total (λ (y : FrameWords). covering x (extent_of y)) u.work.drafts g in_g in
        let c = both_at (open_weight (covering x)) ps i k v u ne at at' in let e = open_low (covering x) in let o = one_at_most x in
        clash x f.start (length f.words) g.start (length g.words) (open_weight (covering x) v) (open_weight (covering x) u) (open_sum (covering x) ps) (claimed_sum (covering x) ps) lo hi from to a d c e o)
      where
        clash : (x s l p m w u o k : ℕ) → s ≤ x → x < s + 8 * l → p ≤ x → x < p + 8 * m → covers x s (8 * l) ≤ w → covers x p (8 * m) ≤ u → w + u ≤ o → o ≤ k → k ≤ 1 → ⊥
        clash x s l p m w u o k a b d e f g h i j = omega arith

    -- nor one that begins elsewhere
    pub beside_own : (g : FrameWords) → Among g v.work.drafts → (f : FrameWords) → Among f v.work.drafts → f.start ≢ g.start → (x : ℕ) → f.start ≤ x → x < end_of f → (x < g.start) ⊎ (end_of g ≤ x)
    beside_own g in_g f among ne x lo hi = sides x g.start (length g.words) (λ from to. let a = among_two (λ (y : FrameWords). covering x (extent_of y)) v.work.drafts f g ne among in_g in let c = mine_low (covering x) in let o = one_at_most x in
        clash x f.start (length f.words) g.start (length g.words) (open_weight (covering x) v) (claimed_sum (covering x) ps) lo hi from to a c o)
      where
        clash : (x s l p m w k : ℕ) → s ≤ x → x < s + 8 * l → p ≤ x → x < p + 8 * m → covers x s (8 * l) + covers x p (8 * m) ≤ w → w ≤ k → k ≤ 1 → ⊥
        clash x s l p m w k a b d e f g h = omega arith

-- ---- of the whole rule

module _ (t : Site) (s : Board) (r : LogMemoryRuled t s) (i : ℕ) (v : LogView) (at : get_elem? s.views i ≡ some v) (f : FrameWords) (draft : Among f v.view.pass.work.drafts) where
  pub open_from : r.freed + r.out ≤ f.start
  open_from = above (bounds t r.stream s.views r.ruled) r.stream (passes_of s.views) r.ruled.ruled i v.view.pass (pass_at s.views i v at) (r.freed + r.out) r.memory.passed f draft

  pub open_to : end_of f ≤ tail_in t.key (passes_of s.views)
  open_to = end_low (bounds t r.stream s.views r.ruled) r.stream (passes_of s.views) r.ruled.ruled i v.view.pass (pass_at s.views i v at) f draft

  pub open_beside : (g : FrameWords) → IsAmong (passes_of s.views) g → (x : ℕ) → f.start ≤ x → x < end_of f → (x < g.start) ⊎ (end_of g ≤ x)
  open_beside g in_g x lo hi = beside (bounds t r.stream s.views r.ruled) r.stream (passes_of s.views) r.ruled.ruled i v.view.pass (pass_at s.views i v at) g in_g f draft x lo hi

  pub open_else : (k : ℕ) (u : LogView) → k ≢ i → get_elem? s.views k ≡ some u → (g : FrameWords) → Among g u.view.pass.work.drafts → (x : ℕ) → f.start ≤ x → x < end_of f → (x < g.start) ⊎ (end_of g ≤ x)
  open_else k u ne at' g in_g x lo hi = beside_open (bounds t r.stream s.views r.ruled) r.stream (passes_of s.views) r.ruled.ruled i v.view.pass (pass_at s.views i v at) k u.view.pass ne (pass_at s.views k u at') g in_g f draft x lo hi

  pub open_own : (g : FrameWords) → Among g v.view.pass.work.drafts → f.start ≢ g.start → (x : ℕ) → f.start ≤ x → x < end_of f → (x < g.start) ⊎ (end_of g ≤ x)
  open_own g in_g ne x lo hi = beside_own (bounds t r.stream s.views r.ruled) r.stream (passes_of s.views) r.ruled.ruled i v.view.pass (pass_at s.views i v at) g in_g f draft ne x lo hi

  pub open_unit : f.start % 32 ≡ 0
  open_unit = unit (bounds t r.stream s.views r.ruled) r.stream (passes_of s.views) r.ruled.ruled i v.view.pass (pass_at s.views i v at) f draft

  pub open_whole : (8 * length f.words) % 32 ≡ 0
  open_whole = whole (bounds t r.stream s.views r.ruled) r.stream (passes_of s.views) r.ruled.ruled i v.view.pass (pass_at s.views i v at) f draft

  pub open_long : 0 < length f.words
  open_long = long (bounds t r.stream s.views r.ruled) r.stream (passes_of s.views) r.ruled.ruled i v.view.pass (pass_at s.views i v at) f draft

  -- it lies in a row of the ring
  pub open_row : f.start % (ring t * 32) + 8 * length f.words ≤ ring t * 32
  open_row = let l = least t r.stream s.views r.ruled in
      subst (λ (x : ℕ). f.start % x + 8 * length f.words ≤ x) (sym (width t r.stream s.views r.ruled)) (in_ring (term t) f.start (8 * length f.words) (omega arith) (in_term (bounds t r.stream s.views r.ruled) r.stream (passes_of s.views) r.ruled.ruled i v.view.pass (pass_at s.views i v at) f draft))
