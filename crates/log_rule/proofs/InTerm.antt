-- A committed frame lies in one term of the stream.
use Rattle.std.proofs.Common.{◌≡◌, ℕ, suc, ◌+◌, ◌-◌, ◌*◌, ◌/◌, ◌%◌, ◌<◌, ◌≤◌, inr, min, List, [], ◌∷◌, length, sym, refl, ap, ◌∙◌, subst, lt_of_not-le, mul-le-mul_left, mul_comm, div-add-mod', arith}
use mathlib.Core.Logic.{dite}
use native.Mathlib.Decide.{dec_le}
use Rattle.theory.specs.Position.{Geometry, aligned, max_position}
use Rattle.theory.specs.Entry.{Entry, entry_end, length_of}
use Rattle.theory.specs.Tiling.{InOneTerm, Tiles}
use Rattle.theory.specs.Placed.{Data, Frame, Pad, frame_length}
use Rattle.theory.specs.Bytes.{Identity}
use Rattle.position.specs.Heads.{IsStreamFrame, head_of}
use Rattle.publication.specs.declared.pass.FrameWords.{FrameWords}
use Rattle.publication.specs.declared.pass.Pass.{Pass}
use Rattle.publication.specs.Steps.{Extent, extents}
use Rattle.position.specs.Words.{IsLegal, frame_words}
use Rattle.position.proofs.Wordings.{words_length}
use Rattle.log_rule.specs.Claims.Sums.{covers, total}
use Rattle.log_rule.specs.Claims.Terms.{claimed_to}
use Rattle.log_rule.specs.Claims.Rule.{Bounds, shape_of, size_of}
use Rattle.log_rule.specs.Claims.Memory.{IsCommittedFrame, Ruled, tail_of}
use Rattle.log_rule.proofs.Claimed.Memories.{tail_is}
use Rattle.log_rule.specs.Edges.{IsAmong, claimed_sum, in_entry}
use Rattle.log_rule.specs.Readings.{IsFrameAt}
use Rattle.log_rule.proofs.Sums.{cover_cuts, covered, covering, total_up}
use Rattle.log_rule.proofs.Edges.{among_claimed}
use Rattle.log_rule.proofs.Known.{done_of, units_sum}

-- 1 where a range has the position and the one before it
abbrev crossing : ℕ → Extent → ℕ
crossing x r = min (covers x r.start r.bytes) (covers (x - 1) r.start r.bytes)

cuts_cross : (x : ℕ) (e : Entry) → in_entry (crossing x) e ≤ min (covers x e.start (length_of e)) (covers (x - 1) e.start (length_of e))
cuts_cross x e =
    let a = total_up (crossing x) (covering x) (extents e.start e.cuts) (λ r. left (covers x r.start r.bytes) (covers (x - 1) r.start r.bytes)) in
    let c = total_up (crossing x) (covering (x - 1)) (extents e.start e.cuts) (λ r. right (covers x r.start r.bytes) (covers (x - 1) r.start r.bytes)) in
    let a' = cover_cuts x e.start e.cuts in let c' = cover_cuts (x - 1) e.start e.cuts in
    both (in_entry (crossing x) e) (total (covering x) (extents e.start e.cuts)) (total (covering (x - 1)) (extents e.start e.cuts)) (covers x e.start (length_of e)) (covers (x - 1) e.start (length_of e)) a c a' c'
  where
    left : (p q : ℕ) → min p q ≤ p
    left p q = omega arith

    right : (p q : ℕ) → min p q ≤ q
    right p q = omega arith

    both : (n a c p q : ℕ) → n ≤ a → n ≤ c → a ≡ p → c ≡ q → n ≤ min p q
    both n a c p q w x y z = omega arith

-- the end of a term isn't inside an entry
pub entry_ends : (t k s n : ℕ) → InOneTerm t s (s + n) → 0 < k * t → min (covers (k * t) s n) (covers (k * t - 1) s n) ≡ 0
entry_ends t k s n one pos = dite (dec_le (k * t) s)
    (λ above. behind (k * t) s n above pos)
    (λ not. let under = lt_of_not-le not in
    let q : ℕ = s / t in let m : ℕ = s % t in let whole : q * t + m ≡ s = div-add-mod' s t in
    let fewer : q < k = (dite (dec_le k q) (λ le. absurd (let z : t * k ≤ t * q = mul-le-mul_left t le in let a : t * k ≡ k * t = mul_comm t k in let c : t * q ≡ q * t = mul_comm t q in over (k * t) (q * t) (t * k) (t * q) s m z a c whole under)) (λ no. lt_of_not-le no)) in
    let up : t * suc q ≤ t * k = mul-le-mul_left t fewer in let a : t * k ≡ k * t = mul_comm t k in let c : t * suc q ≡ suc q * t = mul_comm t (suc q) in
    ends (k * t) (q * t) (t * k) (t * suc q) (suc q * t) t s n up a c (next q t) one)
  where
    behind : (x s n : ℕ) → x ≤ s → 0 < x → min (covers x s n) (covers (x - 1) s n) ≡ 0
    behind x s n above pos = omega arith

    over : (x y tk tq s m : ℕ) → tk ≤ tq → tk ≡ x → tq ≡ y → y + m ≡ s → s < x → ⊥
    over x y tk tq s m z a c w u = omega arith

    next : (q t : ℕ) → suc q * t ≡ q * t + t
    next q t = mul_comm (suc q) t ∙ mul-suc' t q ∙ (let c = mul_comm t q in swap (t * q) (q * t) t c)
      where
        mul-suc' : (t q : ℕ) → t * suc q ≡ t * q + t
        mul-suc' t q = omega arith

        swap : (a c t : ℕ) → a ≡ c → a + t ≡ c + t
        swap a c t e = omega arith

    ends : (x y tk ts sq t s n : ℕ) → ts ≤ tk → tk ≡ x → ts ≡ sq → sq ≡ y + t → s + n ≤ y + t → min (covers x s n) (covers (x - 1) s n) ≡ 0
    ends x y tk ts sq t s n up a c e one = omega arith

tiles_cross : (t k p q : ℕ) (es : List Entry) → Tiles t p q es → 0 < k * t → total (in_entry (crossing (k * t))) es ≡ 0
tiles_cross t k p q [] tiles pos = refl
tiles_cross t k p q (e ∷ es) tiles pos =
    let r = tiles_cross t k (entry_end e) q es tiles.2 pos in let c = cuts_cross (k * t) e in
    let z = entry_ends t k e.start (length_of e) (subst (λ (s : ℕ). InOneTerm t s (entry_end e)) (sym tiles.0) tiles.1) pos in
    none (in_entry (crossing (k * t)) e) (total (in_entry (crossing (k * t))) es) (min (covers (k * t) e.start (length_of e)) (covers (k * t - 1) e.start (length_of e))) c z r
  where
    none : (a r m : ℕ) → a ≤ m → m ≡ 0 → r ≡ 0 → a + r ≡ 0
    none a r m c z e = omega arith

pub nothing_crosses : (b : Bounds) (ws : List ℕ) (ps : List Pass) → Ruled b ws ps → (k : ℕ) → 0 < k * size_of b → claimed_sum (crossing (k * size_of b)) ps ≡ 0
nothing_crosses b ws ps r k pos = r.claims.fair (in_entry (crossing (k * size_of b))) ∙ tiles_cross (size_of b) k b.start (claimed_to (shape_of b) r.claims.terms) r.claims.log r.claims.tiles pos

-- ---- where a frame ends

pub words_cover : (i : Identity) (f : FrameWords) (d : IsCommittedFrame i f) → 8 * length f.words ≡ aligned (frame_length d.content)
unfolding frame_words
words_cover i f d = ap (λ (l : List ℕ). 8 * length l) d.spelt ∙ ap (λ (n : ℕ). 8 * n) (words_length (aligned (frame_length d.content) / 8) _) ∙ whole (frame_length d.content)
  where
    whole : (n : ℕ) → 8 * (aligned n / 8) ≡ aligned n
    whole n = omega arith

pub done_long : (i : Identity) (f : FrameWords) → IsCommittedFrame i f → 0 < length f.words
done_long i f d = go f.words d.first
  where
    go : (ws : List ℕ) → 0 < Rattle.std.specs.Prelude.slice_index ws 0 → 0 < length ws
    go [] pos = absurd (omega arith)
    go (w ∷ ws) pos = omega arith

-- it begins at a unit
pub unit_of : (b : Bounds) (ws : List ℕ) (ps : List Pass) → Ruled b ws ps → (f : FrameWords) → IsAmong ps f → f.start % 32 ≡ 0
unit_of b ws ps r f among = let a = among_claimed b ws ps r f among (λ x. x.start % 32) in let z = units_sum ps (λ i v at. (r.claims.each i v at).entries) in none (f.start % 32) (claimed_sum (λ x. x.start % 32) ps) a z
  where
    none : (a c : ℕ) → a ≤ c → c ≡ 0 → a ≡ 0
    none a c le e = omega arith

-- it is one of the stream
pub frame_at : (b : Bounds) (ws : List ℕ) (ps : List Pass) → Ruled b ws ps → (p : ℕ) → p % 32 ≡ 0 → (f : FrameWords) → IsAmong ps f → f.start ≡ p → IsFrameAt b.identity p f
frame_at b ws ps r p unit f among at =
    let g : Geometry = shape_of b in let t : ℕ = size_of b in let d = done_of b ws ps r f among in let so = r.claims.sound.geometry in
    let n : ℕ = 8 * length f.words in let long = done_long b.identity f d in let is = words_cover b.identity f d in
    let q : ℕ = p / t in let m : ℕ = p % t in let whole : q * t + m ≡ p = div-add-mod' p t in
    let least = so.term.least in
    let next : suc q * t ≡ q * t + t = (let a = mul_comm (suc q) t in let c = mul_comm t q in let e : t * suc q ≡ t * q + t = omega arith in sum3 (suc q * t) (t * suc q) (t * q) (q * t) t a e c) in
    let pos : 0 < suc q * t = positive (suc q * t) (q * t) t next least in
    let none = nothing_crosses b ws ps r (suc q) pos in let mine = among_claimed b ws ps r f among (crossing (suc q * t)) in
    let in_term : m + n ≤ t = fits (suc q * t) (q * t) t m p f.start n (claimed_sum (crossing (suc q * t)) ps) (mod_low p t least) next whole at none mine in
    let here = among_claimed b ws ps r f among (covering (p + n - 1)) in let once = covered b ws ps r.claims (p + n - 1) in
    let last : p + n ≤ tail_of b ps = below p f.start n b.start (tail_of b ps) (claimed_sum (covering (p + n - 1)) ps) at long here once in
    let tail = tail_is b ws ps r.claims in let to = r.claims.tailed.turns.to in
    let most : tail_of b ps ≤ max_position g = top r.claims.terms.newest t (r.claims.terms.offset r.claims.terms.newest) (tail_of b ps) tail to in
    record {
      at = at;
      done = d;
      head = head_legal g p d.content d.legal unit
          (upto p n (tail_of b ps) (max_position g) (length f.words) last most long)
          (subst (λ (x : ℕ). m + x ≤ t) is in_term)
          (subst (λ (x : ℕ). p + x ≤ max_position g) is (trans (p + n) (tail_of b ps) (max_position g) last most));
    }
  where
    sum3 : (a c d e t : ℕ) → a ≡ c → c ≡ d + t → d ≡ e → a ≡ e + t
    sum3 a c d e t p q r = omega arith

    positive : (x y t : ℕ) → x ≡ y + t → 65536 ≤ t → 0 < x
    positive x y t e le = omega arith

    mod_low : (p t : ℕ) → 65536 ≤ t → p % t < t
    mod_low p t le = omega arith

    fits : (x y t m p s n c : ℕ) → m < t → x ≡ y + t → y + m ≡ p → s ≡ p → c ≡ 0 → min (covers x s n) (covers (x - 1) s n) ≤ c → m + n ≤ t
    fits x y t m p s n c low e whole at z le = omega arith

    below : (p s n st t c : ℕ) → s ≡ p → 0 < length f.words → covers (p + (8 * length f.words) - 1) s (8 * length f.words) ≤ c → c ≡ min 1 (min (p + (8 * length f.words) - 1 + 1 - st) (t - (p + (8 * length f.words) - 1))) → p + (8 * length f.words) ≤ t
    below p s n st t c at long le is = omega arith

    top : (k t o e : ℕ) → e ≡ k * t + min o t → k < 2147483648 → e ≤ t * 2147483648
    top k t o e is low = let a : t * suc k ≤ t * 2147483648 = mul-le-mul_left t low in let c : t * suc k ≡ t * k + t = omega arith in let d = mul_comm t k in go (t * suc k) (t * 2147483648) (t * k) (k * t) t o e a c d is
      where
        go : (a m tk kt t o e : ℕ) → a ≤ m → a ≡ tk + t → tk ≡ kt → e ≡ kt + min o t → e ≤ m
        go a m tk kt t o e p q r s = omega arith

    upto : (p n t m l : ℕ) → p + (8 * length f.words) ≤ t → t ≤ m → 0 < length f.words → p < m
    upto p n t m l a c d = omega arith

    trans : (x y z : ℕ) → x ≤ y → y ≤ z → x ≤ z
    trans x y z a c = omega arith

    head_legal : (g : Geometry) (p : ℕ) (f : Frame) → IsLegal g f → p % 32 ≡ 0 → p < max_position g → p % g.term_length + aligned (frame_length f) ≤ g.term_length → p + aligned (frame_length f) ≤ max_position g → IsStreamFrame g (head_of p f)
    head_legal g p (Data flags payload) l unit low inside end = record { flags = l.0; long = omega arith; short = λ e. l.1; unit = unit; below = low; in_term = inside; in_stream = end }
    head_legal g p (Pad n) l unit low inside end = record { flags = inr (inr (inr refl)); long = l.0; short = λ e. cc; unit = unit; below = low; in_term = inside; in_stream = end }
