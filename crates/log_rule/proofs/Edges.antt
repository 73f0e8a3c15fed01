-- The end of a committed frame is an edge.
use Rattle.std.proofs.Common.{◌≡◌, ℕ, suc, ◌+◌, ◌-◌, ◌*◌, ◌^◌, ◌<◌, ◌≤◌, inl, inr, min, List, refl, ⊎_elim, lt_of_not-le, arith}
use mathlib.Core.Logic.{dite}
use native.Mathlib.Decide.{dec_le}
use Rattle.std.proofs.Math.Nat.{mul-le-mul_left}
use Rattle.theory.specs.Position.{max_position}
use Rattle.publication.specs.declared.pass.FrameWords.{FrameWords}
use Rattle.publication.specs.declared.pass.Pass.{Pass}
use Rattle.publication.specs.Steps.{Extent, extent_of}
use Rattle.log_rule.specs.Claims.Sums.{covers}
use Rattle.log_rule.specs.Claims.Terms.{claimed_to}
use Rattle.log_rule.specs.Claims.Rule.{Bounds, shape_of, size_of}
use Rattle.log_rule.specs.Claims.Memory.{Ruled, tail_of}
use Rattle.log_rule.proofs.Claimed.Memories.{tail_is}
use Rattle.log_rule.specs.Edges.{AreCommitted, IsAmong, IsEdge, begins_at, begins_below, claimed_sum, committed_sum}
use Rattle.log_rule.proofs.Sums.{HasRange, committed_both, committed_up, covered, covering, has_range, sum_both, sum_less, sum_up}

-- what a committed frame counts is counted
pub among_claimed : (b : Bounds) (ws : List ℕ) (ps : List Pass) → Ruled b ws ps → (f : FrameWords) → IsAmong ps f → (h : Extent → ℕ) → h (extent_of f) ≤ claimed_sum h ps
among_claimed b ws ps r f among h = let a = among (λ g. h (extent_of g)) in let c = sum_less b ws ps r.memory h in omega arith

-- the tail isn't above the greatest position
pub tail_low : (b : Bounds) (ws : List ℕ) (ps : List Pass) → Ruled b ws ps → tail_of b ps ≤ max_position (shape_of b)
tail_low b ws ps r = let t = tail_is b ws ps r.claims in let to = r.claims.tailed.turns.to in low (tail_of b ps) (claimed_to (shape_of b) r.claims.terms) r.claims.terms.newest (size_of b) (r.claims.terms.offset r.claims.terms.newest) t to refl
  where
    low : (tail end k t o : ℕ) → tail ≡ end → k < 2 ^ 31 → end ≡ k * t + min o t → tail ≤ t * 2 ^ 31
    low tail end k t o is lt e = let m : t * suc k ≤ t * 2 ^ 31 = mul-le-mul_left t lt in omega arith

-- an edge isn't above the tail
pub edge_low : (b : Bounds) (ws : List ℕ) (ps : List Pass) → Ruled b ws ps → (p : ℕ) → IsEdge b ps p → p ≤ tail_of b ps
edge_low b ws ps r p edge = ⊎_elim (λ (e : p ≡ tail_of b ps). omega arith)
    (λ (pos : 0 < claimed_sum (begins_at p) ps). let up = sum_up (begins_at p) (covering p) ps (λ x. at_covers p x.start x.bytes) in let c = covered b ws ps r.claims p in low p b.start (tail_of b ps) (claimed_sum (begins_at p) ps) (claimed_sum (covering p) ps) pos up c)
    edge
  where
    at_covers : (p s n : ℕ) → min n (1 - ((s - p) + (p - s))) ≤ covers p s n
    at_covers p s n = omega arith

    low : (p s t a c : ℕ) → 0 < a → a ≤ c → c ≡ min 1 (min (p + 1 - s) (t - p)) → p ≤ t
    low p s t a c pos le is = omega arith

-- ---- behind a committed frame

module _ (b : Bounds) (ws : List ℕ) (ps : List Pass) (r : Ruled b ws ps) (p n c : ℕ) (some : 0 < n) (here : (h : Extent → ℕ) → h (record { start = p; bytes = n; cut = c }) ≤ claimed_sum h ps) where
  -- the last byte of the frame is in no other
  others : Extent → ℕ
  others x = covers (p + n) x.start x.bytes - begins_at (p + n) x

  mine : Extent → ℕ
  mine x = covers (p + n - 1) x.start x.bytes - covers (p + n) x.start x.bytes

  apart : (x : Extent) → others x + mine x ≤ covering (p + n - 1) x
  unfolding others mine
  apart x = go (p + n) x.start x.bytes
    where
      go : (q s m : ℕ) → (covers q s m - min m (1 - ((s - q) + (q - s)))) + (covers (q - 1) s m - covers q s m) ≤ covers (q - 1) s m
      go q s m = omega arith

  or_begins : (x : Extent) → covering (p + n) x ≤ others x + begins_at (p + n) x
  unfolding others
  or_begins x = go (covers (p + n) x.start x.bytes) (begins_at (p + n) x)
    where
      go : (a c : ℕ) → a ≤ (a - c) + c
      go a c = omega arith

  mine_here : 1 ≤ mine (record { start = p; bytes = n; cut = c })
  unfolding mine
  mine_here = go p n some
    where
      go : (p n : ℕ) → 0 < n → 1 ≤ covers (p + n - 1) p n - covers (p + n) p n
      go p n some = omega arith

  pub edge_behind : IsEdge b ps (p + n)
  edge_behind =
      let t : ℕ = tail_of b ps in
      let last = covered b ws ps r.claims (p + n - 1) in let next = covered b ws ps r.claims (p + n) in
      let two = sum_up (λ x. others x + mine x) (covering (p + n - 1)) ps apart in let both = sum_both others mine ps in
      let begun = sum_up (covering (p + n)) (λ x. others x + begins_at (p + n) x) ps or_begins in let both' = sum_both others (begins_at (p + n)) ps in
      let one = here mine in let m = mine_here in
      dite (dec_le t (p + n))
      (λ over. inl (ends p n b.start t (claimed_sum mine ps) (claimed_sum (λ x. others x + mine x) ps) (claimed_sum others ps) (claimed_sum (covering (p + n - 1)) ps) (mine (record { start = p; bytes = n; cut = c })) m one both two last some over))
      (λ under. inr (begins p n b.start t (claimed_sum mine ps) (claimed_sum (λ x. others x + mine x) ps) (claimed_sum others ps) (claimed_sum (covering (p + n - 1)) ps) (mine (record { start = p; bytes = n; cut = c })) (claimed_sum (covering (p + n)) ps) (claimed_sum (λ x. others x + begins_at (p + n) x) ps) (claimed_sum (begins_at (p + n)) ps) m one both two last next begun both' some (lt_of_not-le under)))
    where
      ends : (p n s t m om o c one : ℕ) → 1 ≤ one → one ≤ m → om ≡ o + m → om ≤ c → c ≡ min 1 (min (p + n - 1 + 1 - s) (t - (p + n - 1))) → 0 < n → t ≤ p + n → p + n ≡ t
      ends p n s t m om o c one a d e f g some over = omega arith

      begins : (p n s t m om o c one cn ob bg : ℕ) → 1 ≤ one → one ≤ m → om ≡ o + m → om ≤ c → c ≡ min 1 (min (p + n - 1 + 1 - s) (t - (p + n - 1))) → cn ≡ min 1 (min (p + n + 1 - s) (t - (p + n))) → cn ≤ ob → ob ≡ o + bg → 0 < n → p + n < t → 0 < bg
      begins p n s t m om o c one cn ob bg a d e f g h i j some under = omega arith

  -- nothing begins inside
  inner : Extent → ℕ
  inner x = min 1 (min x.bytes (min (x.start - p) (p + n - x.start)))

  none_inside : claimed_sum inner ps ≡ 0
  unfolding inner
  none_inside = dite (dec_le (claimed_sum inner ps) 0) (λ le. omega arith) (λ no. absurd (clash (has_range inner ps (lt_of_not-le no))))
    where
      alone : Extent → ℕ → Extent → ℕ
      alone y q x = covers y.start x.start x.bytes - begins_at y.start x

      go : (y s m : ℕ) → (covers y s m - min m (1 - ((s - y) + (y - s)))) + min m (1 - ((s - y) + (y - s))) ≤ covers y s m
      go y s m = omega arith

      mine_too : (p n y m : ℕ) → 0 < min 1 (min m (min (y - p) (p + n - y))) → 1 ≤ covers y p n - min n (1 - ((p - y) + (y - p)))
      mine_too p n y m pos = omega arith

      its : (p n y m : ℕ) → 0 < min 1 (min m (min (y - p) (p + n - y))) → 1 ≤ min m (1 - ((y - y) + (y - y)))
      its p n y m pos = omega arith

      many : (a c d t m : ℕ) → 1 ≤ a → 1 ≤ c → d ≡ a + c → d ≤ t → t ≡ min 1 m → ⊥
      many a c d t m p q e le is = omega arith

      clash : HasRange inner ps → ⊥
      clash y =
          let q : ℕ = y.range.start in
          let a = here (λ x. covers q x.start x.bytes - begins_at q x) in
          let c = y.counted (begins_at q) in
          let one = mine_too p n q y.range.bytes y.some in let two = its p n q y.range.bytes y.some in
          many (claimed_sum (λ x. covers q x.start x.bytes - begins_at q x) ps) (claimed_sum (begins_at q) ps) (claimed_sum (λ x. (covers q x.start x.bytes - begins_at q x) + begins_at q x) ps) (claimed_sum (covering q) ps) (min (q + 1 - b.start) (tail_of b ps - q))
          (trans 1 (covers q p n - min n (1 - ((p - q) + (q - p)))) (claimed_sum (λ x. covers q x.start x.bytes - begins_at q x) ps) one a)
          (trans 1 (begins_at q y.range) (claimed_sum (begins_at q) ps) two c)
          (sum_both (λ x. covers q x.start x.bytes - begins_at q x) (begins_at q) ps)
          (sum_up (λ x. (covers q x.start x.bytes - begins_at q x) + begins_at q x) (covering q) ps (λ x. go q x.start x.bytes))
          (covered b ws ps r.claims q)
        where
          trans : (x y z : ℕ) → x ≤ y → y ≤ z → x ≤ z
          trans x y z u v = omega arith

  -- where what begins below the frame is committed, and the frame is, so is what begins below its end
  pub passed_behind : AreCommitted ps p → 1 ≤ committed_sum (begins_at p) ps → AreCommitted ps (p + n)
  unfolding inner
  passed_behind below done =
      let up = sum_up (begins_below (p + n)) (λ x. begins_below p x + (begins_at p x + inner x)) ps (λ x. split p n x.start x.bytes) in
      let a = sum_both (begins_below p) (λ x. begins_at p x + inner x) ps in let c = sum_both (begins_at p) inner ps in let z = none_inside in
      let at_up = sum_up (begins_at p) (covering p) ps (λ x. at_covers p x.start x.bytes) in let at_one = covered b ws ps r.claims p in
      let more = committed_up (λ x. begins_below p x + begins_at p x) (begins_below (p + n)) ps (λ x. joins p n some x.start x.bytes) in let d = committed_both (begins_below p) (begins_at p) ps in
      let less = sum_less b ws ps r.memory (begins_below (p + n)) in
      equal (claimed_sum (begins_below (p + n)) ps) (committed_sum (begins_below (p + n)) ps) (claimed_sum (begins_below p) ps) (committed_sum (begins_below p) ps) (claimed_sum (begins_at p) ps) (committed_sum (begins_at p) ps) (claimed_sum inner ps) (claimed_sum (covering p) ps)
      (claimed_sum (λ x. begins_below p x + (begins_at p x + inner x)) ps) (claimed_sum (λ x. begins_at p x + inner x) ps) (committed_sum (λ x. begins_below p x + begins_at p x) ps) (min (p + 1 - b.start) (tail_of b ps - p))
      up a c z at_up at_one more d less below done
    where
      split : (p n s m : ℕ) → min 1 (min m (p + n - s)) ≤ min 1 (min m (p - s)) + (min m (1 - ((s - p) + (p - s))) + min 1 (min m (min (s - p) (p + n - s))))
      split p n s m = omega arith

      joins : (p n : ℕ) → 0 < n → (s m : ℕ) → min 1 (min m (p - s)) + min m (1 - ((s - p) + (p - s))) ≤ min 1 (min m (p + n - s))
      joins p n some s m = omega arith

      at_covers : (p s n : ℕ) → min n (1 - ((s - p) + (p - s))) ≤ covers p s n
      at_covers p s n = omega arith

      equal : (sb cb s c sa ca i cv x y w m : ℕ) → sb ≤ x → x ≡ s + y → y ≡ sa + i → i ≡ 0 → sa ≤ cv → cv ≡ min 1 m → w ≤ cb → w ≡ c + ca → cb ≤ sb → s ≡ c → 1 ≤ ca → sb ≡ cb
      equal sb cb s c sa ca i cv x y w m p1 p2 p3 p4 p5 p6 p7 p8 p9 p10 p11 = omega arith
