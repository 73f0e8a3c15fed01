-- Every frame that was committed in a range is one of those that lead through it.
use Rattle.std.proofs.Common.{◌≡◌, ℕ, zero, suc, ◌+◌, ◌*◌, ◌<◌, ◌≤◌, List, [], ◌∷◌, inl, inr, length, map, refl, sym, ap, ◌∙◌, subst, arith}
use Rattle.std.specs.List.{AllByRecursion, flat_map}
use Rattle.theory.specs.Entry.{Entry, entry_end, length_of}
use Rattle.theory.specs.Placed.{Among, Chain, end_of}
use Rattle.theory.specs.Tiling.{Tiles}
use Rattle.theory.proofs.Lists.{all_at}
use Rattle.publication.specs.declared.pass.FrameWords.{FrameWords}
use Rattle.publication.specs.Steps.{Extent, extent_of}
use Rattle.log_rule.specs.Claims.Sums.{covers, total}
use Rattle.log_rule.specs.Edges.{in_entry}
use Rattle.log_rule.proofs.Claimed.Totals.{total_flat}
use Rattle.log_rule.proofs.Sums.{cover_cuts}
use Rattle.shared_log.specs.Books.{IsCommittedBy, committed_of}
use Rattle.shared_log.specs.Readers.{known_of}
use Rattle.shared_log.specs.Sourced.{placed}
use Rattle.log_messages.specs.Law.{ReadsAll}
use Rattle.log_messages.specs.Reading.{IsWhole}

abbrev covering : ℕ → Extent → ℕ
covering x r = covers x r.start r.bytes

-- ---- one side or the other

data Side (a b : ℕ) : Type 0 where
  left : a < b → Side a b
  right : b ≤ a → Side a b

side : (a b : ℕ) → Side a b
side a zero = right (omega arith)
side zero (suc b) = left (omega arith)
side (suc a) (suc b) = up (side a b)
  where
    up : Side a b → Side (suc a) (suc b)
    up (left h) = left (omega (arith, h))
    up (right h) = right (omega (arith, h))

-- ---- entries that tile cover each position once

counts_once : (x s n rest : ℕ) → rest ≤ 1 → (x < s + n → rest ≡ 0) → covers x s n + rest ≤ 1
counts_once x s n rest le none = go (side x (s + n))
  where
    go : Side x (s + n) → covers x s n + rest ≤ 1
    go (left h) = let z = none h in omega (arith, z)
    go (right h) = omega (arith, h, le)

before_none : (x s n rest : ℕ) → x < s → rest ≡ 0 → covers x s n + rest ≡ 0
before_none x s n rest h z = omega (arith, h, z)

tiles_below : (x term start tail : ℕ) (es : List Entry) → Tiles term start tail es → x < start → total (in_entry (covering x)) es ≡ 0
tiles_below x term start tail [] t below = refl
tiles_below x term start tail (e ∷ es) t below =
    let at : e.start ≡ start = t.0 in
    let rest : total (in_entry (covering x)) es ≡ 0 = tiles_below x term (entry_end e) tail es (t.2) (omega (arith, at, below)) in
    ap (λ (n : ℕ). n + total (in_entry (covering x)) es) (cover_cuts x e.start e.cuts) ∙ before_none x e.start (length_of e) (total (in_entry (covering x)) es) (omega (arith, at, below)) rest

tiles_once : (x term start tail : ℕ) (es : List Entry) → Tiles term start tail es → total (in_entry (covering x)) es ≤ 1
tiles_once x term start tail [] t = omega arith
tiles_once x term start tail (e ∷ es) t =
    subst (λ n. n + total (in_entry (covering x)) es ≤ 1) (sym (cover_cuts x e.start e.cuts))
    (counts_once x e.start (length_of e) (total (in_entry (covering x)) es) (tiles_once x term (entry_end e) tail es (t.2)) (λ below. tiles_below x term (entry_end e) tail es (t.2) below))

-- ---- what is counted once is one

pub counted : {A : Type 0} (h : A → ℕ) (xs : List A) (f : A) → Among f xs → h f ≤ total h xs
counted h [] f a = absurd a
counted h (x ∷ xs) f (inl e) = subst (λ y. h y ≤ h x + total h xs) (sym e) (least (h x) (total h xs))
  where
    least : (a b : ℕ) → a ≤ a + b
    least a b = omega arith
counted h (x ∷ xs) f (inr a) = more (h f) (h x) (total h xs) (counted h xs f a)
  where
    more : (a b c : ℕ) → a ≤ c → a ≤ b + c
    more a b c le = omega (arith, le)

one_of : {A : Type 0} (h : A → ℕ) (xs : List A) (f g : A) → total h xs ≤ 1 → Among f xs → Among g xs → 0 < h f → 0 < h g → f ≡ g
one_of h [] f g le a b p q = absurd a
one_of h (x ∷ xs) f g le (inl e) (inl d) p q = e ∙ sym d
one_of h (x ∷ xs) f g le (inl e) (inr b) p q = absurd (two (h x) (h g) (total h xs) le (subst (λ y. 0 < h y) e p) q (counted h xs g b))
  where
    two : (a b c : ℕ) → a + c ≤ 1 → 0 < a → 0 < b → b ≤ c → ⊥
    two a b c le p q r = omega (arith, le, p, q, r)
one_of h (x ∷ xs) f g le (inr a) (inl d) p q = absurd (two (h x) (h f) (total h xs) le (subst (λ y. 0 < h y) d q) p (counted h xs f a))
  where
    two : (a b c : ℕ) → a + c ≤ 1 → 0 < a → 0 < b → b ≤ c → ⊥
    two a b c le p q r = omega (arith, le, p, q, r)
one_of h (x ∷ xs) f g le (inr a) (inr b) p q = one_of h xs f g (less (h x) (total h xs) le) a b p q
  where
    less : (a b : ℕ) → a + b ≤ 1 → b ≤ 1
    less a b le = omega (arith, le)

-- ---- the frame that covers a position

pub record CoveredBy (x : ℕ) (fs : List FrameWords) : Type 0 where
  pub frame : FrameWords
  pub among : Among frame fs
  pub from : frame.start ≤ x
  pub to : x < frame.start + 8 * length frame.words

covered : (x j q : ℕ) (fs : List FrameWords) → Chain j q (map placed fs) → AllByRecursion IsWhole fs → j ≤ x → x < q → CoveredBy x fs
covered x j q [] c whole low high = absurd (let same : q ≡ j = c in omega (arith, same, low, high))
covered x j q (f ∷ fs) c whole low high = go (λ h. covered x (end_of (placed f)) q fs c.1 whole.1 h high) (side x (end_of (placed f)))
  where
    go : (end_of (placed f) ≤ x → CoveredBy x fs) → Side x (end_of (placed f)) → CoveredBy x (f ∷ fs)
    go later (left h) = record { frame = f; among = inl refl; from = subst (λ n. n ≤ x) (sym c.0) low; to = subst (λ n. x < n) whole.0 h }
    go later (right h) = let r = later h in record { frame = r.frame; among = inr r.among; from = r.from; to = r.to }

inside : (x s n : ℕ) → s ≤ x → x < s + n → 0 < covers x s n
inside x s n from to = omega (arith, from, to)

pub reads_all : ReadsAll
reads_all l publishers book m shows read committed f x among from to low high =
    let h : FrameWords → ℕ = λ g. covering x (extent_of g) in
    let g = covered x m.begun_at m.reader.position (known_of m.reader) read.chain read.whole low high in
    let once : total h (flat_map committed_of publishers) ≤ 1 = subst (λ n. n ≤ 1) (shows.committed (covering x) ∙ sym (total_flat h committed_of publishers)) (tiles_once x _ l.start book.tail shows.tiled.log shows.tiled.tiles) in
    let same : g.frame ≡ f = one_of h (flat_map committed_of publishers) g.frame f once (all_at (IsCommittedBy publishers) g.frame (known_of m.reader) committed g.among) among (inside x g.frame.start (8 * length g.frame.words) g.from g.to) (inside x f.start (8 * length f.words) from to) in
    subst (λ y. Among y (known_of m.reader)) same g.among
