-- An event of the stream leaves consumers where they may stand, and the frames that are known committed.
use Rattle.std.proofs.Common.{◌≡◌, ◌≢◌, ℕ, ◌+◌, ◌-◌, ◌<◌, ◌≤◌, ◌⊎◌, inl, inr, min, List, [], ◌∷◌, set, sym, refl, ap, ◌∙◌, subst, ⊎_elim, lt_of_not-le, length, arith}
use mathlib.Core.Option.{some}
use mathlib.Core.Logic.{dite}
use native.Mathlib.Decide.{dec_le}
use lib.ListN.{get_elem?}
use Rattle.std.specs.Prelude.{slice_index}
use Rattle.std.specs.List.{AllByRecursion}
use Rattle.std.proofs.lemmas.List.{get_or_past}
use Rattle.atomic_table.proofs.Lists.{at_set}
use Rattle.theory.specs.Position.{aligned, span}
use Rattle.theory.specs.Entry.{Entry, IsEntry, length_of}
use Rattle.theory.proofs.Lists.{all_weaker}
use Rattle.publication.specs.declared.pass.FrameWords.{FrameWords}
use Rattle.publication.specs.declared.pass.Keeping.{Keeping}
use Rattle.publication.specs.declared.pass.Pass.{Pass}
use Rattle.publication.specs.declared.pass.Reading.{Reading}
use Rattle.publication.specs.Steps.{extent_of, extents}
use Rattle.log_rule.specs.Claims.Packs.{consumer_place, limit_place}
use Rattle.log_rule.specs.Claims.Sums.{total}
use Rattle.log_rule.specs.Claims.Rule.{Bounds, weight}
use Rattle.log_rule.specs.Claims.Memory.{Ruled, tail_of}
use Rattle.log_rule.specs.Claims.Admits.{Same}
use Rattle.log_rule.specs.Claims.Events.{IsClaimed, IsCommitted, IsEvent, IsLook, committed_weight}
use Rattle.log_rule.proofs.Claimed.Totals.{total_set}
use Rattle.log_rule.specs.Edges.{AreCommitted, IsAmong, IsEdge, IsPlaced, begins_at, begins_below, claimed_sum, committed_sum, in_entry}
use Rattle.log_rule.specs.Kept.{Attends, IsKeeper, IsReader, IsSeen, IsThere, Kept, keepers_of, readers_of}
use Rattle.log_rule.proofs.Sums.{sum_less}
use Rattle.log_rule.proofs.Edges.{edge_low}

-- ---- what an event leaves

pub record Grows (b : Bounds) (ps ps' : List Pass) : Type 0 where
  pub edge : (p : ℕ) → IsEdge b ps p → IsEdge b ps' p
  pub passed : (p : ℕ) → IsEdge b ps p → AreCommitted ps p → AreCommitted ps' p
  pub among : (f : FrameWords) → IsAmong ps f → IsAmong ps' f

-- nothing of it begins below its start
none_below : (p q : ℕ) (cuts : List ℕ) → p ≤ q → total (begins_below p) (extents q cuts) ≡ 0
none_below p q [] le = refl
none_below p q (cut ∷ cuts) le = let r = none_below p (q + aligned cut) cuts (omega arith) in zeros p q (aligned cut) (total (begins_below p) (extents (q + aligned cut) cuts)) le r
  where
    zeros : (p q n t : ℕ) → p ≤ q → t ≡ 0 → min 1 (min n (p - q)) + t ≡ 0
    zeros p q n t le e = omega arith

-- its first frame begins there
one_at : (e : Entry) → IsEntry e → 0 < in_entry (begins_at e.start) e
one_at e legal = go e.start e.cuts legal.cuts legal.long
  where
    go : (q : ℕ) (cuts : List ℕ) → AllByRecursion (λ cut. 0 < cut) cuts → 0 < span cuts → 0 < total (begins_at q) (extents q cuts)
    go q [] all long = absurd (omega arith)
    go q (cut ∷ cuts) all long = let pos = all.0 in first q cut (total (begins_at q) (extents (q + aligned cut) cuts)) pos
      where
        first : (q cut t : ℕ) → 0 < cut → 0 < min (aligned cut) (1 - ((q - q) + (q - q))) + t
        first q cut t pos = omega arith

looks : (b : Bounds) (ps ps' : List Pass) → IsLook ps ps' → Grows b ps ps'
looks b ps ps' l = record {
  edge = λ p e. ⊎_elim (λ (t : p ≡ tail_of b ps). inl (let c = l.claimed length_of in tails b.start p (total (weight length_of) ps) (total (weight length_of) ps') t c)) (λ (pos : 0 < claimed_sum (begins_at p) ps). inr (let c = l.claimed (in_entry (begins_at p)) in more (claimed_sum (begins_at p) ps) (claimed_sum (begins_at p) ps') pos c)) e;
  passed = λ p e same. l.claimed (in_entry (begins_below p)) ∙ same ∙ sym (l.committed (λ f. begins_below p (extent_of f)));
  among = λ f a h. (let c = l.committed h in let x = a h in least (h f) (total (committed_weight h) ps) (total (committed_weight h) ps') x c);
}
  where
    tails : (s p t t' : ℕ) → p ≡ s + t → t' ≡ t → p ≡ s + t'
    tails s p t t' e c = omega arith

    more : (a c : ℕ) → 0 < a → c ≡ a → 0 < c
    more a c pos e = omega arith

    least : (f t t' : ℕ) → f ≤ t → t' ≡ t → f ≤ t'
    least f t t' x e = omega arith

claims : (b : Bounds) (ws : List ℕ) (ps ps' : List Pass) → Ruled b ws ps → IsClaimed b ps ps' → Grows b ps ps'
claims b ws ps ps' r l = record {
  edge = λ p e. ⊎_elim
      (λ (t : p ≡ tail_of b ps). inr (let c = l.claimed (in_entry (begins_at p)) in let s : l.entry.start ≡ p = l.at_tail ∙ sym t in let one : 0 < in_entry (begins_at p) l.entry = subst (λ (q : ℕ). 0 < in_entry (begins_at q) l.entry) s (one_at l.entry l.legal) in add (claimed_sum (begins_at p) ps) (claimed_sum (begins_at p) ps') (in_entry (begins_at p) l.entry) c one))
      (λ (pos : 0 < claimed_sum (begins_at p) ps). inr (let c = l.claimed (in_entry (begins_at p)) in more (claimed_sum (begins_at p) ps) (claimed_sum (begins_at p) ps') (in_entry (begins_at p) l.entry) pos c))
      e;
  passed = λ p e same. (let c = l.claimed (in_entry (begins_below p)) in let low = edge_low b ws ps r p e in let z : in_entry (begins_below p) l.entry ≡ 0 = none_below p l.entry.start l.entry.cuts (let s = l.at_tail in under p l.entry.start (tail_of b ps) low s) in
      less (claimed_sum (begins_below p) ps) (claimed_sum (begins_below p) ps') (in_entry (begins_below p) l.entry) c z) ∙ same ∙ sym (l.committed (λ f. begins_below p (extent_of f)));
  among = λ f a h. (let c = l.committed h in let x = a h in least (h f) (total (committed_weight h) ps) (total (committed_weight h) ps') x c);
}
  where
    add : (a c n : ℕ) → c ≡ a + n → 0 < n → 0 < c
    add a c n e pos = omega arith

    more : (a c n : ℕ) → 0 < a → c ≡ a + n → 0 < c
    more a c n pos e = omega arith

    under : (p s t : ℕ) → p ≤ t → s ≡ t → p ≤ s
    under p s t le e = omega arith

    less : (a c n : ℕ) → c ≡ a + n → n ≡ 0 → c ≡ a
    less a c n e z = omega arith

    least : (f t t' : ℕ) → f ≤ t → t' ≡ t → f ≤ t'
    least f t t' x e = omega arith

commits : (b : Bounds) (ws' : List ℕ) (ps ps' : List Pass) → Ruled b ws' ps' → IsCommitted b ps ps' → Grows b ps ps'
commits b ws' ps ps' r' l = record {
  edge = λ p e. ⊎_elim (λ (t : p ≡ tail_of b ps). inl (let c = l.claimed length_of in tails b.start p (total (weight length_of) ps) (total (weight length_of) ps') t c)) (λ (pos : 0 < claimed_sum (begins_at p) ps). inr (let c = l.claimed (in_entry (begins_at p)) in more (claimed_sum (begins_at p) ps) (claimed_sum (begins_at p) ps') pos c)) e;
  passed = λ p e same. (let c = l.claimed (in_entry (begins_below p)) in let d = l.committed (λ f. begins_below p (extent_of f)) in let up = sum_less b ws' ps' r'.memory (begins_below p) in
      full (claimed_sum (begins_below p) ps) (claimed_sum (begins_below p) ps') (committed_sum (begins_below p) ps) (committed_sum (begins_below p) ps') (begins_below p (extent_of l.frame)) same c d up);
  among = λ f a h. (let c = l.committed h in let x = a h in least (h f) (total (committed_weight h) ps) (total (committed_weight h) ps') (h l.frame) x c);
}
  where
    tails : (s p t t' : ℕ) → p ≡ s + t → t' ≡ t → p ≡ s + t'
    tails s p t t' e c = omega arith

    more : (a c : ℕ) → 0 < a → c ≡ a → 0 < c
    more a c pos e = omega arith

    full : (s s' c c' k : ℕ) → s ≡ c → s' ≡ s → c' ≡ c + k → c' ≤ s' → s' ≡ c'
    full s s' c c' k e f g le = omega arith

    least : (f t t' k : ℕ) → f ≤ t → t' ≡ t + k → f ≤ t'
    least f t t' k x e = omega arith

pub grows : (b : Bounds) (ws ws' : List ℕ) (ps ps' : List Pass) → Ruled b ws ps → Ruled b ws' ps' → IsEvent b ps ps' → Grows b ps ps'
grows b ws ws' ps ps' r r' e = ⊎_elim (λ (l : IsLook ps ps'). looks b ps ps' l) (λ (o : IsClaimed b ps ps' ⊎ IsCommitted b ps ps'). ⊎_elim (λ (c : IsClaimed b ps ps'). claims b ws ps ps' r c) (λ (d : IsCommitted b ps ps'). commits b ws' ps ps' r' d) o) e

-- ---- what it leaves of consumers and the keeper

-- the words that consumers and the keeper look at are the same
pub record Spared (words after : List ℕ) : Type 0 where
  pub limit : slice_index after limit_place ≡ slice_index words limit_place
  pub consumers : (j : ℕ) → j < 8 → slice_index after (consumer_place j) ≡ slice_index words (consumer_place j)

pub placed_on : (b : Bounds) (ps ps' : List Pass) → Grows b ps ps' → (p : ℕ) → IsPlaced b ps p → IsPlaced b ps' p
placed_on b ps ps' g p k = record { unit = k.unit; from = k.from; readable = k.readable; edge = g.edge p k.edge; passed = g.passed p k.edge k.passed }

pub seen_on : (b : Bounds) (ps ps' : List Pass) → Grows b ps ps' → (p : ℕ) → IsSeen b ps p → IsSeen b ps' p
seen_on b ps ps' g p k = record { unit = k.unit; from = k.from; edge = g.edge p k.edge; passed = g.passed p k.edge k.passed }

-- who isn't the keeper knows nothing as such
pub not_keeping : (b : Bounds) (n ws : List ℕ) (ps : List Pass) (k : Keeping) → (k.right ≡ 1 → ⊥) → IsKeeper b n ws ps k
not_keeping b n ws ps k isnt = record { limit = λ yes. absurd (isnt yes); cleaned = λ yes. absurd (isnt yes); there = λ yes. absurd (isnt yes); all = λ yes. absurd (isnt yes); swept = λ yes. absurd (isnt yes); seen = λ yes. absurd (isnt yes) }

-- there are no more numbers than eight
pub there_low : (there : List ℕ) (j : ℕ) → length there ≡ 8 → IsThere there j → j < 8
there_low there j eight here = dite (dec_le 8 j) (λ past. absurd (let none : slice_index there j ≡ 0 = get_or_past there j 0 (omega arith) in omega arith)) (λ low. lt_of_not-le low)

-- who stands where it stood knows what it knew
pub reader_at : (b : Bounds) (ws ws' : List ℕ) (ps ps' : List Pass) → Grows b ps ps' → (x : Reading) → (x.number < 8 → slice_index ws' (consumer_place x.number) ≡ slice_index ws (consumer_place x.number)) → IsReader ws ps x → IsReader ws' ps' x
reader_at b ws ws' ps ps' g x same k = record { position = λ low. same low ∙ k.position low; known = all_weaker (IsAmong ps) (IsAmong ps') g.among x.known k.known }

pub reader_on : (b : Bounds) (ws ws' : List ℕ) (ps ps' : List Pass) → Grows b ps ps' → Spared ws ws' → (x : Reading) → IsReader ws ps x → IsReader ws' ps' x
reader_on b ws ws' ps ps' g s x k = reader_at b ws ws' ps ps' g x (s.consumers x.number) k

pub keeper_on : (b : Bounds) (n : List ℕ) → length n ≡ 8 → (ws ws' : List ℕ) (ps ps' : List Pass) → Grows b ps ps' → Spared ws ws' → (x : Keeping) → IsKeeper b n ws ps x → IsKeeper b n ws' ps' x
keeper_on b n eight ws ws' ps ps' g s x k = record {
  limit = k.limit;
  cleaned = k.cleaned;
  there = k.there;
  all = k.all;
  swept = λ one j here. (let e = s.consumers j (there_low n j eight here) in let le = k.swept one j here in up (slice_index x.positions j) (slice_index ws (consumer_place j)) (slice_index ws' (consumer_place j)) le e);
  seen = λ one j here. seen_on b ps ps' g (slice_index x.positions j) (k.seen one j here);
}
  where
    up : (a c d : ℕ) → a ≤ c → d ≡ c → a ≤ d
    up a c d le e = omega arith

pub attends_on : (b : Bounds) (n : List ℕ) → length n ≡ 8 → (ws ws' : List ℕ) (ps ps' : List Pass) → Grows b ps ps' → Spared ws ws' → (v : Pass) → Attends b n ws ps v → Attends b n ws' ps' v
attends_on b n eight ws ws' ps ps' g s v k = record {
  readings = all_weaker (IsReader ws ps) (IsReader ws' ps') (reader_on b ws ws' ps ps' g s) v.reading k.readings;
  keeping = keeper_on b n eight ws ws' ps ps' g s v.keeping k.keeping;
}

pub same_sum : (f : Pass → ℕ) (ps : List Pass) (id : ℕ) (v w : Pass) → get_elem? ps id ≡ some v → f w ≡ f v → total f (set ps id w) ≡ total f ps
same_sum f ps id v w at e = let a = total_set f ps id v w at in omega arith

pub kept_on : (b : Bounds) (n : List ℕ) (ws ws' : List ℕ) (ps : List Pass) (id : ℕ) (v w : Pass) → get_elem? ps id ≡ some v → Same v w → Grows b ps (set ps id w) → Spared ws ws' → Kept b n ws ps → Kept b n ws' (set ps id w)
kept_on b n ws ws' ps id v w at same g s k = record {
  eight = k.eight;
  flags = k.flags;
  one = k.one;
  any = k.any;
  unit = k.unit;
  ahead = k.ahead;
  free = λ j low none. s.consumers j low ∙ k.free j low none;
  placed = λ j lt. subst (IsPlaced b (set ps id w)) (sym (s.consumers j (there_low n j k.eight lt))) (placed_on b ps (set ps id w) g (slice_index ws (consumer_place j)) (k.placed j lt));
  single = λ j lt. subst (λ (t : ℕ). t ≤ slice_index n j) (sym (same_sum (readers_of j) ps id v w at (ap (λ (l : List Reading). readers_of j (record v { reading = l })) same.reading))) (k.single j lt);
  keepers = subst (λ (t : ℕ). t ≤ 1) (sym (same_sum keepers_of ps id v w at (ap (λ (x : Keeping). x.right) same.keeping))) k.keepers;
  each = λ i u e. ⊎_elim
      (λ (y : (i ≡ id) × (w ≡ u)). subst (Attends b n ws' (set ps id w)) y.1 (moved_to (attends_on b n k.eight ws ws' ps (set ps id w) g s v (k.each id v at))))
      (λ (y : (i ≢ id) × (get_elem? ps i ≡ some u)). attends_on b n k.eight ws ws' ps (set ps id w) g s u (k.each i u y.1))
      (at_set ps id i w u e);
}
  where
    moved_to : Attends b n ws' (set ps id w) v → Attends b n ws' (set ps id w) w
    moved_to a = record {
      readings = subst (AllByRecursion (IsReader ws' (set ps id w))) (sym same.reading) a.readings;
      keeping = subst (IsKeeper b n ws' (set ps id w)) (sym same.keeping) a.keeping;
    }
