-- An addition takes the room of what it claims.
use Rattle.std.proofs.Common.{◌≡◌, ℕ, ◌+◌, ◌-◌, ◌*◌, ◌/◌, ◌%◌, ◌<◌, ◌≤◌, ◌⊎◌, inl, inr, ⊎_elim, min, List, [], ◌∷◌, ◌++◌, length, map, set, sym, refl, ap, ◌∙◌, subst, arith}
use mathlib.Core.Option.{some}
use mathlib.Core.Logic.{dite}
use native.Mathlib.Decide.{ℕ_discrete}
use lib.ListN.{get_elem?}
use Rattle.std.specs.Prelude.{slice_index}
use Rattle.std.specs.List.{AllByRecursion}
use Rattle.atomic_table.specs.Table.{homes_after}
use Rattle.atomic_table.proofs.Lists.{at_set, set_here}
use Rattle.theory.specs.Entry.{Entry, IsEntry, length_of}
use Rattle.theory.specs.Placed.{Among}
use Rattle.theory.specs.Position.{aligned, greatest_claim, span}
use Rattle.theory.specs.Refusal.{limit_in}
use Rattle.theory.proofs.Cuts.{span_unit}
use Rattle.theory.proofs.Lists.{all_behind}
use Rattle.publication.specs.declared.pass.FrameWords.{FrameWords}
use Rattle.publication.specs.declared.pass.Keeping.{Keeping}
use Rattle.publication.specs.declared.pass.Pass.{Pass}
use Rattle.publication.specs.Steps.{extent_of, extents}
use Rattle.region.specs.declared.access.Access.{Access}
use Rattle.log_rule.specs.Claims.Events.{committed_weight}
use Rattle.log_rule.specs.Claims.Rule.{IsClaimEntry, entries_of, entry_of, weight}
use Rattle.log_rule.specs.Claims.Sums.{covers, total}
use Rattle.log_rule.specs.Edges.{AreCommitted, IsAmong, begins_at, begins_below, claimed_sum, in_entry}
use Rattle.log_rule.specs.Table.{LogRuled}
use Rattle.log_rule.proofs.Claimed.Memories.{Opens, cover_passes, held_by, maps_append}
use Rattle.log_rule.proofs.Claimed.Totals.{total_append, total_set}
use Rattle.log_rule.proofs.Edges.{edge_low}
use Rattle.log_rule.proofs.Growing.{same_sum}
use Rattle.log_memory.specs.declared.view.LogView.{LogView}
use Rattle.log_memory.specs.declared.view.Site.{Site}
use Rattle.log_memory.specs.Places.{head_place, slot_of}
use Rattle.log_memory.specs.Rule.{AreSmall, Board, IsBeyond, IsHome, IsRoom, KnowsRoom, Lies, LogMemoryRuled, passes_of, ring, shape, stream_state, tail_in, term}
use Rattle.log_memory.specs.Steps.{IsIdle, IsRoomAt}
use Rattle.log_memory.proofs.Facts.{bounds, end_low, long as long_frame, pass_at, some_ring, tail_limit, tail_near, unit, width}
use Rattle.log_memory.proofs.Lifting.{passes_set, there_low, with_reader_on}
use Rattle.log_memory.proofs.OpenFrames.{open_from, open_to}
use Rattle.log_memory.proofs.Places.{row_apart, row_unit}
use Rattle.log_memory.proofs.Resting.{SameFrames, held_on, knows_on, beyond_on, none_parked, out_on, parked_on, parked_set, same_frames}
use Rattle.log_memory.proofs.Rows.{Full, TakesRow, takes_row}
use Rattle.log_rule.specs.Kept.{IsThere}

-- ---- a claim, where passes stood before

-- an entry's first frame begins where it does
one_at : (e : Entry) → IsEntry e → 0 < in_entry (begins_at e.start) e
one_at e legal = go e.start e.cuts legal.cuts legal.long
  where
    first : (q cut t : ℕ) → 0 < cut → 0 < min (aligned cut) (1 - ((q - q) + (q - q))) + t
    first q cut t pos = omega arith

    go : (q : ℕ) (cuts : List ℕ) → AllByRecursion (λ cut. 0 < cut) cuts → 0 < span cuts → 0 < total (begins_at q) (extents q cuts)
    go q [] all long = absurd (omega arith)
    go q (cut ∷ cuts) all long = first q cut (total (begins_at q) (extents (q + aligned cut) cuts)) all.0

-- and none below
none_under : (p q : ℕ) (cuts : List ℕ) → p ≤ q → total (begins_below p) (extents q cuts) ≡ 0
none_under p q [] le = refl
none_under p q (cut ∷ cuts) le = let r = none_under p (q + aligned cut) cuts (omega arith) in zeros p q (aligned cut) (total (begins_below p) (extents (q + aligned cut) cuts)) le r
  where
    zeros : (p q n t : ℕ) → p ≤ q → t ≡ 0 → min 1 (min n (p - q)) + t ≡ 0
    zeros p q n t le e = omega arith

module _ (t : Site) (s : Board) (r : LogMemoryRuled t s) (id : ℕ) (v w : LogView) (at : get_elem? s.views id ≡ some v) (stream : List ℕ) (q : LogRuled t.key (stream_state stream (set s.views id w))) (o : Opens v.view.pass w.view.pass) where
  abbrev ps : List Pass
  ps = passes_of s.views

  abbrev ps' : List Pass
  ps' = passes_of (set s.views id w)

  abbrev entry : Entry
  entry = entry_of o.claim

  abbrev tail : ℕ
  tail = tail_in t.key (passes_of s.views)

  weighs : (h : Entry → ℕ) → total (weight h) (passes_of (set s.views id w)) ≡ total (weight h) (passes_of s.views) + h (entry_of o.claim)
  weighs h =
      let entries : entries_of w.view.pass ≡ entries_of v.view.pass ++ entry_of o.claim ∷ [] = ap (map entry_of) o.claims ∙ maps_append entry_of v.view.pass.right.claims (o.claim ∷ []) in
      ap (total (weight h)) (passes_set s.views id w)
      ∙ more (total (weight h) (set (passes_of s.views) id w.view.pass)) (total (weight h) (passes_of s.views)) (weight h v.view.pass) (weight h w.view.pass) (h (entry_of o.claim)) (total_set (weight h) (passes_of s.views) id v.view.pass w.view.pass (pass_at s.views id v at)) (ap (total h) entries ∙ total_append h (entries_of v.view.pass) (entry_of o.claim ∷ []))
    where
      more : (now old a c n : ℕ) → now + a ≡ old + c → c ≡ a + (n + 0) → now ≡ old + n
      more now old a c n e g = omega arith

  there : get_elem? (set s.views id w) id ≡ some w
  there = set_here s.views id w (there_low s.views id v at)

  legal : IsClaimEntry (entry_of o.claim)
  legal = (all_behind IsClaimEntry (entries_of v.view.pass) (entry_of o.claim ∷ [])
      (subst (AllByRecursion IsClaimEntry) (ap (map entry_of) o.claims ∙ maps_append entry_of v.view.pass.right.claims (o.claim ∷ [])) (q.ruled.claims.each id w.view.pass (pass_at (set s.views id w) id w there)).entries)).0

  pub grown : tail_in t.key (passes_of (set s.views id w)) ≡ tail_in t.key (passes_of s.views) + span o.claim.cuts
  grown = let e = weighs length_of in more t.key.start (total (weight length_of) (passes_of s.views)) (total (weight length_of) (passes_of (set s.views id w))) (span o.claim.cuts) e
    where
      more : (s a c n : ℕ) → c ≡ a + n → s + c ≡ s + a + n
      more s a c n e = omega arith

  pub at_tail : o.claim.start ≡ tail_in t.key (passes_of s.views)
  at_tail =
      let b = bounds t r.stream s.views r.ruled in let b' = bounds t stream (set s.views id w) q in let m : ℕ = span o.claim.cuts in let pos : 0 < m = legal.entry.long in
      let sum : (x : ℕ) → total (held_by x) (passes_of (set s.views id w)) ≡ total (held_by x) (passes_of s.views) + covers x o.claim.start m = λ x. weighs (λ d. covers x d.start (length_of d)) in
      let now : (x : ℕ) → total (held_by x) (passes_of (set s.views id w)) ≡ min 1 (min (x + 1 - t.key.start) (tail_in t.key (passes_of (set s.views id w)) - x)) = λ x. cover_passes b' stream (passes_of (set s.views id w)) q.ruled.claims x in
      let was : (x : ℕ) → total (held_by x) (passes_of s.views) ≡ min 1 (min (x + 1 - t.key.start) (tail_in t.key (passes_of s.views) - x)) = λ x. cover_passes b r.stream (passes_of s.views) r.ruled.ruled.claims x in
      let low = tail_there t.key.start (tail_in t.key (passes_of s.views)) (tail_in t.key (passes_of (set s.views id w))) (total (held_by (tail_in t.key (passes_of s.views))) (passes_of s.views)) (total (held_by (tail_in t.key (passes_of s.views))) (passes_of (set s.views id w))) m o.claim.start (least t.key.start (total (weight length_of) (passes_of s.views))) pos grown (sum (tail_in t.key (passes_of s.views))) (now (tail_in t.key (passes_of s.views))) (was (tail_in t.key (passes_of s.views))) in
      let high = start_there t.key.start (tail_in t.key (passes_of s.views)) (tail_in t.key (passes_of (set s.views id w))) (total (held_by o.claim.start) (passes_of s.views)) (total (held_by o.claim.start) (passes_of (set s.views id w))) m o.claim.start pos (sum o.claim.start) (now o.claim.start) (was o.claim.start) in
      both o.claim.start (tail_in t.key (passes_of s.views)) low high
    where
      least : (s n : ℕ) → s ≤ s + n
      least s n = omega arith

      both : (a c : ℕ) → a ≤ c → c ≤ a → a ≡ c
      both a c p q = omega arith

      tail_there : (s tail tail' before now m p : ℕ) → s ≤ tail → 0 < m → tail' ≡ tail + m → now ≡ before + covers tail p m → now ≡ min 1 (min (tail + 1 - s) (tail' - tail)) → before ≡ min 1 (min (tail + 1 - s) (tail - tail)) → p ≤ tail
      tail_there s tail tail' before now m p up pos e sum is was = omega arith

      start_there : (s tail tail' before now m p : ℕ) → 0 < m → now ≡ before + covers p p m → now ≡ min 1 (min (p + 1 - s) (tail' - p)) → before ≡ min 1 (min (p + 1 - s) (tail - p)) → tail ≤ p
      start_there s tail tail' before now m p pos sum is was = omega arith

  committed : (h : FrameWords → ℕ) → total (committed_weight h) (passes_of (set s.views id w)) ≡ total (committed_weight h) (passes_of s.views)
  committed h = ap (total (committed_weight h)) (passes_set s.views id w) ∙ same_sum (committed_weight h) (passes_of s.views) id v.view.pass w.view.pass (pass_at s.views id v at) (ap (total h) o.frames)

  pub same : SameFrames (passes_of s.views) (passes_of (set s.views id w))
  same = same_frames (passes_of s.views) (passes_of (set s.views id w)) committed

  pub gone_low : r.freed + r.out ≤ tail_in t.key (passes_of s.views)
  gone_low = edge_low (bounds t r.stream s.views r.ruled) r.stream (passes_of s.views) r.ruled.ruled (r.freed + r.out) r.memory.edge

  edge : 0 < claimed_sum (begins_at (r.freed + r.out)) (passes_of (set s.views id w))
  edge = let p : ℕ = r.freed + r.out in let e = weighs (in_entry (begins_at p)) in ⊎_elim
      (λ here. let one : 0 < in_entry (begins_at p) (entry_of o.claim) = subst (λ (x : ℕ). 0 < in_entry (begins_at x) (entry_of o.claim)) (at_tail ∙ sym here) (one_at (entry_of o.claim) legal.entry) in add (claimed_sum (begins_at p) (passes_of s.views)) (claimed_sum (begins_at p) (passes_of (set s.views id w))) (in_entry (begins_at p) (entry_of o.claim)) e (inr one))
      (λ pos. add (claimed_sum (begins_at p) (passes_of s.views)) (claimed_sum (begins_at p) (passes_of (set s.views id w))) (in_entry (begins_at p) (entry_of o.claim)) e (inl pos))
      r.memory.edge
    where
      add : (a c n : ℕ) → c ≡ a + n → (0 < a) ⊎ (0 < n) → 0 < c
      add a c n e = ⊎_elim (λ p. omega arith) (λ p. omega arith)

  passed : AreCommitted (passes_of (set s.views id w)) (r.freed + r.out)
  passed = let p : ℕ = r.freed + r.out in let e = weighs (in_entry (begins_below p)) in let z = none_under p o.claim.start o.claim.cuts (let a = at_tail in let c = gone_low in omega arith) in
      equal (claimed_sum (begins_below p) (passes_of s.views)) (claimed_sum (begins_below p) (passes_of (set s.views id w))) (in_entry (begins_below p) (entry_of o.claim)) e z ∙ r.memory.passed ∙ sym (committed (λ f. begins_below p (extent_of f)))
    where
      equal : (a c n : ℕ) → c ≡ a + n → n ≡ 0 → c ≡ a
      equal a c n e z = omega arith

  -- ---- its slots

  abbrev p : ℕ
  p = o.claim.start

  abbrev m : ℕ
  m = span o.claim.cuts

  pub units_of_range : (o.claim.start % 32 ≡ 0) × (span o.claim.cuts % 32 ≡ 0)
  units_of_range = (legal.unit, span_unit o.claim.cuts)

  module _ (words : List ℕ) (small : AreSmall stream) (spared : slice_index words 0 ≡ slice_index s.words 0) (controls : (i : ℕ) → i < 208 → slice_index words i ≡ slice_index stream i) (heads : (i : ℕ) → 208 ≤ i → slice_index words i ≡ slice_index s.words i) (long : length words ≡ length s.words)
      (row : o.claim.start % (ring t * 32) + span o.claim.cuts ≤ ring t * 32) (idle : IsIdle v) (part : w.part ≡ v.part) (room : w.room ≡ v.room) (kept : w.parked ≡ v.parked) (keeping : w.view.pass.keeping ≡ v.view.pass.keeping) (before : List (ℕ × Access)) where
    near : tail_in t.key (passes_of (set s.views id w)) < r.freed + 3 * term t
    near = let a = tail_limit t stream (set s.views id w) q in let c = r.memory.ahead in let e = controls 0 (omega arith) in
        go (tail_in t.key (passes_of (set s.views id w))) (slice_index s.words 0) (slice_index words 0) (slice_index stream 0) (greatest_claim (shape t)) (r.freed + 3 * term t) spared e a c
      where
        go : (tail old n m g far : ℕ) → n ≡ old → n ≡ m → tail ≤ m / 4 * 4 + g * 8 → old / 4 * 4 + g * 8 < far → tail < far
        go tail old n m g far e d a c = omega arith

    full : Full s.homes (IsRoomAt t) (slot_of (ring t) o.claim.start 0) (span o.claim.cuts / 4)
    full i lo hi =
        let u = row_unit (ring t) o.claim.start (span o.claim.cuts) i (some_ring t r.stream s.views r.ruled) units_of_range.0 units_of_range.1 row lo hi in let from = u.from in let to = u.to in let a = at_tail in let g = grown in let n = near in
        let free = r.memory.free u.at u.unit (omega arith) (omega arith) in
        dite (ℕ_discrete u.number 0)
        (λ e. let same' : slot_of (ring t) u.at 0 ≡ i = ap (slot_of (ring t) u.at) (sym e) ∙ u.is in (free.room.access, ap (get_elem? s.homes) (sym same') ∙ free.room.there, λ _. subst (λ (k : ℕ). IsRoom t k free.room.access) same' free.room.so))
        (λ ne. let h = free.others u.number u.low in (h.access, ap (get_elem? s.homes) (sym u.is) ∙ h.there, λ e. absurd (ne (u.first e))))

    pub takes : TakesRow s.homes (IsRoomAt t) (slot_of (ring t) o.claim.start 0) (span o.claim.cuts / 4) before
    takes = takes_row s.homes (IsRoomAt t) (slot_of (ring t) o.claim.start 0) (span o.claim.cuts / 4) before full

    abbrev pub after : Board
    after = record { words = words; homes = homes_after s.homes before takes.act; views = set s.views id w }

    -- a slot of a unit that isn't in the range is where it was
    home_on : (x j : ℕ) (is : Access → Type 0) → x % 32 ≡ 0 → r.freed ≤ x → x < r.freed + 3 * term t → (x < o.claim.start) ⊎ (o.claim.start + span o.claim.cuts ≤ x) → j < 8 → IsHome s (slot_of (ring t) x j) is → IsHome after (slot_of (ring t) x j) is
    home_on x j is ux lo hi out lt h =
        let wide = width t r.stream s.views r.ruled in let a = at_tail in let c = gone_low in let g = grown in let n = near in record {
          access = h.access;
          there = takes.others (slot_of (ring t) x j) (row_apart (ring t) r.freed o.claim.start (span o.claim.cuts) x j (some_ring t r.stream s.views r.ruled) units_of_range.0 units_of_range.1 row (omega arith) (omega arith) ux lo (omega arith) out lt) ∙ h.there;
          so = h.so;
        }

    lies_on : (f : FrameWords) → IsAmong (passes_of s.views) f → r.freed ≤ f.start → Lies t s r.rounds f → Lies t after r.rounds f
    lies_on f among from l = let end = end_low t r.stream s.views r.ruled f among in let a = at_tail in let near' = tail_near t s r in let n = long_frame t r.stream s.views r.ruled f among in record {
      parts = λ j lt. ⊎_elim
          (λ h. inl (home_on f.start j _ (unit t r.stream s.views r.ruled f among) from (omega arith) (inl (omega arith)) lt h))
          (λ b. inr (let x = with_reader_on s words id v w at idle f.start j b in record { seat = x.seat; view = x.view; there = x.there; part = x.part }))
          (l.parts j lt);
      inside = λ x j ux lo hi lt. home_on x j _ ux (omega arith) (omega arith) (inl (omega arith)) lt (l.inside x j ux lo hi lt);
    }

    pub added : LogMemoryRuled t after
    added =
        let ps = passes_of s.views in let ps' = passes_of (set s.views id w) in let m' = r.memory in record {
          stream = stream;
          freed = r.freed;
          out = r.out;
          rounds = r.rounds;
          ruled = q;
          words = record {
            long = long ∙ r.words.long;
            small = small;
            controls = controls;
            heads = λ f among from. heads (head_place (ring t) f.start) (let x : ℕ = f.start / 32 % ring t in omega arith) ∙ r.words.heads f (same.back f among) from;
            rest = λ x ux from to none. heads (head_place (ring t) x) (let y : ℕ = x / 32 % ring t in omega arith) ∙ r.words.rest x ux from to (λ f among. none f (same.there f among));
          };
          memory = record {
            shelves = takes.long ∙ m'.shelves;
            unit = m'.unit;
            edge = inr edge;
            passed = passed;
            ahead = subst (λ (n : ℕ). limit_in n + greatest_claim (shape t) * 8 < r.freed + 3 * term t) (sym spared) m'.ahead;
            free = λ x ux from to. (let g = grown in let a = at_tail in let c = gone_low in let f = m'.free x ux (omega arith) to in record {
              room = home_on x 0 _ ux (omega arith) to (inr (omega arith)) (omega arith) f.room;
              others = λ j lt. home_on x j _ ux (omega arith) to (inr (omega arith)) lt (f.others j lt);
            });
            frames = λ f among from. lies_on f (same.back f among) (omega arith) (m'.frames f (same.back f among) from);
            taken = λ some'. out_on t ps ps' same r.freed r.out (m'.taken some');
            held = λ i x here has. ⊎_elim
                (λ e. absurd (clash w.part.has v.part.has x.part.has (ap (λ y. y.has) part) (ap (λ (y : LogView). y.part.has) e.1) has idle.0))
                (λ e. held_on t ps ps' same r.rounds x (m'.held i x e.1 has))
                (at_set s.views id i w x here);
            readers = λ i x y here among low. ⊎_elim
                (λ e. beyond_on t ps ps' same (r.freed + r.out) y.position (m'.readers id v y at (subst (Among y) (sym (ap (λ (z : LogView). z.view.pass.reading) e.1) ∙ o.reading) among) low))
                (λ e. beyond_on t ps ps' same (r.freed + r.out) y.position (m'.readers i x y e.1 among low))
                (at_set s.views id i w x here);
            keeper = λ i x here one. ⊎_elim
                (λ e. subst (KnowsRoom t ps' r.freed r.out) e.1 (knows_on t ps ps' same r.freed r.out w (own (subst (λ (z : LogView). z.view.pass.keeping.right ≡ 1) (sym e.1) one))))
                (λ e. knows_on t ps ps' same r.freed r.out x (m'.keeper i x e.1 one))
                (at_set s.views id i w x here);
            parked = parked_set t s after id w (none_parked t after w (kept ∙ idle.1)) (λ i x f ne here among. let a = m'.parked i x f here among in let from = open_from t s r i x here f a.draft in let to = open_to t s r i x here f a.draft in
                parked_on t s after x f (λ p j is unit lo hi lt h. let z = at_tail in let n = tail_near t s r in home_on p j is unit (omega arith) (omega arith) (inl (omega arith)) lt h) a);
          };
        }
      where
        clash : (a c d : ℕ) → a ≡ c → a ≡ d → d ≡ 1 → c ≡ 0 → ⊥
        clash a c d e g one none = omega arith

        own : w.view.pass.keeping.right ≡ 1 → KnowsRoom t (passes_of s.views) r.freed r.out w
        own one = let k = r.memory.keeper id v at (sym (ap (λ (x : Keeping). x.right) keeping) ∙ one) in record {
          freed_is = ap (λ x. x.freed) room ∙ k.freed_is;
          out_is = ap (λ x. x.out) room ∙ k.out_is;
          cleaned = subst (λ (x : Keeping). x.cleaned ≤ r.freed) (sym keeping) k.cleaned;
          seen = λ j there'. subst (λ (x : Keeping). IsBeyond t (passes_of s.views) (r.freed + r.out) (slice_index x.positions j)) (sym keeping) (k.seen j (subst (λ (x : Keeping). IsThere x.there j) keeping there'));
        }
