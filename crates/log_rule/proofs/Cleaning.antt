-- A word that all consumers have left behind by a term becomes zero.
use Rattle.std.proofs.Common.{◌≡◌, ◌≢◌, inl, inr, ℕ, suc, ◌+◌, ◌-◌, ◌*◌, ◌%◌, ◌/◌, ◌<◌, ◌≤◌, max, min, List, [], ◌∷◌, map, length, set, length-set, get_or-set_same, get_or-set_other, sym, refl, ap, ◌∙◌, subst, ⊎_elim, lt_of_not-le, arith}
use mathlib.Core.Option.{some}
use mathlib.Core.Logic.{dite}
use native.Mathlib.Decide.{dec_le}
use lib.ListN.{get_elem?}
use Rattle.std.specs.Prelude.{slice_index}
use Rattle.std.specs.List.{AllByRecursion}
use Rattle.std.proofs.Math.Nat.{add-mod_right}
use Rattle.std.proofs.lemmas.List.{map-set}
use Rattle.atomic_table.specs.Table.{Allows, keeps}
use Rattle.atomic_table.proofs.Lists.{at_map, at_set}
use Rattle.theory.specs.Position.{aligned}
use Rattle.theory.specs.Bytes.{Identity}
use Rattle.theory.specs.Entry.{Entry, length_of}
use Rattle.theory.specs.Placed.{Among}
use Rattle.theory.proofs.Lists.{all_at, all_from, all_weaker, among_right}
use Rattle.publication.specs.declared.pass.FrameWords.{FrameWords}
use Rattle.publication.specs.declared.pass.Keeping.{Keeping}
use Rattle.publication.specs.declared.pass.Pass.{Pass}
use Rattle.publication.specs.declared.pass.Reading.{Reading}
use Rattle.publication.specs.Steps.{Extent, extent_of, extents, frames_of, term_of}
use Rattle.log_rule.specs.declared.claims.view.View.{View}
use Rattle.log_rule.specs.Claims.Packs.{consumer_place, data_place, limit_place, ring_of, slot}
use Rattle.log_rule.specs.Claims.Sums.{covers, total}
use Rattle.log_rule.specs.Claims.Terms.{claimed_to}
use Rattle.log_rule.specs.Claims.Rule.{Bounds, ClaimsHold, IsClaimEntry, entries_of, first_of, shape_of, size_of, weight}
use Rattle.log_rule.specs.Claims.Memory.{IsAligned, Ruled, StandsInTable, Stored, tail_of}
use Rattle.log_rule.specs.Claims.Sure.{LearnsControls}
use Rattle.log_rule.specs.Claims.Plays.{Mine, pass_in}
use Rattle.log_rule.proofs.Claimed.Totals.{total_at}
use Rattle.log_rule.proofs.Claimed.Accounts.{moved, same_over, same_room, unchanged}
use Rattle.log_rule.proofs.Claimed.Tails.{elsewhere}
use Rattle.log_rule.proofs.Claimed.Memories.{slot_apart, tail_is, tail_low, whole_words}
use Rattle.log_rule.proofs.Claimed.Sures.{data_leaves, sure_on}
use Rattle.log_rule.specs.declared.rule.Key.{Key}
use Rattle.log_rule.specs.Edges.{AreCommitted, IsAmong, IsPlaced, begins_below, claimed_sum, committed_sum, in_entry, open_sum, open_weight}
use Rattle.log_rule.specs.Numbers.{AreNumbered}
use Rattle.log_rule.proofs.Owning.{attends_goes, numbered_on}
use Rattle.log_rule.specs.Kept.{Attends, IsReader, IsThere, Kept, keepers_of, readers_of}
use Rattle.log_rule.specs.Table.{LogRuled, now_at}
use Rattle.log_rule.specs.Keepings.{CleansWord, MayClean, keeping, least_there, with_keeping}
use Rattle.log_rule.proofs.Sums.{all_parted, claimed_by, covered, covering}
use Rattle.log_rule.proofs.Edges.{edge_low}
use Rattle.log_rule.proofs.Growing.{Grows, grows, not_keeping, placed_on, same_sum, seen_on, there_low}
use Rattle.log_rule.proofs.Resting.{rest_looks, rested_here}
use Rattle.log_rule.proofs.Known.{among_total}
use Rattle.log_rule.proofs.Keeping.{least_low, not_keeper}

-- ---- no open frame begins below a consumer

-- a claim's frames aren't empty
full_cuts : (p : ℕ) (cuts : List ℕ) → AllByRecursion (λ cut. 0 < cut) cuts → total (λ (r : Extent). 1 - r.bytes) (extents p cuts) ≡ 0
full_cuts p [] all = refl
full_cuts p (cut ∷ cuts) all = let r = full_cuts (p + aligned cut) cuts all.1 in let pos = all.0 in go cut (total (λ (r : Extent). 1 - r.bytes) (extents (p + aligned cut) cuts)) pos r
  where
    go : (cut t : ℕ) → 0 < cut → t ≡ 0 → (1 - aligned cut) + t ≡ 0
    go cut t pos z = omega arith

full_entries : (es : List Entry) → AllByRecursion IsClaimEntry es → total (in_entry (λ r. 1 - r.bytes)) es ≡ 0
full_entries [] a = refl
full_entries (e ∷ es) a = let r = full_entries es a.1 in let h = full_cuts e.start e.cuts a.0.entry.cuts in omega arith

module _ (b : Bounds) (ws : List ℕ) (ps : List Pass) (r : Ruled b ws ps) where
  no_drafts : (p : ℕ) → AreCommitted ps p → open_sum (begins_below p) ps ≡ 0
  no_drafts p done = none (claimed_sum (begins_below p) ps) (committed_sum (begins_below p) ps) (open_sum (begins_below p) ps) done (all_parted b ws ps r.memory (begins_below p))
    where
      none : (s c d : ℕ) → s ≡ c → s ≡ c + d → d ≡ 0
      none s c d e f = omega arith

  -- a frame has some words
  frame_full : (j : ℕ) (v : Pass) → get_elem? ps j ≡ some v → (f : FrameWords) → Among f (frames_of v) → 0 < length f.words
  frame_full j v at f among =
      let z = full_entries (entries_of v) (r.claims.each j v at).entries in let e = claimed_by b ws v (r.memory.each j v at) (λ x. 1 - x.bytes) in let a = among_total (λ g. 1 - (8 * length g.words)) (frames_of v) f among in
      go (length f.words) (weight (in_entry (λ x. 1 - x.bytes)) v) (total (λ g. 1 - (8 * length g.words)) (frames_of v)) z e a
    where
      go : (n w t : ℕ) → w ≡ 0 → w ≡ t → 1 - 8 * n ≤ t → 0 < n
      go n w t z e a = omega arith

  draft_above : (p : ℕ) → AreCommitted ps p → (j : ℕ) (v : Pass) → get_elem? ps j ≡ some v → (f : FrameWords) → Among f v.work.drafts → p ≤ f.start
  draft_above p done j v at f among =
      let z = no_drafts p done in let a = total_at (open_weight (begins_below p)) ps j v at in let c = among_total (λ g. begins_below p (extent_of g)) v.work.drafts f among in let long = frame_full j v at f (among_right f v.work.frames v.work.drafts among) in
      go p f.start (length f.words) (total (λ g. begins_below p (extent_of g)) v.work.drafts) (open_sum (begins_below p) ps) z a c long
    where
      go : (p s n d t : ℕ) → t ≡ 0 → d ≤ t → min 1 (min (8 * n) (p - s)) ≤ d → 0 < n → p ≤ s
      go p s n d t z a c long = omega arith

  -- a frame's words lie below the tail
  word_low : (j : ℕ) (v : Pass) → get_elem? ps j ≡ some v → (f : FrameWords) → Among f (frames_of v) → (i : ℕ) → i < length f.words → f.start + 8 * i < tail_of b ps
  word_low j v at f among i lt =
      let y : ℕ = f.start + 8 * i in let e = claimed_by b ws v (r.memory.each j v at) (covering y) in let a = among_total (λ g. covering y (extent_of g)) (frames_of v) f among in let c = total_at (weight (in_entry (covering y))) ps j v at in let d = covered b ws ps r.claims y in
      go f.start i (length f.words) b.start (tail_of b ps) (total (λ g. covering y (extent_of g)) (frames_of v)) (weight (in_entry (covering y)) v) (claimed_sum (covering y) ps) lt a e c d
    where
      go : (s i n st t k w c : ℕ) → i < n → covers (s + 8 * i) s (8 * n) ≤ k → w ≡ k → w ≤ c → c ≡ min 1 (min (s + 8 * i + 1 - st) (t - (s + 8 * i))) → s + 8 * i < t
      go s i n st t k w c lt a e l d = omega arith

-- ---- the step

abbrev further : Bounds → Bounds
further b = record b { floor = b.cleaned + 8; cleaned = b.cleaned + 8 }

module _ (b : Bounds) (ws : List ℕ) (ps : List Pass) (r : Ruled b ws ps) (p : ℕ) (placed : IsPlaced b ps p) (ahead : b.limit + b.greatest * 8 < b.cleaned + 3 * size_of b) (unit : b.cleaned % 8 ≡ 0) (below : b.cleaned + 8 ≤ max b.start (p - size_of b)) (id : ℕ) (v : Pass) (k : Keeping) (at : get_elem? ps id ≡ some v) where
  low : b.cleaned + 8 ≤ p
  low = let a = placed.from in go b.cleaned b.start p (size_of b) below a
    where
      go : (c s p t : ℕ) → c + 8 ≤ max s (p - t) → s ≤ p → c + 8 ≤ p
      go c s p t a d = omega arith

  tail_up : b.cleaned + 8 ≤ tail_of b ps
  tail_up = let a = low in let e = edge_low b ws ps r p placed.edge in omega arith

  pub cleaned_rule_at : Ruled (further b) (set ws (slot (shape_of b) b.cleaned) 0) (set ps id (with_keeping v k))
  cleaned_rule_at =
      let t = r.claims.terms in let c = r.claims.each id v at in let w : Pass = with_keeping v k in let ps' : List Pass = set ps id w in let i : ℕ = slot (shape_of b) b.cleaned in let ws' : List ℕ = set ws i 0 in let whole = whole_words b ws ps r.claims in
      let inside : i < length ws = (let e = r.claims.wide in let so = r.claims.sound.geometry in let q = mod_low (b.cleaned / 8) (ring_of (shape_of b)) (ring_some (size_of b) so.term.least) in within (b.cleaned / 8 % ring_of (shape_of b)) (ring_of (shape_of b)) (length ws) q e) in
      let claims : ClaimsHold b ws' ps' = moved b ws ps r.claims id v w ws' r.claims.log t at (unchanged (shape_of b) t) (elsewhere (shape_of b) (first_of b) t ws ws' (λ j some' lt. get_or-set_other ws i j 0 0 (λ e. omega arith)) r.claims.tailed)
      (record { identity = c.identity; start = c.start; number = c.number; right = c.right; entries = c.entries; seen = c.seen }) refl (length-set ws i 0) (get_or-set_other ws i 0 0 0 (λ e. omega arith)) (same_over b ws ps r.claims id v w at refl refl) r.claims.tiles (λ h. refl) (same_room b ws ps r.claims id v w at refl) r.claims.reached in
      let up = tail_up in let same_tail : tail_of b ps' ≡ tail_of b ps = ap (λ (n : ℕ). b.start + n) (same_sum (weight length_of) ps id v w at refl) in
      let top = tail_low b ws ps r.claims in
      let apart : (x : ℕ) → x % 8 ≡ 0 → b.cleaned + 8 ≤ x → x < b.cleaned + 3 * size_of b → slice_index ws' (slot (shape_of b) x) ≡ slice_index ws (slot (shape_of b) x) = λ x u from under. get_or-set_other ws i (slot (shape_of b) x) 0 0
      (slot_apart b whole x b.cleaned u unit (let q : b.cleaned ≤ x = omega arith in q, under) (let q : b.cleaned ≤ b.cleaned = omega arith in q, (let so = r.claims.sound.geometry in some_room b.cleaned (size_of b) so.term.least)) (λ e. omega arith)) in
      let stored : (j : ℕ) (u : Pass) → get_elem? ps j ≡ some u → Stored (further b) ws' u = λ j u e. (let m = r.memory.each j u e in record {
        stands = all_from (StandsInTable (further b) ws') (frames_of u) (λ f among n lt from. (let a = all_at IsAligned f (frames_of u) m.aligned among in let y = word_low b ws ps r j u e f among n lt in
            apart (f.start + 8 * n) (even f.start n a) from (under_top (f.start + 8 * n) (tail_of b ps) (b.limit + b.greatest * 8) (b.cleaned + 3 * size_of b) y top ahead) ∙ all_at (StandsInTable b ws) f (frames_of u) m.stands among n lt (let q : b.cleaned ≤ f.start + 8 * n = omega arith in q)));
        placed = m.placed;
        aligned = m.aligned;
        done = m.done;
        undone = m.undone;
        kept = all_from (λ f. b.cleaned + 8 ≤ f.start) u.work.drafts (λ f among. let a = draft_above b ws ps r p placed.passed j u e f among in let l = low in up_to (b.cleaned + 8) p f.start l a);
      }) in
      record {
        claims = record {
          sound = record { geometry = claims.sound.geometry; unit = claims.sound.unit; below = claims.sound.below; greatest = claims.sound.greatest; limit = claims.sound.limit };
          wide = claims.wide;
          limit = claims.limit;
          terms = claims.terms;
          tailed = claims.tailed;
          log = claims.log;
          tiles = claims.tiles;
          fair = claims.fair;
          reached = (let e = tail_is b ws' ps' claims in reach (b.cleaned + 8) (tail_of b ps) (tail_of b ps') (claimed_to (shape_of b) claims.terms) up same_tail e);
          parted = claims.parted;
          over = claims.over;
          room = claims.room;
          each = λ j u e. (let x = claims.each j u e in record { identity = x.identity; start = x.start; number = x.number; right = record { capped = x.right.capped; able = x.right.able; once = x.right.once; idle = x.right.idle }; entries = x.entries; seen = x.seen });
        };
        memory = record {
          cleaned = omega arith;
          held = (let h = ahead in held_more (b.limit + b.greatest * 8) b.cleaned (size_of b) h);
          zeros = λ x u above under. (let above' : tail_of b ps ≤ x = subst (λ (n : ℕ). n ≤ x) same_tail above in dite (dec_le (b.cleaned + 3 * size_of b) x)
              (λ far. let is : x ≡ b.cleaned + 3 * size_of b = one_word x b.cleaned (size_of b) u unit whole far under in
              let there : slot (shape_of b) x ≡ i = ap (slot (shape_of b)) is ∙ ap (λ (n : ℕ). data_place + n) (ap (λ (n : ℕ). n % ring_of (shape_of b)) (three_on b.cleaned (size_of b) unit whole) ∙ add-mod_right (b.cleaned / 8) (ring_of (shape_of b))) in
              ap (slice_index ws') there ∙ get_or-set_same ws i 0 0 inside)
              (λ near. let lt = lt_of_not-le near in apart x u (up_to (b.cleaned + 8) (tail_of b ps) x up above') lt ∙ r.memory.zeros x u above' lt));
          each = λ j u e. ⊎_elim
              (λ (y : (j ≡ id) × (w ≡ u)). subst (Stored (further b) ws') y.1 (same_work (stored id v at)))
              (λ (y : (j ≢ id) × (get_elem? ps j ≡ some u)). stored j u y.1)
              (at_set ps id j w u e);
        };
      }
    where
      ring_some : (t : ℕ) → 65536 ≤ t → 0 < 3 * (t / 8)
      ring_some t le = omega arith

      mod_low : (x n : ℕ) → 0 < n → x % n < n
      mod_low x n pos = omega arith

      within : (a q l : ℕ) → a < q → l ≡ 208 + q → 208 + a < l
      within a q l lt e = omega arith

      some_room : (c t : ℕ) → 65536 ≤ t → c < c + 3 * t
      some_room c t le = omega arith

      even : (s n : ℕ) → s % 8 ≡ 0 → (s + 8 * n) % 8 ≡ 0
      even s n e = omega arith

      under_top : (y t l c : ℕ) → y < t → t ≤ l → l < c → y < c
      under_top y t l c a d e = omega arith

      up_to : (a c d : ℕ) → a ≤ c → c ≤ d → a ≤ d
      up_to a c d e f = omega arith

      reach : (c t t' e : ℕ) → c ≤ t → t' ≡ t → t' ≡ e → c ≤ e
      reach c t t' e a d f = omega arith

      held_more : (l c t : ℕ) → l < c + 3 * t → l ≤ c + 8 + 3 * t
      held_more l c t h = omega arith

      one_word : (x c t : ℕ) → x % 8 ≡ 0 → c % 8 ≡ 0 → t % 8 ≡ 0 → c + 3 * t ≤ x → x < c + 8 + 3 * t → x ≡ c + 3 * t
      one_word x c t a d e f g = omega arith

      three_on : (c t : ℕ) → c % 8 ≡ 0 → t % 8 ≡ 0 → (c + 3 * t) / 8 ≡ c / 8 + 3 * (t / 8)
      three_on c t a d = omega arith

      same_work : Stored (further b) (set ws (slot (shape_of b) b.cleaned) 0) v → Stored (further b) (set ws (slot (shape_of b) b.cleaned) 0) (with_keeping v k)
      same_work m = record { stands = m.stands; placed = m.placed; aligned = m.aligned; done = m.done; undone = m.undone; kept = m.kept }

-- ---- a zero is stored

module _ (key : Key) (slots id : ℕ) (m : Mine) where
  pub clean : MayClean m.0.pass → Allows (LogRuled key) slots id m (slot key.identity.geometry m.0.pass.keeping.cleaned) (λ _. 0) (λ _ m'. keeping (λ v w. LearnsControls [] v w) CleansWord m m')
  clean may s q homes at small =
      let v : View = m.0 in let ws : List ℕ = s.words in let qs : List Pass = map pass_in s.views in let old : ℕ = slice_index ws limit_place in
      let bs : Bounds = now_at key old q.cleaned in let here = at_map pass_in s.views id v at in let a = q.kept.each id v.pass here in let c = q.ruled.claims.each id v.pass here in
      let i : ℕ = slot key.identity.geometry v.pass.keeping.cleaned in let ws' : List ℕ = set ws i 0 in let k : Keeping = record v.pass.keeping { cleaned = v.pass.keeping.cleaned + 8 } in
      let w : View = record { pass = with_keeping v.pass k; steps = suc v.steps; controls = v.controls; sure = v.sure } in let qs' : List Pass = set qs id w.pass in
      let cleaned_is : v.pass.keeping.cleaned ≡ q.cleaned = a.keeping.cleaned may.keeper in
      let shape : term_of v.pass ≡ size_of bs = ap (λ (y : Identity). y.geometry.term_length) c.identity in
      let any = q.kept.any in
      -- what lies a term below the least consumer lies a term below each
      let there_is : v.pass.keeping.there ≡ q.there = a.keeping.there may.keeper in
      let under : (j : ℕ) → IsThere q.there j → q.cleaned + 8 ≤ max key.start (slice_index ws (consumer_place j) - size_of bs) = λ j lt. (let l = least_low v.pass.keeping.there v.pass.keeping.positions j (subst (λ (y : List ℕ). 0 < slice_index y j) (sym there_is) (let one = lt in omega arith)) in let sw = a.keeping.swept may.keeper j lt in let mb = may.below in
      spread v.pass.keeping.cleaned q.cleaned v.pass.start key.start (least_there v.pass.keeping.there v.pass.keeping.positions) (slice_index v.pass.keeping.positions j) (slice_index ws (consumer_place j)) (term_of v.pass) (size_of bs) cleaned_is c.start l sw shape mb) in
      let pl = q.kept.placed q.kept.one any in
      let there : slot (shape_of bs) q.cleaned ≡ i = ap (slot key.identity.geometry) (sym cleaned_is) in
      let ruled : Ruled (further bs) ws' qs' = subst (λ (z : ℕ). Ruled (further bs) (set ws z 0) qs') there (cleaned_rule_at bs ws qs q.ruled (slice_index ws (consumer_place q.kept.one)) pl q.kept.ahead q.kept.unit (under q.kept.one any) id v.pass k here) in
      let g : Grows bs qs qs' = grows bs ws ws qs qs' q.ruled (rested_here bs ws qs q.ruled id v.pass v.pass.reading k here) (inl (rest_looks qs id v.pass v.pass.reading k here)) in
      let limit : slice_index ws' limit_place ≡ old = get_or-set_other ws i 0 0 0 (λ e. omega arith) in
      let others : (j : ℕ) → j < 8 → slice_index ws' (consumer_place j) ≡ slice_index ws (consumer_place j) = λ j lt. get_or-set_other ws i (consumer_place j) 0 0 (λ e. far_off j (v.pass.keeping.cleaned / 8 % ring_of key.identity.geometry) lt e) in
      let readers : (rs : List Reading) → AllByRecursion (IsReader ws qs) rs → AllByRecursion (IsReader ws' qs') rs = λ rs b. all_weaker (IsReader ws qs) (IsReader ws' qs') (λ x z. record { position = λ lt. others x.number lt ∙ z.position lt; known = all_weaker (IsAmong qs) (IsAmong qs') g.among x.known z.known }) rs b in
      let kept : Kept (further bs) q.there ws' qs' = record {
        eight = q.kept.eight;
        flags = q.kept.flags;
        one = q.kept.one;
        any = any;
        free = λ j low none. others j low ∙ q.kept.free j low none;
        unit = (let u = q.kept.unit in eight q.cleaned u);
        ahead = (let h = q.kept.ahead in more_room (bs.limit + bs.greatest * 8) q.cleaned (size_of bs) h);
        placed = λ j lt. (let z = placed_on bs qs qs' g (slice_index ws (consumer_place j)) (q.kept.placed j lt) in let u = under j lt in subst (IsPlaced (further bs) qs') (sym (others j (there_low q.there j q.kept.eight lt))) record { unit = z.unit; from = z.from; readable = u; edge = z.edge; passed = z.passed });
        single = λ j lt. subst (λ (t : ℕ). t ≤ slice_index q.there j) (sym (same_sum (readers_of j) qs id v.pass w.pass here refl)) (q.kept.single j lt);
        keepers = subst (λ (t : ℕ). t ≤ 1) (sym (same_sum keepers_of qs id v.pass w.pass here refl)) q.kept.keepers;
        each = λ j u e. ⊎_elim
            (λ (y : (j ≡ id) × (w.pass ≡ u)). subst (Attends (further bs) q.there ws' qs') y.1 record {
              readings = readers v.pass.reading a.readings;
              keeping = record {
                limit = a.keeping.limit;
                cleaned = λ _. ap (λ (n : ℕ). n + 8) cleaned_is;
                there = a.keeping.there;
                all = a.keeping.all;
                swept = λ yes j h. (let le = a.keeping.swept yes j h in let e = others j (there_low q.there j q.kept.eight h) in stays (slice_index v.pass.keeping.positions j) (slice_index ws (consumer_place j)) (slice_index ws' (consumer_place j)) le e);
                seen = λ yes j h. (let z = seen_on bs qs qs' g (slice_index v.pass.keeping.positions j) (a.keeping.seen yes j h) in record { unit = z.unit; from = z.from; edge = z.edge; passed = z.passed });
              };
            })
            (λ (y : (j ≢ id) × (get_elem? qs j ≡ some u)). let o = q.kept.each j u y.1 in record {
              readings = readers u.reading o.readings;
              keeping = not_keeping (further bs) q.there ws' qs' u.keeping (not_keeper qs id j v.pass u here y.0 y.1 may.keeper q.kept.keepers);
            })
            (at_set qs id j w.pass u e);
      } in
      let is_set : map pass_in (set s.views id w) ≡ qs' = map-set pass_in s.views id w in let sure = q.sure.each id v at in (
        w,
        keeps,
        tt,
        record {
          cleaned = q.cleaned + 8;
          there = q.there;
          ruled = subst (λ (y : ℕ × List Pass). Ruled (now_at key y.0 (q.cleaned + 8)) ws' y.1) (λ j. (sym limit j, sym is_set j)) ruled;
          kept = subst (λ (y : ℕ × List Pass). Kept (now_at key y.0 (q.cleaned + 8)) q.there ws' y.1) (λ j. (sym limit j, sym is_set j)) kept;
          sure = sure_on bs ws s.views q.ruled q.sure id v w at i (λ _. 0) (inr (data_leaves i 0 (omega arith))) record { whole = sure.whole; exact = λ one. sure.exact one ∙ sym (data_leaves i 0 (omega arith) ws) };
          numbered = subst AreNumbered (sym is_set) (numbered_on qs id v.pass w.pass here (attends_goes v.pass v.pass.reading k) q.numbered);
        },
        (refl, refl, record { sure = refl; leads = λ one. refl }, refl),
      )
    where
      spread : (vc c vs s l pj wj vt t : ℕ) → vc ≡ c → vs ≡ s → l ≤ pj → pj ≤ wj → vt ≡ t → vc + 8 ≤ max vs (l - vt) → c + 8 ≤ max s (wj - t)
      spread vc c vs s l pj wj vt t a d e f h i = omega arith

      far_off : (j q : ℕ) → j < 8 → j * 16 + 80 ≡ 208 + q → ⊥
      far_off j q lt e = omega arith

      stays : (a old new : ℕ) → a ≤ old → new ≡ old → a ≤ new
      stays a old new le e = omega arith

      eight : (c : ℕ) → c % 8 ≡ 0 → (c + 8) % 8 ≡ 0
      eight c e = omega arith

      more_room : (l c t : ℕ) → l < c + 3 * t → l < c + 8 + 3 * t
      more_room l c t h = omega arith
