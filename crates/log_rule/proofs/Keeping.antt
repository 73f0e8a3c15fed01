-- The steps of the keeper keep the whole rule.
use Rattle.std.proofs.Common.{◌≡◌, ◌≢◌, inl, inr, ℕ, zero, suc, ◌+◌, ◌-◌, ◌*◌, ◌%◌, ◌<◌, ◌≤◌, max, min, List, [], ◌∷◌, ◌++◌, map, length, set, length-set, get_or-set_same, get_or-set_other, sym, refl, ap, ◌∙◌, subst, ⊎_elim, lt_of_not-le, arith}
use mathlib.Core.Option.{some}
use mathlib.Core.Logic.{dite}
use native.Mathlib.Decide.{dec_le, ℕ_discrete}
use lib.ListN.{get_elem?}
use Rattle.std.specs.Prelude.{slice_index}
use Rattle.std.specs.List.{AllByRecursion, fold}
use Rattle.std.proofs.lemmas.List.{map-set}
use Rattle.atomic_table.specs.Table.{Allows, keeps}
use Rattle.atomic_table.proofs.Lists.{at_map, at_set}
use Rattle.theory.specs.Position.{Geometry, greatest_claim, max_position}
use Rattle.theory.specs.Bytes.{Identity}
use Rattle.theory.specs.Placed.{Among}
use Rattle.theory.specs.Refusal.{limit_in}
use Rattle.theory.proofs.Lists.{all_at, all_weaker}
use Rattle.publication.specs.declared.pass.Controls.{Controls}
use Rattle.publication.specs.declared.pass.Keeping.{Keeping}
use Rattle.publication.specs.declared.pass.Pass.{Pass}
use Rattle.publication.specs.declared.pass.Reading.{Reading}
use Rattle.publication.specs.Steps.{geometry_of}
use Rattle.log_rule.specs.declared.claims.view.View.{View}
use Rattle.log_rule.specs.Claims.Packs.{consumer_place, limit_place, ring_of}
use Rattle.log_rule.specs.Claims.Sums.{total}
use Rattle.log_rule.specs.Claims.Terms.{claimed_to}
use Rattle.log_rule.specs.Claims.Rule.{Bounds, ClaimsHold, armed_of, first_of, shape_of, size_of}
use Rattle.log_rule.specs.Claims.Memory.{Memory, Ruled, Stored, tail_of}
use Rattle.log_rule.specs.Claims.Sure.{controls_in}
use Rattle.log_rule.specs.Claims.Plays.{Mine, pass_in}
use Rattle.log_rule.proofs.Claimed.Totals.{both_at}
use Rattle.log_rule.proofs.Claimed.Sures.{limit_set, sure_on}
use Rattle.log_rule.proofs.Claimed.Tails.{elsewhere}
use Rattle.log_rule.proofs.Claimed.Memories.{stayed}
use Rattle.log_rule.specs.declared.rule.Key.{Key}
use Rattle.log_rule.specs.Edges.{IsAmong, IsPlaced}
use Rattle.log_rule.specs.Numbers.{AreNumbered}
use Rattle.log_rule.proofs.Owning.{attends_goes, numbered_on}
use Rattle.log_rule.specs.Kept.{Attends, IsReader, IsSeen, IsThere, Kept, keepers_of, readers_of}
use Rattle.log_rule.specs.Table.{LogRuled, now_at}
use Rattle.log_rule.specs.Keepings.{LearnsLimit, MayRaise, Raises, keeping, least_there, numbered, sweeping, with_keeping}
use Rattle.log_rule.proofs.Growing.{Grows, attends_on, grows, not_keeping, placed_on, same_sum, seen_on, there_low}
use Rattle.log_rule.proofs.Resting.{rest_looks, rested_here}
use Rattle.log_rule.proofs.Consumers.{loaded, spared_same}
use Rattle.log_rule.proofs.Edges.{edge_low, tail_low}

-- ---- the least position

lower : (a : ℕ) (ps : List ℕ) → fold min a ps ≤ a
lower a [] = omega arith
lower a (p ∷ ps) = let r = lower (min a p) ps in omega arith

lower_among : (a : ℕ) (ps : List ℕ) (p : ℕ) → Among p ps → fold min a ps ≤ p
lower_among a [] p among = absurd among
lower_among a (q ∷ ps) p (inl e) = let r = lower (min a q) ps in omega (arith, e)
lower_among a (q ∷ ps) p (inr among) = lower_among (min a q) ps p among

pub among_numbered : (from : ℕ) (there : List ℕ) (j : ℕ) → 0 < slice_index there j → Among (from + j) (numbered from there)
among_numbered from [] j some' = absurd (omega arith)
among_numbered from (zero ∷ there) zero some' = absurd (omega arith)
among_numbered from (suc n ∷ there) zero some' = inl (let e : from + 0 ≡ from = omega arith in e)
among_numbered from (zero ∷ there) (suc j) some' = subst (λ (k : ℕ). Among k (numbered (suc from) there)) (let e : suc from + j ≡ from + suc j = omega arith in e) (among_numbered (suc from) there j some')
among_numbered from (suc n ∷ there) (suc j) some' = inr (subst (λ (k : ℕ). Among k (numbered (suc from) there)) (let e : suc from + j ≡ from + suc j = omega arith in e) (among_numbered (suc from) there j some'))

among_map : (f : ℕ → ℕ) (xs : List ℕ) (x : ℕ) → Among x xs → Among (f x) (map f xs)
among_map f [] x among = absurd among
among_map f (y ∷ ys) x (inl e) = inl (ap f e)
among_map f (y ∷ ys) x (inr among) = inr (among_map f ys x among)

-- none of those who are there was seen below it
pub least_low : (there ps : List ℕ) (j : ℕ) → 0 < slice_index there j → least_there there ps ≤ slice_index ps j
least_low there ps j here = lower_among (slice_index (map (slice_index ps) (numbered 0 there)) 0) (map (slice_index ps) (numbered 0 there)) (slice_index ps j) (among_map (slice_index ps) (numbered 0 there) j (subst (λ (k : ℕ). Among k (numbered 0 there)) (let e : 0 + j ≡ j = omega arith in e) (among_numbered 0 there j here)))

-- ---- a consumer's position is loaded

pub placed_seen : (b : Bounds) (ps : List Pass) (p : ℕ) → IsPlaced b ps p → IsSeen b ps p
placed_seen b ps p k = record { unit = k.unit; from = k.from; edge = k.edge; passed = k.passed }

placed_low : (b : Bounds) (ws : List ℕ) (ps : List Pass) → Ruled b ws ps → (n : ℕ) → IsPlaced b ps n → n ≤ max_position (shape_of b)
placed_low b ws ps r n p = let e = edge_low b ws ps r n p.edge in let t = tail_low b ws ps r in up n (tail_of b ps) (max_position (shape_of b)) e t
  where
    up : (a c d : ℕ) → a ≤ c → c ≤ d → a ≤ d
    up a c d e t = omega arith

module _ (key : Key) (slots id : ℕ) (m : Mine) where
  pub sweep : (j : ℕ) → m.0.pass.keeping.right ≡ 1 → IsThere m.0.pass.keeping.there j → Allows (LogRuled key) slots id m (consumer_place j) (λ n. n) (λ n m'. sweeping j m n m')
  sweep j one is s q homes at small =
      let v : View = m.0 in let ws : List ℕ = s.words in let qs : List Pass = map pass_in s.views in let n : ℕ = slice_index ws (consumer_place j) in
      let bs : Bounds = now_at key (slice_index ws limit_place) q.cleaned in let here = at_map pass_in s.views id v at in let a = q.kept.each id v.pass here in
      let there : IsThere q.there j = subst (λ (l : List ℕ). IsThere l j) (a.keeping.there one) is in let low : j < 8 = there_low q.there j q.kept.eight there in
      let k : Keeping = record v.pass.keeping { positions = set v.pass.keeping.positions j n; reads = v.pass.keeping.reads ++ j ∷ [] } in
      let w : View = record { pass = with_keeping v.pass k; steps = suc v.steps; controls = v.controls; sure = v.sure } in
      let g : Grows bs qs (set qs id w.pass) = grows bs ws ws qs (set qs id w.pass) q.ruled (rested_here bs ws qs q.ruled id v.pass v.pass.reading k here) (inl (rest_looks qs id v.pass v.pass.reading k here)) in
      let base = attends_on bs q.there q.kept.eight ws ws qs (set qs id w.pass) g (spared_same ws) v.pass a in
      let same_length : length (set v.pass.keeping.positions j n) ≡ length v.pass.keeping.positions = length-set v.pass.keeping.positions j n in
      let all = a.keeping.all one in let lt : j < length v.pass.keeping.positions = omega (arith, all, low) in
      let c = q.ruled.claims.each id v.pass here in let pl = q.kept.placed j there in
      let qs' : List Pass = set qs id w.pass in let put : slice_index (set v.pass.keeping.positions j n) j ≡ n = get_or-set_same v.pass.keeping.positions j n 0 lt in
      let others : (i : ℕ) → i ≢ j → slice_index (set v.pass.keeping.positions j n) i ≡ slice_index v.pass.keeping.positions i = λ i ne. get_or-set_other v.pass.keeping.positions j i n 0 ne in (
        w,
        keeps,
        tt,
        loaded key s q id (consumer_place j) v v.pass.reading k at (λ i. refl) refl record {
          readings = base.readings;
          keeping = record {
            limit = base.keeping.limit;
            cleaned = base.keeping.cleaned;
            there = base.keeping.there;
            all = λ yes. same_length ∙ base.keeping.all yes;
            swept = λ yes i h. dite (ℕ_discrete i j)
                (λ e. exact (slice_index (set v.pass.keeping.positions j n) i) (slice_index ws (consumer_place i)) n (ap (slice_index (set v.pass.keeping.positions j n)) e ∙ put) (ap (λ (z : ℕ). slice_index ws (consumer_place z)) e))
                (λ ne. let le = base.keeping.swept yes i h in stays (slice_index (set v.pass.keeping.positions j n) i) (slice_index v.pass.keeping.positions i) (slice_index ws (consumer_place i)) (others i ne) le);
            seen = λ yes i h. dite (ℕ_discrete i j)
                (λ e. subst (IsSeen bs qs') (sym (ap (slice_index (set v.pass.keeping.positions j n)) e ∙ put)) (seen_on bs qs qs' g n (placed_seen bs qs n pl)))
                (λ ne. subst (IsSeen bs qs') (sym (others i ne)) (base.keeping.seen yes i h));
          };
        },
        (
          (
            refl,
            refl,
            record { sure = refl; leads = λ one. refl },
            record {
              all = all;
              inside = low;
              further = base.keeping.swept one j there;
              stands = (let st = placed_low bs ws qs q.ruled n pl in record {
                unit = pl.unit;
                low = subst (λ (y : Identity). n ≤ max_position y.geometry) (sym c.identity) st;
                readable = subst (λ (y : ℕ × ℕ × Identity). y.0 ≤ max y.1 (n - y.2.geometry.term_length)) (λ i. (sym (a.keeping.cleaned one) i, sym c.start i, sym c.identity i)) pl.readable;
              });
              words = (ap (λ (z : ℕ). z % 32) c.start ∙ q.ruled.claims.sound.unit, ap (λ (z : ℕ). z % 8) (a.keeping.cleaned one) ∙ q.kept.unit);
              own = λ r among e. sym (ap (λ (z : ℕ). slice_index ws (consumer_place z)) e) ∙ (all_at (IsReader ws qs) r v.pass.reading a.readings among).position (subst (λ (z : ℕ). z < 8) (sym e) low);
              after = refl;
            },
          ),
          λ sure. ap (λ (y : Controls). y.limit) ((q.sure.each id v at).exact sure) ∙ sym (a.keeping.limit one),
        ),
      )
    where
      exact : (a c n : ℕ) → a ≡ n → c ≡ n → a ≤ c
      exact a c n e f = omega arith

      stays : (a c d : ℕ) → a ≡ c → c ≤ d → a ≤ d
      stays a c d e le = omega arith

-- ---- the limit word is stored

abbrev limited : Bounds → ℕ → Bounds
limited b word = record b { limit = limit_in word; word = word }

stored_more : (b : Bounds) (word : ℕ) (ws : List ℕ) (v : Pass) → Stored b ws v → Stored (limited b word) ws v
stored_more b word ws v k = record { stands = k.stands; placed = k.placed; aligned = k.aligned; done = k.done; undone = k.undone; kept = k.kept }

raised : (b : Bounds) (ws : List ℕ) (ps : List Pass) → Ruled b ws ps → (id word : ℕ) (v : Pass) (k : Keeping) → get_elem? ps id ≡ some v → b.limit ≤ limit_in word → limit_in word + b.greatest * 8 ≤ b.cleaned + 3 * size_of b
    → Ruled (limited b word) (set ws 0 word) (set ps id (with_keeping v k))
raised b ws ps r id word v k at rises clean =
    let t = r.claims.terms in let w : Pass = with_keeping v k in let b' : Bounds = limited b word in
    let c : ClaimsHold b ws (set ps id w) = (rested_here b ws ps r id v v.reading k at).claims in
    let m : Memory b (set ws 0 word) (set ps id w) = stayed b ws ps r.memory id 0 word v w (omega arith) at record { claims = refl; work = refl } in record {
      claims = record {
        sound = record { geometry = r.claims.sound.geometry; unit = r.claims.sound.unit; below = r.claims.sound.below; greatest = r.claims.sound.greatest; limit = refl };
        wide = length-set ws 0 word ∙ r.claims.wide;
        limit = get_or-set_same ws 0 word 0 (let e = r.claims.wide in omega arith);
        terms = c.terms;
        tailed = elsewhere (shape_of b) (first_of b) c.terms ws (set ws 0 word) (λ j some' lt. get_or-set_other ws 0 j word 0 (λ e. omega arith)) c.tailed;
        log = c.log;
        tiles = c.tiles;
        fair = c.fair;
        reached = c.reached;
        parted = c.parted;
        over = c.over;
        room = (let a = c.room in room_more (claimed_to (shape_of b) c.terms) (b.greatest * total armed_of (set ps id w)) b.limit (limit_in word) (b.greatest * 8) a rises);
        each = λ j u e. (let x = c.each j u e in record { identity = x.identity; start = x.start; number = x.number; right = record { capped = (let a = x.right.capped in omega arith); able = x.right.able; once = x.right.once; idle = x.right.idle }; entries = x.entries; seen = x.seen });
      };
      memory = record {
        cleaned = m.cleaned;
        held = clean;
        zeros = m.zeros;
        each = λ j u e. stored_more b word (set ws 0 word) u (m.each j u e);
      };
    }
  where
    room_more : (e a l l' g : ℕ) → e + a ≤ l + g → l ≤ l' → e + a ≤ l' + g
    room_more e a l l' g x y = omega arith

-- the keeper alone is sure to be one
pub not_keeper : (ps : List Pass) (id j : ℕ) (v u : Pass) → get_elem? ps id ≡ some v → j ≢ id → get_elem? ps j ≡ some u → v.keeping.right ≡ 1 → total keepers_of ps ≤ 1 → u.keeping.right ≡ 1 → ⊥
not_keeper ps id j v u at ne at' one few two = let a = both_at keepers_of ps id j v u ne at at' in omega arith

module _ (key : Key) (slots id : ℕ) (m : Mine) where
  pub raise : (word : ℕ) → MayRaise m.0.pass word → 0 < m.0.pass.right.parts → Allows (LogRuled key) slots id m limit_place (λ _. word) (λ _ m'. keeping (LearnsLimit word) (λ v w. Raises v word w) m m')
  raise word may parts s q homes at small =
      let v : View = m.0 in let ws : List ℕ = s.words in let qs : List Pass = map pass_in s.views in let old : ℕ = slice_index ws limit_place in
      let bs : Bounds = now_at key old q.cleaned in let here = at_map pass_in s.views id v at in let a = q.kept.each id v.pass here in let c = q.ruled.claims.each id v.pass here in
      let ws' : List ℕ = set ws 0 word in let k : Keeping = record v.pass.keeping { limit = word } in let after = controls_in ws' in
      let w : View = record { pass = with_keeping v.pass k; steps = suc v.steps; controls = after; sure = v.sure } in let qs' : List Pass = set qs id w.pass in
      let limit_is : v.pass.keeping.limit ≡ old = a.keeping.limit may.keeper in let cleaned_is : v.pass.keeping.cleaned ≡ q.cleaned = a.keeping.cleaned may.keeper in
      let shape : geometry_of v.pass ≡ key.identity.geometry = ap (λ (y : Identity). y.geometry) c.identity in
      let rises : bs.limit ≤ limit_in word = subst (λ (n : ℕ). limit_in n ≤ limit_in word) limit_is may.rises in
      let clean : limit_in word + bs.greatest * 8 < bs.cleaned + 3 * size_of bs = dite (dec_le (limit_in word) bs.limit)
      (λ same. let h = q.kept.ahead in not_more (limit_in word) bs.limit (bs.greatest * 8) (bs.cleaned + 3 * size_of bs) same h)
      (λ more. subst (λ (x : ℕ × Geometry). limit_in word + greatest_claim x.1 * 8 < x.0 + 3 * x.1.term_length) (λ i. (cleaned_is i, shape i)) (may.clean (subst (λ (n : ℕ). limit_in n < limit_in word) (sym limit_is) (lt_of_not-le more)))) in
      let ruled : Ruled (limited bs word) ws' qs' = raised bs ws qs q.ruled id word v.pass k here rises (let z = clean in below (limit_in word + bs.greatest * 8) (bs.cleaned + 3 * size_of bs) z) in
      let stored : slice_index ws' 0 ≡ word = ruled.claims.limit in
      let g : Grows bs qs qs' = grows bs ws ws qs qs' q.ruled (rested_here bs ws qs q.ruled id v.pass v.pass.reading k here) (inl (rest_looks qs id v.pass v.pass.reading k here)) in
      let others : (j : ℕ) → slice_index ws' (consumer_place j) ≡ slice_index ws (consumer_place j) = λ j. get_or-set_other ws 0 (consumer_place j) word 0 (λ e. omega arith) in
      let placed_more : (p : ℕ) → IsPlaced bs qs' p → IsPlaced (limited bs word) qs' p = λ p z. record { unit = z.unit; from = z.from; readable = z.readable; edge = z.edge; passed = z.passed } in
      let readers : (rs : List Reading) → AllByRecursion (IsReader ws qs) rs → AllByRecursion (IsReader ws' qs') rs = λ rs b. all_weaker (IsReader ws qs) (IsReader ws' qs') (λ x z. record { position = λ lt. others x.number ∙ z.position lt; known = all_weaker (IsAmong qs) (IsAmong qs') g.among x.known z.known }) rs b in
      let kept : Kept (limited bs word) q.there ws' qs' = record {
        eight = q.kept.eight;
        flags = q.kept.flags;
        one = q.kept.one;
        any = q.kept.any;
        unit = q.kept.unit;
        ahead = clean;
        free = λ j low none. others j ∙ q.kept.free j low none;
        placed = λ j lt. subst (IsPlaced (limited bs word) qs') (sym (others j)) (placed_more (slice_index ws (consumer_place j)) (placed_on bs qs qs' g (slice_index ws (consumer_place j)) (q.kept.placed j lt)));
        single = λ j lt. subst (λ (t : ℕ). t ≤ slice_index q.there j) (sym (same_sum (readers_of j) qs id v.pass w.pass here refl)) (q.kept.single j lt);
        keepers = subst (λ (t : ℕ). t ≤ 1) (sym (same_sum keepers_of qs id v.pass w.pass here refl)) q.kept.keepers;
        each = λ i u e. ⊎_elim
            (λ (y : (i ≡ id) × (w.pass ≡ u)). subst (Attends (limited bs word) q.there ws' qs') y.1 record {
              readings = readers v.pass.reading a.readings;
              keeping = record {
                limit = λ _. refl;
                cleaned = λ _. cleaned_is;
                there = a.keeping.there;
                all = a.keeping.all;
                swept = λ yes j h. (let le = a.keeping.swept yes j h in let e = others j in stays (slice_index v.pass.keeping.positions j) (slice_index ws (consumer_place j)) (slice_index ws' (consumer_place j)) le e);
                seen = λ yes j h. (let z = seen_on bs qs qs' g (slice_index v.pass.keeping.positions j) (a.keeping.seen yes j h) in record { unit = z.unit; from = z.from; edge = z.edge; passed = z.passed });
              };
            })
            (λ (y : (i ≢ id) × (get_elem? qs i ≡ some u)). let o = q.kept.each i u y.1 in record {
              readings = readers u.reading o.readings;
              keeping = not_keeping (limited bs word) q.there ws' qs' u.keeping (not_keeper qs id i v.pass u here y.0 y.1 may.keeper q.kept.keepers);
            })
            (at_set qs id i w.pass u e);
      } in
      let is_set : map pass_in (set s.views id w) ≡ qs' = map-set pass_in s.views id w in let sure = q.sure.each id v at in (
        w,
        keeps,
        tt,
        record {
          cleaned = q.cleaned;
          there = q.there;
          ruled = subst (λ (y : ℕ × List Pass). Ruled (now_at key y.0 q.cleaned) ws' y.1) (λ j. (sym stored j, sym is_set j)) ruled;
          kept = subst (λ (y : ℕ × List Pass). Kept (now_at key y.0 q.cleaned) q.there ws' y.1) (λ j. (sym stored j, sym is_set j)) kept;
          sure = sure_on bs ws s.views q.ruled q.sure id v w at limit_place (λ _. word) (inl parts) record { whole = sure.whole; exact = λ _. refl };
          numbered = subst AreNumbered (sym is_set) (numbered_on qs id v.pass w.pass here (attends_goes v.pass v.pass.reading k) q.numbered);
        },
        (
          refl,
          refl,
          record { sure = refl; limit = λ one. limit_set ws word (let e = q.ruled.claims.wide in wide (length ws) (ring_of (shape_of bs)) e) ∙ ap (λ (y : Controls). record y { limit = word }) (sym (sure.exact one)) },
          refl,
        ),
      )
    where
      not_more : (l' l g c : ℕ) → l' ≤ l → l + g < c → l' + g < c
      not_more l' l g c a d = omega arith

      below : (a c : ℕ) → a < c → a ≤ c
      below a c lt = omega arith

      stays : (a old new : ℕ) → a ≤ old → new ≡ old → a ≤ new
      stays a old new le e = omega arith

      wide : (l q : ℕ) → l ≡ 208 + q → 208 ≤ l
      wide l q e = omega arith
