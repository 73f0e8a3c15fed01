-- The steps of a consumer keep the whole rule.
use Rattle.std.proofs.Common.{◌≡◌, ◌≢◌, inl, inr, ℕ, zero, suc, ◌+◌, ◌-◌, ◌*◌, ◌%◌, ◌<◌, ◌≤◌, eqb, cond, max, min, List, [], ◌∷◌, map, length, set, get_or-set_same, get_or-set_other, sym, refl, ap, ◌∙◌, subst, ⊎_elim, lt_of_not-le, eq-eqb, Bool, arith}
use mathlib.Core.Option.{some, some-injective, some-ne-none}
use mathlib.Core.Logic.{dite}
use native.Mathlib.Decide.{dec_le, ℕ_discrete}
use lib.ListN.{get_elem?}
use Rattle.std.specs.Prelude.{slice_index}
use Rattle.std.specs.List.{AllByRecursion}
use Rattle.std.proofs.lemmas.List.{map-set, set-get_or}
use Rattle.atomic_table.specs.Table.{Allows, State, keeps}
use Rattle.atomic_table.proofs.Lists.{at_map, at_set}
use Rattle.theory.specs.Position.{aligned}
use Rattle.theory.specs.Bytes.{Identity}
use Rattle.theory.specs.Placed.{Among, frame_length}
use Rattle.theory.proofs.Lists.{all_at, all_pushed, all_weaker}
use Rattle.publication.specs.declared.pass.FrameWords.{FrameWords}
use Rattle.publication.specs.declared.pass.Keeping.{Keeping}
use Rattle.publication.specs.declared.pass.Pass.{Pass}
use Rattle.publication.specs.declared.pass.Reading.{Reading}
use Rattle.publication.specs.Steps.{Extent, extent_of, term_of}
use Rattle.log_rule.specs.declared.claims.view.View.{View}
use Rattle.log_rule.specs.Claims.Packs.{consumer_place, limit_place, ring_of, slot}
use Rattle.log_rule.specs.Claims.Sums.{covers, total}
use Rattle.log_rule.specs.Claims.Rule.{Bounds, shape_of, size_of}
use Rattle.log_rule.specs.Claims.Memory.{Ruled, tail_of}
use Rattle.log_rule.specs.Claims.Sure.{controls_in}
use Rattle.log_rule.specs.Claims.Plays.{Mine, pass_in}
use Rattle.log_rule.proofs.Claimed.Totals.{both_at, total_at, total_set}
use Rattle.log_rule.proofs.Claimed.Sures.{data_leaves, load_leaves, sure_on}
use Rattle.log_rule.specs.declared.rule.Key.{Key}
use Rattle.log_rule.specs.Edges.{AreCommitted, IsAmong, IsEdge, IsPlaced, begins_at, claimed_sum, committed_sum}
use Rattle.log_rule.specs.Kept.{Attends, IsKeeper, IsReader, IsThere, Kept, keepers_of, readers_of, reads_as}
use Rattle.log_rule.specs.Table.{LogRuled, now_at}
use Rattle.log_rule.specs.Readings.{Consumed, Consumes, Has, IsConsumer, IsFrameAt, LookedHere, Looks, MayPass, Rereads, end_of, knows_more, missed, moved_to, reading, with_consumer}
use Rattle.log_rule.proofs.Sums.{covered, covering}
use Rattle.log_rule.proofs.Edges.{among_claimed, edge_behind, passed_behind}
use Rattle.log_rule.proofs.Growing.{Grows, Spared, attends_on, grows, placed_on, same_sum, seen_on}
use Rattle.log_rule.specs.Numbers.{AreNumbered}
use Rattle.log_rule.proofs.Owning.{attends_goes, numbered_on}
use Rattle.log_rule.proofs.Resting.{attending, rest_looks, rested, rested_here}
use Rattle.log_rule.proofs.Known.{done_of, finds, is_among, one_frame, stands_of, whole_has, word_there}
use Rattle.log_rule.proofs.InTerm.{done_long, frame_at, unit_of, words_cover}

-- ---- lists

pub all_place : {A : Type 0} (P : A → Type 0) (xs : List A) (i : ℕ) (x : A) → get_elem? xs i ≡ some x → AllByRecursion P xs → P x
all_place P [] i x e a = absurd (some-ne-none x (sym e))
all_place P (y ∷ ys) zero x e a = subst P (some-injective y x e) a.0
all_place P (y ∷ ys) (suc i) x e a = all_place P ys i x e a.1

pub all_put : {A : Type 0} (P : A → Type 0) (xs : List A) (i : ℕ) (x : A) → P x → AllByRecursion P xs → AllByRecursion P (set xs i x)
all_put P [] i x p a = tt
all_put P (y ∷ ys) zero x p a = (p, a.1)
all_put P (y ∷ ys) (suc i) x p a = (a.0, all_put P ys i x p a.1)

pub all_places : {A : Type 0} (P : A → Type 0) (xs : List A) → ((i : ℕ) (x : A) → get_elem? xs i ≡ some x → P x) → AllByRecursion P xs
all_places P [] h = tt
all_places P (x ∷ xs) h = (h 0 x refl, all_places P xs (λ i. h (suc i)))

put_same : {A : Type 0} (h : A → ℕ) (xs : List A) (i : ℕ) (x y : A) → get_elem? xs i ≡ some x → h y ≡ h x → total h (set xs i y) ≡ total h xs
put_same h xs i x y at e = let a = total_set h xs i x y at in omega arith

-- ---- where no word changes

-- the words that consumers look at
pub spared_same : (ws : List ℕ) → Spared ws ws
spared_same ws = record { limit = refl; consumers = λ j lt. refl }

pub kept_rest : (b : Bounds) (n : List ℕ) (ws : List ℕ) (ps : List Pass) → Ruled b ws ps → Kept b n ws ps → (id : ℕ) (v : Pass) (rs : List Reading) (k : Keeping) → get_elem? ps id ≡ some v
    → ((j : ℕ) → j < 8 → total (reads_as j) rs ≤ total (reads_as j) v.reading) → k.right ≤ v.keeping.right → Attends b n ws (set ps id (attending v rs k)) (attending v rs k) → Kept b n ws (set ps id (attending v rs k))
kept_rest b n ws ps r k id v rs kp at same right mine =
    let w : Pass = attending v rs kp in let ps' : List Pass = set ps id w in let g : Grows b ps ps' = grows b ws ws ps ps' r (rested_here b ws ps r id v rs kp at) (inl (rest_looks ps id v rs kp at)) in record {
      eight = k.eight;
      flags = k.flags;
      one = k.one;
      any = k.any;
      unit = k.unit;
      ahead = k.ahead;
      free = k.free;
      placed = λ j lt. placed_on b ps ps' g (slice_index ws (consumer_place j)) (k.placed j lt);
      single = λ j lt. (let a = total_set (readers_of j) ps id v w at in let c = k.single j lt in let d = same j lt in fewer (slice_index n j) (total (readers_of j) ps') (readers_of j v) (total (readers_of j) ps) (readers_of j w) a c d);
      keepers = (let a = total_set keepers_of ps id v w at in let c = k.keepers in fewer 1 (total keepers_of ps') (keepers_of v) (total keepers_of ps) (keepers_of w) a c right);
      each = λ i u e. ⊎_elim
          (λ (y : (i ≡ id) × (w ≡ u)). subst (Attends b n ws ps') y.1 mine)
          (λ (y : (i ≢ id) × (get_elem? ps i ≡ some u)). attends_on b n k.eight ws ws ps ps' g (spared_same ws) u (k.each i u y.1))
          (at_set ps id i w u e);
    }
  where
    fewer : (most now v old w : ℕ) → now + v ≡ old + w → old ≤ most → w ≤ v → now ≤ most
    fewer most now v old w a c d = omega arith

-- a load that tells a seat more of frames or of consumers
pub loaded : (key : Key) (s : State (Unit {0}) View) (q : LogRuled key s) (id i : ℕ) (v : View) (rs : List Reading) (k : Keeping) → get_elem? s.views id ≡ some v
    → ((j : ℕ) → total (reads_as j) rs ≡ total (reads_as j) v.pass.reading) → k.right ≡ v.pass.keeping.right
    → Attends (now_at key (slice_index s.words limit_place) q.cleaned) q.there s.words (set (map pass_in s.views) id (attending v.pass rs k)) (attending v.pass rs k)
    → LogRuled key record { words = set s.words i (slice_index s.words i); homes = s.homes; views = set s.views id record { pass = attending v.pass rs k; steps = suc v.steps; controls = v.controls; sure = v.sure } }
loaded key s q id i v rs k at same right mine =
    let ws : List ℕ = s.words in let ps : List Pass = map pass_in s.views in let b : Bounds = now_at key (slice_index ws limit_place) q.cleaned in
    let w : View = record { pass = attending v.pass rs k; steps = suc v.steps; controls = v.controls; sure = v.sure } in
    let here = at_map pass_in s.views id v at in let sure = q.sure.each id v at in
    let is : map pass_in (set s.views id w) ≡ set ps id w.pass = map-set pass_in s.views id w in
    let same_words : set ws i (slice_index ws i) ≡ ws = set-get_or ws i 0 in record {
      cleaned = q.cleaned;
      there = q.there;
      ruled = subst (λ (x : List ℕ × List Pass). Ruled (now_at key (slice_index x.0 limit_place) q.cleaned) x.0 x.1) (λ j. (sym same_words j, sym is j)) (rested_here b ws ps q.ruled id v.pass rs k here);
      kept = subst (λ (x : List ℕ × List Pass). Kept (now_at key (slice_index x.0 limit_place) q.cleaned) q.there x.0 x.1) (λ j. (sym same_words j, sym is j)) (kept_rest b q.there ws ps q.ruled q.kept id v.pass rs k here (λ j lt. low (total (reads_as j) rs) (total (reads_as j) v.pass.reading) (same j)) (low k.right v.pass.keeping.right right) mine);
      sure = sure_on b ws s.views q.ruled q.sure id v w at i (λ n. n) (inr (load_leaves i)) record { whole = sure.whole; exact = λ one. sure.exact one ∙ ap controls_in (sym same_words) };
      numbered = subst AreNumbered (sym is) (numbered_on ps id v.pass w.pass here (attends_goes v.pass rs k) q.numbered);
    }
  where
    low : (a c : ℕ) → a ≡ c → a ≤ c
    low a c e = omega arith

-- who has a number is there
pub is_there : (b : Bounds) (n ws : List ℕ) (ps : List Pass) → Kept b n ws ps → (id : ℕ) (v : Pass) (place : ℕ) (r : Reading) → get_elem? ps id ≡ some v → get_elem? v.reading place ≡ some r → r.number < 8 → IsThere n r.number
is_there b n ws ps k id v place r at is low =
    let one : reads_as r.number r ≡ 1 = ap (λ (t : Bool). cond t 1 0) (eq-eqb r.number r.number refl) in
    let a = total_at (reads_as r.number) v.reading place r is in let c = total_at (readers_of r.number) ps id v at in let s = k.single r.number low in let f = k.flags r.number in
    flag (reads_as r.number r) (readers_of r.number v) (total (readers_of r.number) ps) (slice_index n r.number) one a c s f
  where
    flag : (x y t f : ℕ) → x ≡ 1 → x ≤ y → y ≤ t → t ≤ f → f ≤ 1 → f ≡ 1
    flag x y t f one a c s most = omega arith

-- ---- a consumer's first look

module _ (key : Key) (slots id : ℕ) (m : Mine) (place : ℕ) (r : Reading) (is : IsConsumer m.0.pass place r) where
  -- the same number, whatever else the record says
  renumbered : (x : Reading) → x.number ≡ r.number → (j : ℕ) → total (reads_as j) (set m.0.pass.reading place x) ≡ total (reads_as j) m.0.pass.reading
  renumbered x same j = put_same (reads_as j) m.0.pass.reading place r x is (ap (λ (k : ℕ). cond (eqb k j) 1 0) same)

  module _ (s : State (Unit {0}) View) (q : LogRuled key s) (at : get_elem? s.views id ≡ some m.0) where
    abbrev b : Bounds
    b = now_at key (slice_index s.words limit_place) q.cleaned

    here : get_elem? (map pass_in s.views) id ≡ some m.0.pass
    here = at_map pass_in s.views id m.0 at

    pub attends : Attends b q.there s.words (map pass_in s.views) m.0.pass
    attends = q.kept.each id m.0.pass here

    pub consumer : IsReader s.words (map pass_in s.views) r
    consumer = all_place (IsReader s.words (map pass_in s.views)) m.0.pass.reading place r is attends.readings

    is_here : r.number < 8 → IsThere q.there r.number
    is_here low = is_there b q.there s.words (map pass_in s.views) q.kept id m.0.pass place r here is low

    pub stands : r.number < 8 → IsPlaced b (map pass_in s.views) r.position
    stands low = subst (IsPlaced b (map pass_in s.views)) (consumer.position low) (q.kept.placed r.number (is_here low))

    pub identity_is : m.0.pass.identity ≡ key.identity
    identity_is = (q.ruled.claims.each id m.0.pass here).identity

    -- one frame more is known
    more : (f : FrameWords) → IsAmong (map pass_in s.views) f
        → Attends b q.there s.words (set (map pass_in s.views) id (with_consumer m.0.pass place (knows_more r f))) (with_consumer m.0.pass place (knows_more r f))
    more f among =
        let v : Pass = m.0.pass in let w : Pass = with_consumer v place (knows_more r f) in let qs : List Pass = map pass_in s.views in let qs' : List Pass = set qs id w in
        let g : Grows b qs qs' = grows b s.words s.words qs qs' q.ruled (rested_here b s.words qs q.ruled id v w.reading v.keeping here) (inl (rest_looks qs id v w.reading v.keeping here)) in
        let base = attends_on b q.there q.kept.eight s.words s.words qs qs' g (spared_same s.words) v attends in record {
          readings = all_put (IsReader s.words qs') v.reading place (knows_more r f)
              record { position = consumer.position; known = all_pushed (IsAmong qs') r.known f (all_weaker (IsAmong qs) (IsAmong qs') g.among r.known consumer.known) (g.among f among) }
              base.readings;
          keeping = base.keeping;
        }

    -- it has looked once more
    looked : Attends b q.there s.words (set (map pass_in s.views) id (with_consumer m.0.pass place (missed r))) (with_consumer m.0.pass place (missed r))
    looked =
        let v : Pass = m.0.pass in let w : Pass = with_consumer v place (missed r) in let qs : List Pass = map pass_in s.views in let qs' : List Pass = set qs id w in
        let g : Grows b qs qs' = grows b s.words s.words qs qs' q.ruled (rested_here b s.words qs q.ruled id v w.reading v.keeping here) (inl (rest_looks qs id v w.reading v.keeping here)) in
        let base = attends_on b q.there q.kept.eight s.words s.words qs qs' g (spared_same s.words) v attends in record {
          readings = all_put (IsReader s.words qs') v.reading place (missed r) record { position = consumer.position; known = all_weaker (IsAmong qs) (IsAmong qs') g.among r.known consumer.known } base.readings;
          keeping = base.keeping;
        }

    -- nothing more is known
    unmoved : Attends b q.there s.words (set (map pass_in s.views) id m.0.pass) m.0.pass
    unmoved =
        let v : Pass = m.0.pass in let qs : List Pass = map pass_in s.views in
        let g : Grows b qs (set qs id v) = grows b s.words s.words qs (set qs id v) q.ruled (rested_here b s.words qs q.ruled id v v.reading v.keeping here) (inl (rest_looks qs id v v.reading v.keeping here)) in
        attends_on b q.there q.kept.eight s.words s.words qs (set qs id v) g (spared_same s.words) v attends

    -- the stream's frames begin in it
    starts : (f : FrameWords) → IsAmong (map pass_in s.views) f → key.start ≤ f.start
    starts f among =
        let long = done_long b.identity f (done_of b s.words (map pass_in s.views) q.ruled f among) in let a = among_claimed b s.words (map pass_in s.views) q.ruled f among (covering f.start) in let c = covered b s.words (map pass_in s.views) q.ruled.claims f.start in
        low f.start (length f.words) key.start (claimed_sum (covering f.start) (map pass_in s.views)) (tail_of b (map pass_in s.views) - f.start) long a c
      where
        low : (p n s t m : ℕ) → 0 < n → covers p p (8 * n) ≤ t → t ≡ min 1 (min (p + 1 - s) m) → s ≤ p
        low p n s t m long a c = omega arith

    -- what it has is committed
    pub had : (g : FrameWords) → Has m.0.pass r g → IsAmong (map pass_in s.views) g
    had g (inl a) = all_at (IsAmong (map pass_in s.views)) g r.known consumer.known a
    had g (inr a) = is_among (map pass_in s.views) id m.0.pass g here a

    long_had : (g : FrameWords) → Has m.0.pass r g → 0 < length g.words
    long_had g a = done_long b.identity g (done_of b s.words (map pass_in s.views) q.ruled g (had g a))

  pub look : r.number < 8 → Allows (LogRuled key) slots id m (slot key.identity.geometry r.position) (λ n. n) (λ n m'. reading (λ v k w. Looks v place k w) m n m')
  look low s q homes at small =
      let v : View = m.0 in let ws : List ℕ = s.words in let qs : List Pass = map pass_in s.views in let i : ℕ = slot key.identity.geometry r.position in let n : ℕ = slice_index ws i in
      let bs : Bounds = now_at key (slice_index ws limit_place) q.cleaned in let pl = stands s q at low in let cons = consumer s q at in
      dite (dec_le 1 n)
      (λ pos. let f = finds bs ws qs q.ruled q.kept.ahead r.position pl pos in let x : Reading = knows_more r f.frame_there in let rs : List Reading = set v.pass.reading place x in
      let w : View = record { pass = with_consumer v.pass place x; steps = suc v.steps; controls = v.controls; sure = v.sure } in (
        w,
        keeps,
        tt,
        loaded key s q id i v rs v.pass.keeping at (renumbered x refl) refl (more s q at f.frame_there f.among),
        (
          refl,
          refl,
          record { sure = refl; leads = λ one. refl },
          λ r' is'. subst (λ (y : Reading). LookedHere v.pass place y n w.pass) (some-injective r r' (sym is ∙ is')) record {
            none = λ z. absurd (clash n pos z);
            found = λ _. record {
              frame = f.frame_there;
              here = subst (λ (j : Identity). IsFrameAt j r.position f.frame_there) (sym (identity_is s q at)) (frame_at bs ws qs q.ruled r.position pl.unit f.frame_there f.among f.at);
              word = f.word;
              only = λ g among here. one_frame bs ws qs q.ruled g f.frame_there (had s q at g among) f.among (here ∙ sym f.at) (long_had s q at g among) f.long;
              own = λ all. whole_has bs ws qs q.ruled id v.pass (at_map pass_in s.views id v at) all f.frame_there f.among f.long;
              after = refl;
            };
          },
        ),
      ))
      (λ no. let zero_here : n ≡ 0 = none_is n (lt_of_not-le no) in let x : Reading = missed r in let rs : List Reading = set v.pass.reading place x in
      let w : View = record { pass = with_consumer v.pass place x; steps = suc v.steps; controls = v.controls; sure = v.sure } in (
        w,
        keeps,
        tt,
        loaded key s q id i v rs v.pass.keeping at (renumbered x refl) refl (looked s q at),
        (
          refl,
          refl,
          record { sure = refl; leads = λ one. refl },
          λ r' is'. subst (λ (y : Reading). LookedHere v.pass place y n w.pass) (some-injective r r' (sym is ∙ is')) record {
            none = λ z. (refl, λ g among here. stops n (slice_index g.words 0) z (word_there bs ws qs q.ruled r.position pl g (had s q at g among) here (long_had s q at g among)) (done_of bs ws qs q.ruled g (had s q at g among)).first);
            found = λ pos. absurd (clash n pos zero_here);
          },
        ),
      ))
    where
      clash : (n : ℕ) → 1 ≤ n → n ≡ 0 → ⊥
      clash n pos z = omega arith

      none_is : (n : ℕ) → n < 1 → n ≡ 0
      none_is n lt = omega arith

      stops : (n w : ℕ) → n ≡ 0 → n ≡ w → 0 < w → ⊥
      stops n w z e pos = omega arith

  -- ---- a word of a frame that is known

  pub word : (p i : ℕ) → r.number < 8 → Allows (LogRuled key) slots id m (slot key.identity.geometry (p + 8 * i)) (λ n. n) (λ n m'. reading (λ v k w. Rereads v place p i k w) m n m')
  word p i low s q homes at small =
      let v : View = m.0 in let ws : List ℕ = s.words in let qs : List Pass = map pass_in s.views in let j : ℕ = slot key.identity.geometry (p + 8 * i) in let n : ℕ = slice_index ws j in
      let bs : Bounds = now_at key (slice_index ws limit_place) q.cleaned in let pl = stands s q at low in let cons = consumer s q at in
      let w : View = record { pass = v.pass; steps = suc v.steps; controls = v.controls; sure = v.sure } in (
        w,
        keeps,
        tt,
        loaded key s q id j v v.pass.reading v.pass.keeping at (λ j. refl) refl (unmoved s q at),
        (
          refl,
          refl,
          record { sure = refl; leads = λ one. refl },
          record {
            word = λ r' f is' among start inside near. (let same : r ≡ r' = some-injective r r' (sym is ∙ is') in let known : Has v.pass r f = subst (λ (x : Reading). Has v.pass x f) (sym same) among in
                let near' : r.position ≤ p + term_of v.pass = subst (λ (x : Reading). x.position ≤ p + term_of v.pass) (sym same) near in
                let shape : term_of v.pass ≡ size_of bs = ap (λ (y : Identity). y.geometry.term_length) (identity_is s q at) in
                let among' = had s q at f known in let readable = pl.readable in let from = starts s q at f among' in
                ap (λ (x : ℕ). slice_index ws (slot key.identity.geometry (x + 8 * i))) (sym start) ∙ stands_of bs ws qs q.ruled f among' i inside (above bs.cleaned bs.start r.position (size_of bs) (term_of v.pass) p f.start i readable near' shape start from));
            here = λ r' f is' among start. (let same : r ≡ r' = some-injective r r' (sym is ∙ is') in let among' = had s q at f (subst (λ (x : Reading). Has v.pass x f) (sym same) among) in let unit = unit_of bs ws qs q.ruled f among' in
                subst (λ (j : Identity). IsFrameAt j p f) (sym (identity_is s q at)) (frame_at bs ws qs q.ruled p (subst (λ (x : ℕ). x % 32 ≡ 0) start unit) f among' start));
            only = λ r' f g is' in_f at_f in_g at_g. (let same : r ≡ r' = some-injective r r' (sym is ∙ is') in let h : Has v.pass r f = subst (λ (x : Reading). Has v.pass x f) (sym same) in_f in let k : Has v.pass r g = subst (λ (x : Reading). Has v.pass x g) (sym same) in_g in
                one_frame bs ws qs q.ruled g f (had s q at g k) (had s q at f h) (at_g ∙ sym at_f) (long_had s q at g k) (long_had s q at f h));
            after = refl;
          },
        ),
      )
    where
      above : (c s p t t' a fs i : ℕ) → c ≤ max s (p - t) → p ≤ a + t' → t' ≡ t → fs ≡ a → s ≤ fs → c ≤ fs + 8 * i
      above c s p t t' a fs i le near e at from = omega arith

  -- ---- the consumer's position is stored

  pub pass : (end : ℕ) → MayPass m.0.pass place end → r.number < 8 → Allows (LogRuled key) slots id m (consumer_place r.number) (λ _. end) (λ _ m'. reading (λ v k w. Consumes v place end w) m 0 m')
  pass end may low s q homes at small =
      let v : View = m.0 in let ws : List ℕ = s.words in let qs : List Pass = map pass_in s.views in let i : ℕ = consumer_place r.number in
      let bs : Bounds = now_at key (slice_index ws limit_place) q.cleaned in let pl = stands s q at low in let cons = consumer s q at in
      let x : Reading = moved_to r end in let rs : List Reading = set v.pass.reading place x in let w : View = record { pass = with_consumer v.pass place x; steps = suc v.steps; controls = v.controls; sure = v.sure } in
      let ws' : List ℕ = set ws i end in let qs' : List Pass = set qs id w.pass in
      let same : may.consumer ≡ r = some-injective may.consumer r (sym may.is ∙ is) in
      let f : FrameWords = may.frame in let known : Among f r.known = subst (λ (y : Reading). Among f y.known) same may.known in let at_it : f.start ≡ r.position = may.here ∙ ap (λ (y : Reading). y.position) same in
      let among = all_at (IsAmong qs) f r.known cons.known known in let p : ℕ = r.position in let n : ℕ = 8 * length f.words in let d = done_of bs ws qs q.ruled f among in
      let long : 0 < n = twice (length f.words) (done_long bs.identity f d) in let ends : end ≡ p + n = may.ends ∙ ap (λ (z : ℕ). z + n) at_it in
      let counts : (h : Extent → ℕ) → h (record { start = p; bytes = n; cut = f.cut }) ≤ claimed_sum h qs = λ h. subst (λ (z : ℕ). h (record { start = z; bytes = n; cut = f.cut }) ≤ claimed_sum h qs) at_it (among_claimed bs ws qs q.ruled f among h) in
      let edge : IsEdge bs qs (p + n) = edge_behind bs ws qs q.ruled p n f.cut long counts in
      let one : 1 ≤ committed_sum (begins_at p) qs = (let a = among (λ g. begins_at p (extent_of g)) in first p f.start n (committed_sum (begins_at p) qs) long at_it a) in
      let passed : AreCommitted qs (p + n) = passed_behind bs ws qs q.ruled p n f.cut long counts pl.passed one in
      let there : IsPlaced bs qs end = subst (IsPlaced bs qs) (sym ends) record {
        unit = (let a = pl.unit in let c = words_cover bs.identity f d in units p n (frame_length d.content) a c);
        from = (let a = pl.from in up bs.start p n a);
        readable = (let a = pl.readable in further bs.cleaned bs.start p (size_of bs) n a);
        edge = edge;
        passed = passed;
      } in
      let far : 80 ≤ i = omega arith in let near : i < 208 = places r.number low in
      let ruled : Ruled bs ws' qs' = rested bs ws qs q.ruled id i end v.pass rs v.pass.keeping far near (here s q at) in
      let g : Grows bs qs qs' = grows bs ws ws' qs qs' q.ruled ruled (inl (rest_looks qs id v.pass rs v.pass.keeping (here s q at))) in
      let limit : slice_index ws' limit_place ≡ slice_index ws limit_place = get_or-set_other ws i 0 end 0 (λ e. omega arith) in
      let stored : slice_index ws' i ≡ end = get_or-set_same ws i end 0 (inside (length ws) i (ring_of (shape_of bs)) near q.ruled.claims.wide) in
      let others : (j : ℕ) → j ≢ r.number → slice_index ws' (consumer_place j) ≡ slice_index ws (consumer_place j) = λ j ne. get_or-set_other ws i (consumer_place j) end 0 (λ e. ne (one_place j r.number e)) in
      let was : slice_index ws i ≡ p = cons.position low in
      let reader_kept : (y : Reading) → y.number ≢ r.number → IsReader ws qs y → IsReader ws' qs' y = λ y ne k. record { position = λ lt. others y.number ne ∙ k.position lt; known = all_weaker (IsAmong qs) (IsAmong qs') g.among y.known k.known } in
      let keeper_kept : (y : Keeping) → IsKeeper bs q.there ws qs y → IsKeeper bs q.there ws' qs' y = λ y k. record {
        limit = k.limit;
        cleaned = k.cleaned;
        there = k.there;
        all = k.all;
        seen = λ one j h. seen_on bs qs qs' g (slice_index y.positions j) (k.seen one j h);
        swept = λ one j lt. dite (ℕ_discrete j r.number)
            (λ e. let le = k.swept one j lt in let a : slice_index ws' (consumer_place j) ≡ end = ap (λ (z : ℕ). slice_index ws' (consumer_place z)) e ∙ stored in let c : slice_index ws (consumer_place j) ≡ p = ap (λ (z : ℕ). slice_index ws (consumer_place z)) e ∙ was in
            rises (slice_index y.positions j) (slice_index ws (consumer_place j)) (slice_index ws' (consumer_place j)) p end n le a c ends)
            (λ ne. let le = k.swept one j lt in let e = others j ne in stays (slice_index y.positions j) (slice_index ws (consumer_place j)) (slice_index ws' (consumer_place j)) le e);
      } in
      let single : total (readers_of r.number) qs ≤ 1 = (let a = q.kept.single r.number low in let f = q.kept.flags r.number in omega arith) in
      let mine_one : reads_as r.number r ≡ 1 = itself r.number in
      let mine_some : 1 ≤ readers_of r.number v.pass = (let a = total_at (reads_as r.number) v.pass.reading place r is in least (reads_as r.number r) (readers_of r.number v.pass) a mine_one) in
      let mine_all : readers_of r.number v.pass ≤ 1 = (let a = total_at (readers_of r.number) qs id v.pass (here s q at) in below (readers_of r.number v.pass) (total (readers_of r.number) qs) a single) in
      let kept : Kept bs q.there ws' qs' = record {
        eight = q.kept.eight;
        flags = q.kept.flags;
        one = q.kept.one;
        any = q.kept.any;
        unit = q.kept.unit;
        ahead = q.kept.ahead;
        free = λ j low' none. others j (λ e. taken (slice_index q.there j) (slice_index q.there r.number) (ap (λ (z : ℕ). slice_index q.there z) e) (is_here s q at low) none) ∙ q.kept.free j low' none;
        placed = λ j lt. dite (ℕ_discrete j r.number)
            (λ e. subst (IsPlaced bs qs') (sym (ap (λ (z : ℕ). slice_index ws' (consumer_place z)) e ∙ stored)) (placed_on bs qs qs' g end there))
            (λ ne. subst (IsPlaced bs qs') (sym (others j ne)) (placed_on bs qs qs' g (slice_index ws (consumer_place j)) (q.kept.placed j lt)));
        single = λ j lt. subst (λ (t : ℕ). t ≤ slice_index q.there j) (sym (same_sum (readers_of j) qs id v.pass w.pass (here s q at) (renumbered x refl j))) (q.kept.single j lt);
        keepers = subst (λ (t : ℕ). t ≤ 1) (sym (same_sum keepers_of qs id v.pass w.pass (here s q at) refl)) q.kept.keepers;
        each = λ k u e. ⊎_elim
            (λ (y : (k ≡ id) × (w.pass ≡ u)). subst (Attends bs q.there ws' qs') y.1 record {
              readings = all_places (IsReader ws' qs') rs (λ j z e'. ⊎_elim
                  (λ (a : (j ≡ place) × (x ≡ z)). subst (IsReader ws' qs') a.1 record { position = λ lt. stored; known = all_weaker (IsAmong qs) (IsAmong qs') g.among r.known cons.known })
                  (λ (a : (j ≢ place) × (get_elem? v.pass.reading j ≡ some z)). reader_kept z
                  (λ en. let two = both_at (reads_as r.number) v.pass.reading place j r z a.0 is a.1 in let c : reads_as r.number z ≡ 1 = ap (λ (k : ℕ). cond (eqb k r.number) 1 0) en ∙ itself r.number in twofold (reads_as r.number r) (reads_as r.number z) (readers_of r.number v.pass) two mine_one c mine_all)
                  (all_place (IsReader ws qs) v.pass.reading j z a.1 (attends s q at).readings))
                  (at_set v.pass.reading place j x z e'));
              keeping = keeper_kept v.pass.keeping (attends s q at).keeping;
            })
            (λ (y : (k ≢ id) × (get_elem? qs k ≡ some u)). let theirs = q.kept.each k u y.1 in record {
              readings = all_places (IsReader ws' qs') u.reading (λ j z e'. reader_kept z
                  (λ en. let two = both_at (readers_of r.number) qs id k v.pass u y.0 (here s q at) y.1 in let c : reads_as r.number z ≡ 1 = ap (λ (k : ℕ). cond (eqb k r.number) 1 0) en ∙ itself r.number in let a = total_at (reads_as r.number) u.reading j z e' in threefold (readers_of r.number v.pass) (readers_of r.number u) (total (readers_of r.number) qs) (reads_as r.number z) two mine_some c a single)
                  (all_place (IsReader ws qs) u.reading j z e' theirs.readings));
              keeping = keeper_kept u.keeping theirs.keeping;
            })
            (at_set qs id k w.pass u e);
      } in
      let is_set : map pass_in (set s.views id w) ≡ qs' = map-set pass_in s.views id w in let sure = q.sure.each id v at in (
        w,
        keeps,
        tt,
        record {
          cleaned = q.cleaned;
          there = q.there;
          ruled = subst (λ (y : ℕ × List Pass). Ruled (now_at key y.0 q.cleaned) ws' y.1) (λ j. (sym limit j, sym is_set j)) ruled;
          kept = subst (λ (y : ℕ × List Pass). Kept (now_at key y.0 q.cleaned) q.there ws' y.1) (λ j. (sym limit j, sym is_set j)) kept;
          sure = sure_on bs ws s.views q.ruled q.sure id v w at i (λ _. end) (inr (data_leaves i end far)) record { whole = sure.whole; exact = λ one'. sure.exact one' ∙ sym (data_leaves i end far ws) };
          numbered = subst AreNumbered (sym is_set) (numbered_on qs id v.pass w.pass (here s q at) (attends_goes v.pass rs v.pass.keeping) q.numbered);
        },
        (
          refl,
          refl,
          record { sure = refl; leads = λ one'. refl },
          λ r' is'. subst (λ (y : Reading). Consumed v.pass place end y w.pass) (some-injective r r' (sym is ∙ is')) record {
            after = refl;
            ends = λ g has at_g. (let same_f : g ≡ f = one_frame bs ws qs q.ruled g f (had s q at g has) among (at_g ∙ sym at_it) (long_had s q at g has) (done_long bs.identity f d) in may.ends ∙ ap end_of (sym same_f));
            here = λ g has at_g. subst (λ (j : Identity). IsFrameAt j r.position g) (sym (identity_is s q at)) (frame_at bs ws qs q.ruled r.position pl.unit g (had s q at g has) at_g);
          },
        ),
      )
    where
      taken : (a c : ℕ) → a ≡ c → c ≡ 1 → a ≡ 0 → ⊥
      taken a c e one none = omega arith

      twice : (n : ℕ) → 0 < n → 0 < 8 * n
      twice n pos = omega arith

      first : (p s n c : ℕ) → 0 < n → s ≡ p → min n (1 - ((s - p) + (p - s))) ≤ c → 1 ≤ c
      first p s n c pos e le = omega arith

      units : (p n l : ℕ) → p % 32 ≡ 0 → n ≡ aligned l → (p + n) % 32 ≡ 0
      units p n l a c = omega arith

      up : (s p n : ℕ) → s ≤ p → s ≤ p + n
      up s p n le = omega arith

      further : (c s p t n : ℕ) → c ≤ max s (p - t) → c ≤ max s (p + n - t)
      further c s p t n le = omega arith

      places : (k : ℕ) → k < 8 → k * 16 + 80 < 208
      places k lt = omega arith

      inside : (l i q : ℕ) → i < 208 → l ≡ 208 + q → i < l
      inside l i q lt e = omega arith

      one_place : (j k : ℕ) → j * 16 + 80 ≡ k * 16 + 80 → j ≡ k
      one_place j k e = omega arith

      rises : (a old new p e n : ℕ) → a ≤ old → new ≡ e → old ≡ p → e ≡ p + n → a ≤ new
      rises a old new p e n le x y z = omega arith

      stays : (a old new : ℕ) → a ≤ old → new ≡ old → a ≤ new
      stays a old new le e = omega arith

      itself : (k : ℕ) → reads_as k (record { number = k; position = 0; known = []; misses = 0 }) ≡ 1
      itself k = ap (λ (t : Bool). cond t 1 0) (eq-eqb k k refl)

      least : (a t : ℕ) → a ≤ t → a ≡ 1 → 1 ≤ t
      least a t le e = omega arith

      below : (a t : ℕ) → a ≤ t → t ≤ 1 → a ≤ 1
      below a t le one = omega arith

      twofold : (a c t : ℕ) → a + c ≤ t → a ≡ 1 → c ≡ 1 → t ≤ 1 → ⊥
      twofold a c t le e f one = omega arith

      threefold : (a c t z : ℕ) → a + c ≤ t → 1 ≤ a → z ≡ 1 → z ≤ c → t ≤ 1 → ⊥
      threefold a c t z le one e l most = omega arith
