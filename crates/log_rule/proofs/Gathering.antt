-- Seats that are gathered keep the rule, and a pass is told how much it has claimed.
use Rattle.std.proofs.Common.{◌≡◌, ◌≢◌, inl, ℕ, suc, ◌+◌, ◌<◌, ◌≤◌, List, map, set, sym, refl, ap, ◌∙◌, subst, ⊎_elim, arith}
use mathlib.Core.Option.{some}
use lib.ListN.{get_elem?}
use Rattle.std.specs.Prelude.{slice_index}
use Rattle.std.proofs.lemmas.List.{map-set}
use Rattle.atomic_table.specs.Table.{Allows, Joins, State, keeps}
use Rattle.atomic_table.proofs.Lists.{at_map, at_set, set_else}
use Rattle.theory.specs.Bytes.{Identity}
use Rattle.theory.specs.Entry.{Entry, length_of}
use Rattle.theory.specs.Placed.{Among}
use Rattle.theory.specs.Position.{max_position}
use Rattle.theory.specs.Tiling.{Tiles}
use Rattle.theory.proofs.Lists.{all_weaker}
use Rattle.publication.specs.declared.pass.FrameWords.{FrameWords}
use Rattle.publication.specs.declared.pass.Pass.{Pass}
use Rattle.log_rule.specs.declared.claims.view.View.{View}
use Rattle.log_rule.specs.Claims.Packs.{consumer_place, limit_place}
use Rattle.log_rule.specs.Claims.Sums.{total}
use Rattle.log_rule.specs.Claims.Rule.{Bounds, entries_of, entry_of, parts_of, shape_of, weight}
use Rattle.log_rule.specs.Claims.Memory.{Ruled}
use Rattle.log_rule.specs.Claims.Events.{IsLook, committed_weight}
use Rattle.log_rule.specs.Claims.Sure.{AreSure}
use Rattle.log_rule.specs.Claims.Plays.{Mine, pass_in}
use Rattle.log_rule.specs.Claims.Closing.{both_seats, spent_seat}
use Rattle.log_rule.proofs.Claimed.Gathering.{joined}
use Rattle.log_rule.proofs.Claimed.Memories.{maps_append, tail_is}
use Rattle.log_rule.proofs.Claimed.Sures.{sure_join, unsure}
use Rattle.log_rule.proofs.Claimed.Totals.{total_append, total_at, total_map, total_one, total_set}
use Rattle.log_rule.specs.declared.rule.Key.{Key}
use Rattle.log_rule.specs.Kept.{Attends, Kept, keepers_of, readers_of}
use Rattle.log_rule.specs.Numbers.{AreNumbered, is_number, numbers_as}
use Rattle.log_rule.specs.Readings.{reading}
use Rattle.log_rule.specs.Shares.{Weighs, claimed_bytes}
use Rattle.log_rule.specs.Edges.{IsAmong}
use Rattle.log_rule.specs.Table.{LogRuled, all_known, now_at}
use Rattle.log_rule.proofs.Growing.{Grows, attends_on, grows, placed_on}
use Rattle.log_rule.proofs.Consumers.{loaded, spared_same}
use Rattle.log_rule.proofs.Dealing.{known_all, none_kept}
use Rattle.log_rule.proofs.InTerm.{done_long}
use Rattle.log_rule.proofs.Known.{done_of, whole_has}
use Rattle.log_rule.proofs.Owning.{numbered_join, owns_both, owns_none, single_at}
use Rattle.log_rule.proofs.Sums.{parted}
use Rattle.log_rule.proofs.Edges.{tail_low}
use Rattle.log_rule.proofs.Resting.{rest_looks, rested_here}

-- ---- two seats become one

two_total : (f : Pass → ℕ) (ps : List Pass) (i j : ℕ) (v w l r : Pass) → get_elem? ps i ≡ some v → get_elem? (set ps i l) j ≡ some w → total f (set (set ps i l) j r) + (f v + f w) ≡ total f ps + (f l + f r)
two_total f ps i j v w l r at at' = let a = total_set f ps i v l at in let c = total_set f (set ps i l) j w r at' in omega arith

same_two : (f : Pass → ℕ) (ps : List Pass) (i j : ℕ) (v w l r : Pass) → get_elem? ps i ≡ some v → get_elem? (set ps i l) j ≡ some w → f l + f r ≡ f v + f w → total f (set (set ps i l) j r) ≡ total f ps
same_two f ps i j v w l r at at' e = let a = two_total f ps i j v w l r at at' in omega arith

pub kept_join : (b : Bounds) (n : List ℕ) (ws : List ℕ) (ps : List Pass) → Ruled b ws ps → Kept b n ws ps → (i j : ℕ) (v w l r : Pass) → get_elem? ps i ≡ some v → get_elem? (set ps i l) j ≡ some w → Ruled b ws (set (set ps i l) j r)
    → ((h : Entry → ℕ) → weight h l + weight h r ≡ weight h v + weight h w) → ((h : FrameWords → ℕ) → committed_weight h l + committed_weight h r ≡ committed_weight h v + committed_weight h w)
    → ((m : ℕ) → readers_of m l + readers_of m r ≤ readers_of m v + readers_of m w) → keepers_of l + keepers_of r ≤ keepers_of v + keepers_of w → Attends b n ws ps l → Attends b n ws ps r → Kept b n ws (set (set ps i l) j r)
kept_join b n ws ps r k i j v w l q at at' r' claims frames reads keep left right =
    let ps' : List Pass = set (set ps i l) j q in
    let look : IsLook ps ps' = record { claimed = λ h. same_two (weight h) ps i j v w l q at at' (claims h); committed = λ h. same_two (committed_weight h) ps i j v w l q at at' (frames h) } in
    let g : Grows b ps ps' = grows b ws ws ps ps' r r' (inl look) in let on = attends_on b n k.eight ws ws ps ps' g (spared_same ws) in record {
      eight = k.eight;
      flags = k.flags;
      one = k.one;
      any = k.any;
      unit = k.unit;
      ahead = k.ahead;
      free = k.free;
      placed = λ m lt. placed_on b ps ps' g (slice_index ws (consumer_place m)) (k.placed m lt);
      single = λ m lt. (let a = two_total (readers_of m) ps i j v w l q at at' in let c = reads m in let d = k.single m lt in fewer (slice_index n m) (total (readers_of m) ps') (readers_of m v + readers_of m w) (total (readers_of m) ps) (readers_of m l + readers_of m q) a c d);
      keepers = (let a = two_total keepers_of ps i j v w l q at at' in let d = k.keepers in fewer 1 (total keepers_of ps') (keepers_of v + keepers_of w) (total keepers_of ps) (keepers_of l + keepers_of q) a keep d);
      each = λ x u e. ⊎_elim
          (λ (y : (x ≡ j) × (q ≡ u)). subst (Attends b n ws ps') y.1 (on q right))
          (λ (y : (x ≢ j) × (get_elem? (set ps i l) x ≡ some u)). ⊎_elim
          (λ (z : (x ≡ i) × (l ≡ u)). subst (Attends b n ws ps') z.1 (on l left))
          (λ (z : (x ≢ i) × (get_elem? ps x ≡ some u)). on u (k.each x u z.1))
          (at_set ps i x l u y.1))
          (at_set (set ps i l) j x q u e);
    }
  where
    fewer : (most now was old is : ℕ) → now + was ≡ old + is → is ≤ was → old ≤ most → now ≤ most
    fewer most now was old is e le one = omega arith

-- all of the rule but the numbers
pub record Rest (key : Key) (s : State (Unit {0}) View) : Type 0 where
  pub cleaned : ℕ
  pub there : List ℕ
  pub ruled : Ruled (now_at key (slice_index s.words limit_place) cleaned) s.words (map pass_in s.views)
  pub kept : Kept (now_at key (slice_index s.words limit_place) cleaned) there s.words (map pass_in s.views)
  pub sure : AreSure s.words s.views

pub rest_of : (key : Key) (s : State (Unit {0}) View) → LogRuled key s → Rest key s
rest_of key s r = record { cleaned = r.cleaned; there = r.there; ruled = r.ruled; kept = r.kept; sure = r.sure }

pub gathered : (key : Key) (id other : ℕ) (v w : View) → v.pass.right.armed ≡ 0 → w.pass.right.armed ≡ 0 → 0 < v.pass.right.parts → (s : State (Unit {0}) View) → Rest key s → get_elem? s.views id ≡ some v → (other ≡ id → ⊥) → get_elem? (set s.views id (both_seats v w)) other ≡ some w
    → AreNumbered (map pass_in (set (set s.views id (both_seats v w)) other (spent_seat key.identity key.start))) → LogRuled key record { words = s.words; homes = s.homes; views = set (set s.views id (both_seats v w)) other (spent_seat key.identity key.start) }
gathered key id other v w off off' able s r at ne at' numbered =
    let ps : List Pass = map pass_in s.views in let b : Bounds = now_at key (slice_index s.words limit_place) r.cleaned in let l : View = both_seats v w in let q : View = spent_seat key.identity key.start in
    let is : map pass_in (set (set s.views id l) other q) ≡ set (set ps id l.pass) other q.pass = map-set pass_in (set s.views id l) other q ∙ ap (λ (x : List Pass). set x other q.pass) (map-set pass_in s.views id l) in
    let here = at_map pass_in s.views id v at in let there : get_elem? (set ps id l.pass) other ≡ some w.pass = subst (λ (x : List Pass). get_elem? x other ≡ some w.pass) (map-set pass_in s.views id l) (at_map pass_in (set s.views id l) other w at') in
    let ruled = joined b s.words ps r.ruled id other v.pass w.pass here ne there off off' able in let a = r.kept.each id v.pass here in
    let kept : Kept b r.there s.words (set (set ps id l.pass) other q.pass) = kept_join b r.there s.words ps r.ruled r.kept id other v.pass w.pass l.pass q.pass here there ruled
    (λ h. plus_none (weight h l.pass) (weight h v.pass + weight h w.pass) (ap (total h) (maps_append entry_of v.pass.right.claims w.pass.right.claims) ∙ total_append h (entries_of v.pass) (entries_of w.pass)))
    (λ h. plus_none (committed_weight h l.pass) (committed_weight h v.pass + committed_weight h w.pass) (total_append h v.pass.work.frames w.pass.work.frames))
    (λ m. no_more (readers_of m v.pass) (readers_of m w.pass)) (no_more (keepers_of v.pass) (keepers_of w.pass))
    record { readings = a.readings; keeping = a.keeping } record { readings = tt; keeping = none_kept b r.there s.words ps } in record {
      cleaned = r.cleaned;
      there = r.there;
      ruled = subst (Ruled b s.words) (sym is) ruled;
      kept = subst (Kept b r.there s.words) (sym is) kept;
      sure = sure_join s.words s.views r.sure id other l q (unsure s.words l refl) (unsure s.words q refl);
      numbered = numbered;
    }
  where
    plus_none : (n m : ℕ) → n ≡ m → n + 0 ≡ m
    plus_none n m e = omega arith

    no_more : (n m : ℕ) → n + 0 ≤ n + m
    no_more n m = omega arith

pub gathers : (key : Key) (id other : ℕ) (v w : View) → v.pass.right.armed ≡ 0 → w.pass.right.armed ≡ 0 → 0 < v.pass.right.parts → Joins (LogRuled key) id v other w (both_seats v w) (spent_seat key.identity key.start)
gathers key id other v w off off' able s r at ne at' =
    let ps : List Pass = map pass_in s.views in let l : View = both_seats v w in let q : View = spent_seat key.identity key.start in
    let is : map pass_in (set (set s.views id l) other q) ≡ set (set ps id l.pass) other q.pass = map-set pass_in (set s.views id l) other q ∙ ap (λ (x : List Pass). set x other q.pass) (map-set pass_in s.views id l) in
    let here = at_map pass_in s.views id v at in let there : get_elem? (set ps id l.pass) other ≡ some w.pass = subst (λ (x : List Pass). get_elem? x other ≡ some w.pass) (map-set pass_in s.views id l) (at_map pass_in (set s.views id l) other w at') in
    let was : get_elem? ps other ≡ some w.pass = sym (set_else ps id other l.pass ne) ∙ there in
    gathered key id other v w off off' able s (rest_of key s r) at ne at'
    (subst AreNumbered (sym is) (numbered_join ps id other v.pass w.pass l.pass q.pass here there (λ n. more (numbers_as n l.pass) (numbers_as n v.pass) (numbers_as n w.pass) (total_append (is_number n) v.pass.right.numbers w.pass.right.numbers)) (owns_both v.pass w.pass off (r.numbered.each id v.pass here) (r.numbered.each other w.pass was)) (owns_none q.pass refl refl) r.numbered))
  where
    more : (l v w : ℕ) → l ≡ v + w → l + 0 ≡ v + w
    more l v w e = omega arith

-- ---- how much is claimed

weighs : (b : Bounds) (there ws : List ℕ) (ps : List Pass) → Ruled b ws ps → Kept b there ws ps → AreNumbered ps → (id : ℕ) (v : Pass) → get_elem? ps id ≡ some v → Weighs v v
weighs b there ws ps r kept a id v at =
    let k = r.claims.each id v at in let most = tail_low b ws ps r in let mine = total_at (weight length_of) ps id v at in
    let share : weight length_of v ≡ claimed_bytes v = total_map length_of entry_of v.right.claims in
    let all : v.right.parts ≡ 1024 → (h : Entry → ℕ) → total (weight h) ps ≡ weight h v = λ e h. total_one parts_of (weight h) ps id v at (r.claims.parted ∙ sym e) (λ j w e' none. ap (λ cs. total h (map entry_of cs)) ((r.claims.each j w e').right.idle none)) in record {
      number = k.number;
      low = subst (λ (x : ℕ × Identity). x.0 + claimed_bytes v ≤ max_position x.1.geometry) (λ i. (sym k.start i, sym k.identity i)) (below b.start (claimed_bytes v) (weight length_of v) (total (weight length_of) ps) (max_position (shape_of b)) share mine most);
      entries = k.entries;
      whole = λ e. record {
        log = r.claims.log;
        tiles = subst (λ (x : Identity × ℕ × ℕ). Tiles x.0.geometry.term_length x.1 x.2 r.claims.log) (λ i. (sym k.identity i, sym k.start i, (sym (tail_is b ws ps r.claims) ∙ ap (λ (n : ℕ). b.start + n) (all e length_of ∙ share) ∙ ap (λ (n : ℕ). n + claimed_bytes v) (sym k.start)) i)) r.claims.tiles;
        fair = λ h. sym (all e h) ∙ r.claims.fair h;
      };
      parted = parted b ws v (r.memory.each id v at);
      single = single_at ps id v at a;
      known = λ all. all_weaker (IsAmong ps) (λ f. Among f v.work.frames) (λ f among. whole_has b ws ps r id v at all f among (done_long b.identity f (done_of b ws ps r f among))) (all_known v.reading) (known_all ws ps v.reading (kept.each id v at).readings);
      same = refl;
    }
  where
    below : (s share mine all most : ℕ) → mine ≡ share → mine ≤ all → s + all ≤ most → s + share ≤ most
    below s share mine all most e le up = omega arith

pub weigh : (key : Key) (slots id i : ℕ) (m : Mine) → Allows (LogRuled key) slots id m i (λ n. n) (λ n m'. reading (λ v k w. Weighs v w) m n m')
weigh key slots id i m s q homes at small =
    let v : View = m.0 in let qs : List Pass = map pass_in s.views in let here = at_map pass_in s.views id v at in
    let bs : Bounds = now_at key (slice_index s.words limit_place) q.cleaned in
    let g : Grows bs qs (set qs id v.pass) = grows bs s.words s.words qs (set qs id v.pass) q.ruled (rested_here bs s.words qs q.ruled id v.pass v.pass.reading v.pass.keeping here) (inl (rest_looks qs id v.pass v.pass.reading v.pass.keeping here)) in (
      record { pass = v.pass; steps = suc v.steps; controls = v.controls; sure = v.sure },
      keeps,
      tt,
      loaded key s q id i v v.pass.reading v.pass.keeping at (λ j. refl) refl (attends_on bs q.there q.kept.eight s.words s.words qs (set qs id v.pass) g (spared_same s.words) v.pass (q.kept.each id v.pass here)),
      (refl, refl, record { sure = refl; leads = λ one. refl }, weighs bs q.there s.words qs q.ruled q.kept q.numbered id v.pass here),
    )
