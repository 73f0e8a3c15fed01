-- Two passes meet: their seats become one and two again, and each raw tail is told what lies below it.
use Rattle.std.proofs.Common.{◌≡◌, inl, ℕ, zero, suc, ◌+◌, ◌-◌, ◌/◌, ◌<◌, ◌≤◌, max, List, [], ◌∷◌, ◌++◌, map, set, sym, refl, ap, ◌∙◌, subst, lt_of_not-le, suc-ne-zero, arith}
use mathlib.Core.Option.{some}
use mathlib.Core.Logic.{dite}
use native.Mathlib.Decide.{ℕ_discrete, dec_le}
use lib.ListN.{get_elem?}
use Rattle.std.specs.Prelude.{slice_index}
use Rattle.std.specs.List.{AllByRecursion}
use Rattle.std.proofs.lemmas.List.{map-set, set-get_or}
use Rattle.atomic_table.specs.Table.{Allows, Joins, Splits, State, keeps}
use Rattle.atomic_table.proofs.Lists.{at_map, set_else}
use Rattle.theory.specs.Entry.{Entry}
use Rattle.theory.specs.Refusal.{limit_in}
use Rattle.theory.proofs.Lists.{all_append, all_behind, all_front}
use Rattle.publication.specs.declared.pass.Pass.{Pass}
use Rattle.log_rule.specs.declared.claims.view.View.{View}
use Rattle.log_rule.specs.Claims.Packs.{limit_place}
use Rattle.log_rule.specs.Claims.Sums.{total}
use Rattle.log_rule.specs.Claims.Terms.{Full, Terms, claimed_to}
use Rattle.log_rule.specs.Claims.Rule.{Bounds, ClaimsHold, IsClaimEntry, Knows, entries_of, entry_of, first_of, shape_of, size_of, weight}
use Rattle.log_rule.specs.Claims.Memory.{IsAligned, IsCommittedFrame, IsOpen, Memory, Ruled, StandsInTable, Stored}
use Rattle.log_rule.specs.Claims.Events.{committed_weight}
use Rattle.log_rule.specs.Claims.Plays.{Mine, newcomer, no_keeping, pass_in}
use Rattle.log_rule.specs.Claims.Closing.{spent_seat}
use Rattle.log_rule.proofs.Claimed.Accounts.{none_armed, sighted}
use Rattle.log_rule.proofs.Claimed.Begun.{split_ruled}
use Rattle.log_rule.proofs.Claimed.Gathering.{joined}
use Rattle.log_rule.proofs.Claimed.Memories.{maps_append, stayed}
use Rattle.log_rule.proofs.Claimed.Sures.{sure_join, unsure}
use Rattle.log_rule.proofs.Claimed.Totals.{total_append}
use Rattle.log_rule.specs.declared.rule.Key.{Key}
use Rattle.log_rule.specs.Kept.{Attends, IsReader, Kept, keepers_of, readers_of, reads_as}
use Rattle.log_rule.specs.Numbers.{AreNumbered, is_number, numbers_as}
use Rattle.log_rule.specs.Readings.{reading}
use Rattle.log_rule.specs.Meetings.{Steadies, Steady, back_left, back_right, meeting, meeting_seats, was_shown}
use Rattle.log_rule.specs.Table.{LogRuled, now_at}
use Rattle.log_rule.proofs.Growing.{Grows, attends_on, grows}
use Rattle.log_rule.proofs.Resting.{rest_looks, rested_here}
use Rattle.log_rule.proofs.Consumers.{loaded, spared_same}
use Rattle.log_rule.proofs.Dealing.{cut, kept_split, none_kept}
use Rattle.log_rule.proofs.Gathering.{kept_join}
use Rattle.log_rule.proofs.Owning.{numbered_join, numbered_split, owns_both, owns_none}
use Rattle.log_rule.proofs.Claimed.Whole.{set_at}

-- ---- what is true for good

steady : (b : Bounds) (ws : List ℕ) (ps : List Pass) → Ruled b ws ps → AreNumbered ps → (id : ℕ) (v : Pass) → get_elem? ps id ≡ some v → Steady v
steady b ws ps r a id v at =
    let k = r.claims.each id v at in
    let first : first_of b ≡ v.start / v.identity.geometry.term_length = (λ i. sym k.start i / (sym k.identity i).geometry.term_length) in record {
      number = k.number;
      count = subst (λ (n : ℕ). n ≤ v.seen.count) first k.seen.count.0;
      term = subst (λ (n : ℕ). n ≤ v.seen.term) first k.seen.term.0;
      full = λ j e. subst (λ (n : ℕ). n ≤ j) first (k.seen.full j e).0;
      placed = (r.memory.each id v at).placed;
      owns = a.each id v at;
    }

-- a load that tells a pass of itself keeps the rule
pub told_ruled : (key : Key) (id i : ℕ) (v : View) (s : State (Unit {0}) View) (q : LogRuled key s) → get_elem? s.views id ≡ some v
    → LogRuled key record { words = set s.words i (slice_index s.words i); homes = s.homes; views = set s.views id record { pass = v.pass; steps = suc v.steps; controls = v.controls; sure = v.sure } }
told_ruled key id i v s q at =
    let qs : List Pass = map pass_in s.views in let here = at_map pass_in s.views id v at in let bs : Bounds = now_at key (slice_index s.words limit_place) q.cleaned in
    let g : Grows bs qs (set qs id v.pass) = grows bs s.words s.words qs (set qs id v.pass) q.ruled (rested_here bs s.words qs q.ruled id v.pass v.pass.reading v.pass.keeping here) (inl (rest_looks qs id v.pass v.pass.reading v.pass.keeping here)) in
    loaded key s q id i v v.pass.reading v.pass.keeping at (λ j. refl) refl (attends_on bs q.there q.kept.eight s.words s.words qs (set qs id v.pass) g (spared_same s.words) v.pass (q.kept.each id v.pass here))

-- a step that tells a pass of itself
pub told_here : (key : Key) (slots id i : ℕ) (m : Mine) (told : Pass → ℕ → Pass → Type 0) → ((b : Bounds) (ws : List ℕ) (ps : List Pass) → Ruled b ws ps → AreNumbered ps → get_elem? ps id ≡ some m.0.pass → told m.0.pass (slice_index ws i) m.0.pass)
    → Allows (LogRuled key) slots id m i (λ n. n) (λ n m'. reading told m n m')
told_here key slots id i m told go s q homes at small =
    let v : View = m.0 in (
      record { pass = v.pass; steps = suc v.steps; controls = v.controls; sure = v.sure },
      keeps,
      tt,
      told_ruled key id i v s q at,
      (refl, refl, record { sure = refl; leads = λ one. refl }, go (now_at key (slice_index s.words limit_place) q.cleaned) s.words (map pass_in s.views) q.ruled q.numbered (at_map pass_in s.views id v at)),
    )

pub steadies : (key : Key) (slots id i : ℕ) (m : Mine) → Allows (LogRuled key) slots id m i (λ n. n) (λ n m'. reading (λ v k w. Steadies v w) m n m')
steadies key slots id i m = told_here key slots id i m (λ v k w. Steadies v w) (λ b ws ps r a at. record { steady = steady b ws ps r a id m.0.pass at; same = refl })

-- ---- one seat becomes two again

module _ (p q : Pass) where
  abbrev m : Pass
  m = meeting p q

  weighs : (h : Entry → ℕ) → weight h p + weight h q ≡ weight h m
  weighs h = sym (ap (total h) (maps_append entry_of p.right.claims q.right.claims) ∙ total_append h (entries_of p) (entries_of q))

  -- of lists of both, those of each
  front_of : {A : Type 0} (P : A → Type 0) (fs gs ds es : List A) → AllByRecursion P ((fs ++ gs) ++ (ds ++ es)) → AllByRecursion P (fs ++ ds)
  front_of P fs gs ds es a = all_append P fs ds (all_front P fs gs (all_front P (fs ++ gs) (ds ++ es) a)) (all_front P ds es (all_behind P (fs ++ gs) (ds ++ es) a))

  behind_of : {A : Type 0} (P : A → Type 0) (fs gs ds es : List A) → AllByRecursion P ((fs ++ gs) ++ (ds ++ es)) → AllByRecursion P (gs ++ es)
  behind_of P fs gs ds es a = all_append P gs es (all_behind P fs gs (all_front P (fs ++ gs) (ds ++ es) a)) (all_behind P ds es (all_behind P (fs ++ gs) (ds ++ es) a))

  full_back : (b : Bounds) (t : Terms) (f : ℕ) → f ≤ m.seen.full → ((k : ℕ) → f ≡ suc k → first_of b ≤ k) → ((k : ℕ) → m.seen.full ≡ suc k → Full (shape_of b) (first_of b) t k) → ((k : ℕ) → first_of b ≤ k → k < t.newest → size_of b ≤ t.offset k)
      → (k : ℕ) → f ≡ suc k → Full (shape_of b) (first_of b) t k
  full_back b t zero le low whole done k e = absurd (suc-ne-zero k (sym e))
  full_back b t (suc f) le low whole done k e =
      let top : ℕ = m.seen.full - 1 in let is : m.seen.full ≡ suc top = omega arith in let w = whole top is in let from = low k e in (
        from,
        omega (arith, le, e, is, w.1),
        dite (ℕ_discrete k t.newest)
            (λ same. let one : top ≡ k = omega (arith, le, e, is, w.1, same) in subst (λ (j : ℕ). size_of b ≤ t.offset j) one w.2)
            (λ ne. done k from (omega (arith, le, e, is, w.1, ne))),
      )

  module _ (b : Bounds) (ws : List ℕ) (ps : List Pass) (r : Ruled b ws ps) (id : ℕ) (at : get_elem? ps id ≡ some m) (sp : Steady p) (sq : Steady q) (off : p.right.armed ≡ 0) (off' : q.right.armed ≡ 0) (some : 0 < p.right.parts) (more : 0 < q.right.parts)
      (same : q.identity ≡ p.identity) (from : q.start ≡ p.start) where
    k : Knows b r.claims.terms m
    k = r.claims.each id m at

    s : Stored b ws m
    s = r.memory.each id m at

    first_p : p.start / p.identity.geometry.term_length ≡ first_of b
    first_p = λ i. k.start i / (k.identity i).geometry.term_length

    first_q : q.start / q.identity.geometry.term_length ≡ first_of b
    first_q = (λ i. from i / (same i).geometry.term_length) ∙ first_p

    knows_p : Knows b r.claims.terms p
    knows_p = let cap = k.right.capped in let top = k.seen.begun in record {
      identity = k.identity;
      start = k.start;
      number = k.number;
      right = record { capped = capped p.right.limit q.right.limit b.limit cap; able = omega arith; once = omega arith; idle = λ z. absurd (omega (arith, z, some)) };
      entries = all_front IsClaimEntry (entries_of p) (entries_of q) (subst (AllByRecursion IsClaimEntry) (maps_append entry_of p.right.claims q.right.claims) k.entries);
      seen = record {
        count = k.seen.count;
        term = k.seen.term;
        full = full_back b r.claims.terms p.seen.full (omega arith) (λ j e. subst (λ (n : ℕ). n ≤ j) first_p (sp.full j e)) k.seen.full r.claims.tailed.turns.done;
        begun = omega arith;
        shown = left_of p.seen.shown q.seen.shown (claimed_to (shape_of b) r.claims.terms) k.seen.shown;
      };
    }
      where
        capped : (a c l : ℕ) → limit_in (max a c) ≤ l → limit_in a ≤ l
        capped a c l le = omega arith

        left_of : (a c n : ℕ) → max a c ≤ n → a ≤ n
        left_of a c n le = omega arith

    knows_q : Knows b r.claims.terms q
    knows_q = let cap = k.right.capped in let top = k.seen.begun in record {
      identity = same ∙ k.identity;
      start = from ∙ k.start;
      number = sq.number;
      right = record { capped = capped p.right.limit q.right.limit b.limit cap; able = omega arith; once = omega arith; idle = λ z. absurd (omega (arith, z, more)) };
      entries = all_behind IsClaimEntry (entries_of p) (entries_of q) (subst (AllByRecursion IsClaimEntry) (maps_append entry_of p.right.claims q.right.claims) k.entries);
      seen = record {
        count = (subst (λ (n : ℕ). n ≤ q.seen.count) first_q sq.count, omega arith);
        term = (subst (λ (n : ℕ). n ≤ q.seen.term) first_q sq.term, omega arith);
        full = full_back b r.claims.terms q.seen.full (omega arith) (λ j e. subst (λ (n : ℕ). n ≤ j) first_q (sq.full j e)) k.seen.full r.claims.tailed.turns.done;
        begun = omega arith;
        shown = right_of p.seen.shown q.seen.shown (claimed_to (shape_of b) r.claims.terms) k.seen.shown;
      };
    }
      where
        capped : (a c l : ℕ) → limit_in (max a c) ≤ l → limit_in c ≤ l
        capped a c l le = omega arith

        right_of : (a c n : ℕ) → max a c ≤ n → c ≤ n
        right_of a c n le = omega arith

    stored_p : Stored b ws p
    stored_p = record {
      stands = front_of (StandsInTable b ws) p.work.frames q.work.frames p.work.drafts q.work.drafts s.stands;
      placed = sp.placed;
      aligned = front_of IsAligned p.work.frames q.work.frames p.work.drafts q.work.drafts s.aligned;
      done = all_front (IsCommittedFrame b.identity) p.work.frames q.work.frames s.done;
      undone = all_front IsOpen p.work.drafts q.work.drafts s.undone;
      kept = all_front (λ f. b.cleaned ≤ f.start) p.work.drafts q.work.drafts s.kept;
    }

    stored_q : Stored b ws q
    stored_q = record {
      stands = behind_of (StandsInTable b ws) p.work.frames q.work.frames p.work.drafts q.work.drafts s.stands;
      placed = sq.placed;
      aligned = behind_of IsAligned p.work.frames q.work.frames p.work.drafts q.work.drafts s.aligned;
      done = all_behind (IsCommittedFrame b.identity) p.work.frames q.work.frames s.done;
      undone = all_behind IsOpen p.work.drafts q.work.drafts s.undone;
      kept = all_behind (λ f. b.cleaned ≤ f.start) p.work.drafts q.work.drafts s.kept;
    }

    parted : Ruled b ws (set ps id p ++ q ∷ [])
    parted = split_ruled b ws ps r id m p q at weighs refl (omega arith) (λ j. (let a = none_armed j p off in let c = none_armed j q off' in let d = none_armed j m off in omega arith)) knows_p knows_q stored_p stored_q

-- what is true for good of a pass is so whatever it is shown
steady_shown : (n : ℕ) (v : Pass) → Steady v → Steady (was_shown n v)
steady_shown n v s = record { number = s.number; count = s.count; term = s.term; full = s.full; placed = s.placed; owns = record { claims = s.owns.claims; armed = s.owns.armed } }

-- both were shown what the two together were
shown_both : (k : ℕ) (p q v : Pass) → v ≡ was_shown k (meeting p q) → v ≡ meeting (was_shown v.seen.shown p) (was_shown v.seen.shown q)
shown_both k p q v is = is ∙ ap (λ (n : ℕ). record (meeting p q) { seen = record (meeting p q).seen { shown = n } }) (top p.seen.shown q.seen.shown k v.seen.shown (ap (λ (x : Pass). x.seen.shown) is))
  where
    top : (a c k n : ℕ) → n ≡ max (max a c) k → max (max a c) k ≡ max (max a n) (max c n)
    top a c k n e = omega arith

pub parts_again : (key : Key) (id : ℕ) (v : View) (k : ℕ) (p q : Pass) → v.pass ≡ was_shown k (meeting p q) → Steady p → Steady q → p.right.armed ≡ 0 → q.right.armed ≡ 0 → 0 < p.right.parts → 0 < q.right.parts → q.identity ≡ p.identity → q.start ≡ p.start → q.keeping ≡ no_keeping
    → Splits (LogRuled key) id v (back_left p v) (back_right q v)
parts_again key id v k p0 q0 is sp0 sq0 off off' able more same from none s r at =
    let n : ℕ = v.pass.seen.shown in let p : Pass = was_shown n p0 in let q : Pass = was_shown n q0 in let sp : Steady p = steady_shown n p0 sp0 in let sq : Steady q = steady_shown n q0 sq0 in
    let ps : List Pass = map pass_in s.views in let b : Bounds = now_at key (slice_index s.words limit_place) r.cleaned in
    let h : get_elem? ps id ≡ some (meeting p q) = at_map pass_in s.views id v at ∙ ap some (shown_both k p0 q0 v.pass is) in let a = r.kept.each id (meeting p q) h in
    let ruled = parted p q b s.words ps r.ruled id h sp sq off off' able more same from in
    cut key id v s r at (back_left p0 v) (back_right q0 v) ruled
    (kept_split b r.there s.words ps r.ruled r.kept id (meeting p q) p q h ruled (weighs p q) (λ f. sym (total_append f p.work.frames q.work.frames))
    (λ j lt. sym (total_append (reads_as j) p.reading q.reading)) (let z = ap (λ (x : Rattle.publication.specs.declared.pass.Keeping.Keeping). x.right) none in omega arith)
    record { readings = all_front (IsReader s.words ps) p.reading q.reading a.readings; keeping = a.keeping }
    record { readings = all_behind (IsReader s.words ps) p.reading q.reading a.readings; keeping = subst (Rattle.log_rule.specs.Kept.IsKeeper b r.there s.words ps) (sym none) (none_kept b r.there s.words ps) })
    (unsure s.words (back_left p0 v) refl) refl
    (numbered_split ps id (meeting p q) p q h (λ n. sym (total_append (is_number n) p.right.numbers q.right.numbers)) sp.owns sq.owns r.numbered)

-- ---- two seats become one

set_again : {A : Type 0} (xs : List A) (i : ℕ) (x y : A) → set (set xs i x) i y ≡ set xs i y
set_again [] i x y = refl
set_again (z ∷ zs) zero x y = refl
set_again (z ∷ zs) (suc i) x y = ap (λ (ys : List _). z ∷ ys) (set_again zs i x y)

-- the first with what both have seen
abbrev seeing_both : Pass → Pass → Pass
seeing_both v w = record v {
  right = record v.right { limit = max v.right.limit w.right.limit };
  seen = record v.seen { full = max v.seen.full w.seen.full; begun = max v.seen.begun (max w.seen.begun (max w.seen.count w.seen.term)); shown = max v.seen.shown w.seen.shown };
  reading = v.reading ++ w.reading;
}

sees_both : (b : Bounds) (ws : List ℕ) (ps : List Pass) (r : Ruled b ws ps) (i j : ℕ) (v w : Pass) → get_elem? ps i ≡ some v → get_elem? ps j ≡ some w → Ruled b ws (set ps i (seeing_both v w))
sees_both b ws ps r i j v w at at' =
    let kv = r.claims.each i v at in let kw = r.claims.each j w at' in let u : Pass = seeing_both v w in
    let knows : Knows b r.claims.terms u = record {
      identity = kv.identity;
      start = kv.start;
      number = kv.number;
      right = record { capped = (let a = kv.right.capped in let c = kw.right.capped in capped v.right.limit w.right.limit b.limit a c); able = kv.right.able; once = kv.right.once; idle = kv.right.idle };
      entries = kv.entries;
      seen = record {
        count = kv.seen.count;
        term = kv.seen.term;
        full = λ n e. dite (dec_le w.seen.full v.seen.full) (λ le. kv.seen.full n (omega (arith, e, le))) (λ no. let lt = lt_of_not-le no in kw.seen.full n (omega (arith, e, lt)));
        begun = (let a = kv.seen.begun in let c = kw.seen.begun in let d = kw.seen.count.1 in let e = kw.seen.term.1 in most v.seen.begun w.seen.begun w.seen.count w.seen.term r.claims.terms.newest a c d e);
        shown = both_low v.seen.shown w.seen.shown (claimed_to (shape_of b) r.claims.terms) kv.seen.shown kw.seen.shown;
      };
    } in record {
      claims = subst (λ (l : List ℕ). ClaimsHold b l (set ps i u)) (set-get_or ws 80 0) (sighted b ws ps r.claims i 80 v u at knows refl refl refl refl);
      memory = subst (λ (l : List ℕ). Memory b l (set ps i u)) (set-get_or ws 80 0) (stayed b ws ps r.memory i 80 (slice_index ws 80) v u (omega arith) at record { claims = refl; work = refl });
    }
  where
    capped : (a c l : ℕ) → limit_in a ≤ l → limit_in c ≤ l → limit_in (max a c) ≤ l
    capped a c l x y = omega arith

    both_low : (a c n : ℕ) → a ≤ n → c ≤ n → max a c ≤ n
    both_low a c n x y = omega arith

    most : (a c d e n : ℕ) → a ≤ n → c ≤ n → d ≤ n → e ≤ n → max a (max c (max d e)) ≤ n
    most a c d e n x y z u = omega arith

met : (b : Bounds) (ws : List ℕ) (ps : List Pass) → Ruled b ws ps → (i j : ℕ) (v w : Pass) → get_elem? ps i ≡ some v → (j ≡ i → ⊥) → get_elem? ps j ≡ some w → v.right.armed ≡ 0 → w.right.armed ≡ 0 → 0 < v.right.parts → Ruled b ws (set (set ps i (meeting v w)) j (newcomer b.identity b.start 0 0))
met b ws ps r i j v w at ne at' off off' able =
    let u : Pass = seeing_both v w in let ps1 : List Pass = set ps i u in let same : set ps1 i (meeting v w) ≡ set ps i (meeting v w) = set_again ps i u (meeting v w) in
    let there : get_elem? (set ps1 i (meeting v w)) j ≡ some w = subst (λ (l : List Pass). get_elem? l j ≡ some w) (sym same) (set_else ps i j (meeting v w) ne ∙ at') in
    subst (λ (l : List Pass). Ruled b ws (set l j (newcomer b.identity b.start 0 0))) same (joined b ws ps1 (sees_both b ws ps r i j v w at at') i j u w (set_at ps i v u at) ne there off off' able)

pub meets : (key : Key) (id other : ℕ) (v w : View) → v.pass.right.armed ≡ 0 → w.pass.right.armed ≡ 0 → 0 < v.pass.right.parts → Joins (LogRuled key) id v other w (meeting_seats v w) (spent_seat key.identity key.start)
meets key id other v w off off' able s r at ne at' =
    let ps : List Pass = map pass_in s.views in let b : Bounds = now_at key (slice_index s.words limit_place) r.cleaned in let l : View = meeting_seats v w in let q : View = spent_seat key.identity key.start in
    let here : get_elem? ps id ≡ some v.pass = at_map pass_in s.views id v at in let there : get_elem? ps other ≡ some w.pass = at_map pass_in s.views other w (sym (set_else s.views id other l ne) ∙ at') in
    let is : map pass_in (set (set s.views id l) other q) ≡ set (set ps id l.pass) other q.pass = map-set pass_in (set s.views id l) other q ∙ ap (λ (x : List Pass). set x other q.pass) (map-set pass_in s.views id l) in
    let a = r.kept.each id v.pass here in let c = r.kept.each other w.pass there in
    let ruled : Ruled b s.words (set (set ps id l.pass) other q.pass) = met b s.words ps r.ruled id other v.pass w.pass here ne there off off' able in
    let kept : Kept b r.there s.words (set (set ps id l.pass) other q.pass) = kept_join b r.there s.words ps r.ruled r.kept id other v.pass w.pass l.pass q.pass here (set_else ps id other l.pass ne ∙ there) ruled
    (λ h. plus_none (weight h l.pass) (weight h v.pass + weight h w.pass) (ap (total h) (maps_append entry_of v.pass.right.claims w.pass.right.claims) ∙ total_append h (entries_of v.pass) (entries_of w.pass)))
    (λ h. plus_none (committed_weight h l.pass) (committed_weight h v.pass + committed_weight h w.pass) (total_append h v.pass.work.frames w.pass.work.frames))
    (λ m. both_read (readers_of m l.pass) (readers_of m v.pass) (readers_of m w.pass) (total_append (reads_as m) v.pass.reading w.pass.reading)) (no_more (keepers_of v.pass) (keepers_of w.pass))
    record { readings = all_append (IsReader s.words ps) v.pass.reading w.pass.reading a.readings c.readings; keeping = a.keeping } record { readings = tt; keeping = none_kept b r.there s.words ps } in record {
      cleaned = r.cleaned;
      there = r.there;
      ruled = subst (Ruled b s.words) (sym is) ruled;
      kept = subst (Kept b r.there s.words) (sym is) kept;
      sure = sure_join s.words s.views r.sure id other l q (unsure s.words l refl) (unsure s.words q refl);
      numbered = subst AreNumbered (sym is) (numbered_join ps id other v.pass w.pass l.pass q.pass here (set_else ps id other l.pass ne ∙ there)
          (λ n. plus_none (numbers_as n l.pass) (numbers_as n v.pass + numbers_as n w.pass) (total_append (is_number n) v.pass.right.numbers w.pass.right.numbers))
          (let o = owns_both v.pass w.pass off (r.numbered.each id v.pass here) (r.numbered.each other w.pass there) in record { claims = o.claims; armed = o.armed }) (owns_none q.pass refl refl) r.numbered);
    }
  where
    plus_none : (n m : ℕ) → n ≡ m → n + 0 ≡ m
    plus_none n m e = omega arith

    no_more : (n m : ℕ) → n + 0 ≤ n + m
    no_more n m = omega arith

    both_read : (l v w : ℕ) → l ≡ v + w → l + 0 ≤ v + w
    both_read l v w e = omega arith
