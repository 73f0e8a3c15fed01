-- Steps on control words that move no memory keep the rule.
use Rattle.std.proofs.Common.{◌≡◌, ℕ, zero, suc, ◌+◌, ◌*◌, ◌^◌, ◌<◌, ◌≤◌, ◌⊎◌, inl, ⊎_elim, List, [], ◌∷◌, length, map, set, length-set, get_or-set_same, get_or-set_other, sym, refl, ap, ◌∙◌, subst, arith}
use mathlib.Core.Option.{Option, some, some-injective, some-ne-none}
use mathlib.Core.Logic.{dite}
use native.Mathlib.Decide.{ℕ_discrete}
use lib.ListN.{get_elem?}
use Rattle.std.specs.Prelude.{slice_index}
use Rattle.std.proofs.lemmas.List.{map-set}
use Rattle.atomic_table.specs.Table.{Act, Allows, Valid, carried_after, chain, gives, homes_after, keeps, put_back, rest, takes}
use Rattle.atomic_table.proofs.Lists.{at_map, at_set, set_else}
use Rattle.theory.specs.Bytes.{Identity}
use Rattle.theory.specs.Placed.{Among}
use Rattle.theory.specs.Position.{greatest_claim}
use Rattle.theory.specs.Refusal.{limit_in}
use Rattle.publication.specs.declared.pass.Keeping.{Keeping}
use Rattle.publication.specs.declared.pass.Pass.{Pass}
use Rattle.publication.specs.declared.pass.Reading.{Reading}
use Rattle.publication.specs.Steps.{term_of}
use Rattle.log_rule.specs.declared.claims.view.View.{View}
use Rattle.log_rule.specs.Claims.Admits.{Same}
use Rattle.log_rule.specs.Claims.Events.{IsLook, committed_weight}
use Rattle.log_rule.specs.Claims.Plays as plays
use Rattle.log_rule.specs.Claims.Plays.{pass_in}
use Rattle.log_rule.specs.Claims.Rule.{entry_of, weight}
use Rattle.log_rule.specs.Claims.Sums.{total}
use Rattle.log_rule.specs.Kept.{IsThere}
use Rattle.log_rule.specs.Table.{LogRuled}
use Rattle.log_rule.proofs.Growing.{same_sum}
use Rattle.log_memory.specs.declared.view.LogView.{LogView}
use Rattle.log_memory.specs.declared.view.Site.{Site}
use Rattle.log_memory.specs.Rule.{AreSmall, Board, IsBeyond, IsWithReader, KnowsRoom, LogMemoryRuled, passes_of, shape, stream_state, term, view_in}
use Rattle.log_memory.specs.Steps.{IsCalm, IsIdle, IsQuiet, Mine, Rests, SawBehind, as_view}
use Rattle.log_memory.proofs.Facts.{pass_at}
use Rattle.log_memory.proofs.Resting.{IsStill, Leaves, none_parked, parked_set, rests, still}

-- ---- without slots there is no act

pub no_act : {S : Type 0} (hs : List (Option S)) (c : List (ℕ × S)) (a : Act S) → hs ≡ [] → c ≡ [] → Valid hs c a → (carried_after c a ≡ []) × (homes_after hs c a ≡ [])
no_act {S} hs c keeps eh ec v = (ec, eh)
no_act {S} hs c (takes k y) eh ec v = absurd (some-ne-none (some y) (sym (subst (λ (l : List (Option S)). get_elem? l k ≡ some (some y)) eh v)))
no_act {S} hs c gives eh ec v = (ap rest ec, ap (put_back hs) ec ∙ eh)
no_act {S} hs c (chain a b) eh ec v = let one = no_act hs c a eh ec v.0 in no_act (homes_after hs c a) (carried_after c a) b one.1 one.0 v.1

-- ---- one seat's view changes

pub there_low : {A : Type 0} (l : List A) (i : ℕ) (a : A) → get_elem? l i ≡ some a → i < length l
there_low [] i a e = absurd (some-ne-none a (sym e))
there_low (x ∷ xs) zero a e = omega arith
there_low (x ∷ xs) (suc i) a e = let r = there_low xs i a e in omega arith

pub passes_set : (views : List LogView) (id : ℕ) (w : LogView) → passes_of (set views id w) ≡ set (passes_of views) id w.view.pass
passes_set views id w = ap (map pass_in) (map-set view_in views id w) ∙ map-set pass_in (map view_in views) id w.view

-- who has parts has them still, where this seat had none
pub with_reader_on : (s : Board) (words : List ℕ) (id : ℕ) (v w : LogView) → get_elem? s.views id ≡ some v → IsIdle v → (p j : ℕ) → IsWithReader s p j → IsWithReader (record { words = words; homes = s.homes; views = set s.views id w }) p j
with_reader_on s words id v w at idle p j a = record {
  seat = a.seat;
  view = a.view;
  there = set_else s.views id a.seat w (λ e. let same : v ≡ a.view = some-injective v a.view (sym at ∙ ap (get_elem? s.views) (sym e) ∙ a.there) in let has = a.part.has in clash v.part.has a.view.part.has (ap (λ (x : LogView). x.part.has) same) has idle.0) ∙ a.there;
  part = a.part;
}
  where
    clash : (a c : ℕ) → a ≡ c → c ≡ 1 → a ≡ 0 → ⊥
    clash a c e one none = omega arith

pub beyond_more : (t : Site) (ps : List Pass) (gone p q : ℕ) → p ≤ q → IsBeyond t ps gone p → IsBeyond t ps gone q
beyond_more t ps gone p q le a = record { passed = (let x = a.passed in omega arith); back = λ f among near. a.back f among (omega arith) }

-- a control word of the table and of the stream
pub set_both : (xs ys : List ℕ) (i : ℕ) (f : ℕ → ℕ) (j : ℕ) → i < length xs → i < length ys → slice_index xs i ≡ slice_index ys i → slice_index xs j ≡ slice_index ys j → slice_index (set xs i (f (slice_index xs i))) j ≡ slice_index (set ys i (f (slice_index ys i))) j
set_both xs ys i f j lx ly here there = dite (ℕ_discrete j i)
    (λ e. subst (λ (z : ℕ). slice_index (set xs i (f (slice_index xs i))) z ≡ slice_index (set ys i (f (slice_index ys i))) z) (sym e) (get_or-set_same xs i (f (slice_index xs i)) 0 lx ∙ ap f here ∙ sym (get_or-set_same ys i (f (slice_index ys i)) 0 ly)))
    (λ ne. get_or-set_other xs i j (f (slice_index xs i)) 0 ne ∙ there ∙ sym (get_or-set_other ys i j (f (slice_index ys i)) 0 ne))

pub quiet_look : (views : List LogView) (id : ℕ) (v w : LogView) → get_elem? views id ≡ some v → IsQuiet v.view w.view → IsStill (passes_of views) (passes_of (set views id w))
quiet_look views id v w at q = still (passes_of views) (passes_of (set views id w)) (subst (IsLook (passes_of views)) (sym (passes_set views id w)) record {
  claimed = λ h. same_sum (weight h) (passes_of views) id v.view.pass w.view.pass (pass_at views id v at) (ap (λ cs. total h (map entry_of cs)) q.claims);
  committed = λ h. same_sum (committed_weight h) (passes_of views) id v.view.pass w.view.pass (pass_at views id v at) (ap (total h) q.frames);
})

module _ (t : Site) (s : Board) (r : LogMemoryRuled t s) (id : ℕ) (v w : LogView) (at : get_elem? s.views id ≡ some v) (room : w.room ≡ v.room) (quiet : IsQuiet v.view w.view) where
  saw : (p : ℕ) → SawBehind v.view p → IsBeyond t (passes_of s.views) (r.freed + r.out) p
  saw p a = beyond_more t (passes_of s.views) (r.freed + r.out) (slice_index v.view.pass.keeping.positions a.1.0) p a.1.2 ((r.memory.keeper id v at a.0).seen a.1.0 a.1.1)

  pub own_readers : (x : Reading) → Among x w.view.pass.reading → x.number < 8 → IsBeyond t (passes_of s.views) (r.freed + r.out) x.position
  own_readers x among low = ⊎_elim
      (λ a. beyond_more t (passes_of s.views) (r.freed + r.out) a.0.position x.position a.3 (r.memory.readers id v a.0 at a.1 a.2))
      (λ a. saw x.position a)
      (quiet.readings x among low)

  pub own_room : w.view.pass.keeping.right ≡ 1 → KnowsRoom t (passes_of s.views) r.freed r.out w
  own_room one = let k = r.memory.keeper id v at (quiet.keeper one) in record {
    freed_is = ap (λ x. x.freed) room ∙ k.freed_is;
    out_is = ap (λ x. x.out) room ∙ k.out_is;
    cleaned = (let e = quiet.cleaned in let c = k.cleaned in omega arith);
    seen = λ j there. saw (slice_index w.view.pass.keeping.positions j) (quiet.seen one j there);
  }

  pub all_readers : (i : ℕ) (x : LogView) (y : Reading) → get_elem? (set s.views id w) i ≡ some x → Among y x.view.pass.reading → y.number < 8 → IsBeyond t (passes_of s.views) (r.freed + r.out) y.position
  all_readers i x y there among low = ⊎_elim
      (λ e. own_readers y (subst (λ (z : LogView). Among y z.view.pass.reading) (sym e.1) among) low)
      (λ e. r.memory.readers i x y e.1 among low)
      (at_set s.views id i w x there)

  pub all_rooms : (i : ℕ) (x : LogView) → get_elem? (set s.views id w) i ≡ some x → x.view.pass.keeping.right ≡ 1 → KnowsRoom t (passes_of s.views) r.freed r.out x
  all_rooms i x there one = ⊎_elim
      (λ e. subst (KnowsRoom t (passes_of s.views) r.freed r.out) e.1 (own_room (subst (λ (z : LogView). z.view.pass.keeping.right ≡ 1) (sym e.1) one)))
      (λ e. r.memory.keeper i x e.1 one)
      (at_set s.views id i w x there)

  pub leaves : IsIdle v → w.part ≡ v.part → w.parked ≡ v.parked → (words stream : List ℕ) → LogRuled t.key (stream_state stream (set s.views id w)) → AreSmall stream → length words ≡ length s.words → ((i : ℕ) → i < 208 → slice_index words i ≡ slice_index stream i) → ((i : ℕ) → 208 ≤ i → slice_index words i ≡ slice_index s.words i)
      → limit_in (slice_index words 0) + greatest_claim (shape t) * 8 < r.freed + 3 * term t → Leaves t s r words stream (set s.views id w)
  leaves idle part kept words stream q small long controls heads ahead = record {
    ruled = q;
    look = quiet_look s.views id v w at quiet;
    long = long;
    small = small;
    controls = controls;
    heads = heads;
    ahead = ahead;
    with_reader = with_reader_on s words id v w at idle;
    held = λ i x there has. ⊎_elim
        (λ e. absurd (clash w.part.has v.part.has x.part.has (ap (λ y. y.has) part) (ap (λ (y : LogView). y.part.has) e.1) has idle.0))
        (λ e. r.memory.held i x e.1 has)
        (at_set s.views id i w x there);
    readers = all_readers;
    keeper = all_rooms;
    parked = parked_set t s s id w (none_parked t s w (kept ∙ idle.1)) (λ i x f ne there among. r.memory.parked i x f there among);
  }
    where
      clash : (a c d : ℕ) → a ≡ c → a ≡ d → d ≡ 1 → c ≡ 0 → ⊥
      clash a c d e g one none = omega arith

-- a control word is none of them
pub small_on : (stream : List ℕ) (i n : ℕ) → i < 208 → AreSmall stream → AreSmall (set stream i n)
small_on stream i n low small j far = subst (λ (x : ℕ). x < 2 ^ 64) (sym (get_or-set_other stream i j n 0 (λ e. omega arith))) (small j far)

-- ---- a step on a control word

pub lift : (t : Site) (slots id i : ℕ) (m : Mine) (f : ℕ → ℕ) (then : plays.Mine → ℕ → plays.Mine → Type 0) → i < 208 → IsIdle m.0 → IsCalm m.0.view i f → Allows (LogRuled t.key) 0 id (as_view m.0) i f (λ n w. then (as_view m.0) n w) → ((s : Board) → LogMemoryRuled t s → get_elem? s.views id ≡ some m.0 → (n : ℕ) (w : plays.Mine) → then (as_view m.0) n w → IsQuiet m.0.view w.0)
    → Allows (LogMemoryRuled t) slots id m i f (λ n w. Rests then m n w)
lift t slots id i m f then low idle calm go tells s r homes at small =
    let v = m.0 in let e = r.words.controls i low in let st = stream_state r.stream s.views in
    let g = go st r.ruled refl (at_map view_in s.views id v at) (subst (λ (n : ℕ). n < 2 ^ 64) e small) in
    let none' = no_act [] [] g.1 refl refl g.2 in
    let told = subst (λ (l : List (ℕ × Unit {0})). then (as_view v) (slice_index r.stream i) (g.0, l)) none'.0 g.4 in
    let w : LogView = record v { view = g.0 } in let quiet = tells s r at (slice_index r.stream i) (g.0, []) told in
    let stream' : List ℕ = set r.stream i (f (slice_index r.stream i)) in let words' : List ℕ = set s.words i (f (slice_index s.words i)) in
    let q = g.3 in let q' : LogRuled t.key (stream_state stream' (set s.views id w)) = subst (λ (l : List View). LogRuled t.key (record { words = stream'; homes = []; views = l })) (sym (map-set view_in s.views id w)) record { cleaned = q.cleaned; there = q.there; ruled = q.ruled; kept = q.kept; sure = q.sure; numbered = q.numbered } in
    let wide_s : i < length s.words = (let a = r.words.long in omega arith) in let wide_t : i < length r.stream = (let a = r.ruled.ruled.claims.wide in omega arith) in (
      w,
      keeps,
      tt,
      rests t s r words' stream' (set s.views id w) (leaves t s r id v w at refl quiet idle refl refl words' stream' q' (small_on r.stream i (f (slice_index r.stream i)) low r.words.small) (length-set s.words i (f (slice_index s.words i)))
          (λ j lt. set_both s.words r.stream i f j wide_s wide_t e (r.words.controls j lt))
          (λ j far. get_or-set_other s.words i j (f (slice_index s.words i)) 0 (λ same. omega arith))
          (still s r id v at i f low calm wide_s)),
      record { carried = refl; part = refl; room = refl; parked = refl; told = subst (λ (n : ℕ). then (as_view v) n (g.0, [])) (sym e) told },
    )
  where
    still : (s : Board) (r : LogMemoryRuled t s) (id : ℕ) (v : LogView) → get_elem? s.views id ≡ some v → (i : ℕ) (f : ℕ → ℕ) → i < 208 → IsCalm v.view i f → i < length s.words → limit_in (slice_index (set s.words i (f (slice_index s.words i))) 0) + greatest_claim (shape t) * 8 < r.freed + 3 * term t
    still s r id v at i f low calm wide = dite (ℕ_discrete i 0)
        (λ e. ⊎_elim (λ ne. absurd (ne e)) (λ same. let set_is : slice_index (set s.words i (f (slice_index s.words i))) 0 ≡ f (slice_index s.words i) = subst (λ (z : ℕ). slice_index (set s.words i (f (slice_index s.words i))) z ≡ f (slice_index s.words i)) e (get_or-set_same s.words i (f (slice_index s.words i)) 0 wide) in
        subst (λ (n : ℕ). limit_in n + greatest_claim (shape t) * 8 < r.freed + 3 * term t) (sym set_is) (rises e same)) calm)
        (λ ne. subst (λ (n : ℕ). limit_in n + greatest_claim (shape t) * 8 < r.freed + 3 * term t) (sym (get_or-set_other s.words i 0 (f (slice_index s.words i)) 0 (λ e. ne (sym e)))) r.memory.ahead)
      where
        x : ℕ
        x = slice_index s.words i

        rises : i ≡ 0 → (((n : ℕ) → f n ≡ n) ⊎ ((v.view.pass.keeping.right ≡ 1) × ((n : ℕ) → (limit_in (f n) ≡ limit_in v.view.pass.keeping.limit) ⊎ (limit_in (f n) + greatest_claim v.view.pass.identity.geometry * 8 < v.view.pass.keeping.cleaned + 3 * term_of v.view.pass)))) → limit_in (f (slice_index s.words i)) + greatest_claim (shape t) * 8 < r.freed + 3 * term t
        rises e = ⊎_elim
            (λ same. subst (λ (n : ℕ). limit_in n + greatest_claim (shape t) * 8 < r.freed + 3 * term t) (sym (same (slice_index s.words i) ∙ ap (slice_index s.words) e)) r.memory.ahead)
            (λ a. let pass = pass_at s.views id v at in let k = (r.ruled.kept.each id v.view.pass pass).keeping in let room = r.memory.keeper id v at a.0 in
            let word : v.view.pass.keeping.limit ≡ slice_index s.words 0 = k.limit a.0 ∙ sym (r.words.controls 0 (omega arith)) in
            let identity : v.view.pass.identity ≡ t.key.identity = (r.ruled.ruled.claims.each id v.view.pass pass).identity in
            ⊎_elim
            (λ same. subst (λ (n : ℕ). n + greatest_claim (shape t) * 8 < r.freed + 3 * term t) (sym (same ∙ ap limit_in word)) r.memory.ahead)
            (λ lt. let lt' = subst (λ (y : Identity). limit_in (f (slice_index s.words i)) + greatest_claim y.geometry * 8 < v.view.pass.keeping.cleaned + 3 * y.geometry.term_length) identity lt in let c = room.cleaned in
            under (limit_in (f (slice_index s.words i)) + greatest_claim (shape t) * 8) v.view.pass.keeping.cleaned r.freed (term t) lt' c)
            (a.1 (slice_index s.words i)))
          where
            under : (x c f t : ℕ) → x < c + 3 * t → c ≤ f → x < f + 3 * t
            under x c f t lt le = omega arith

-- a pass that consumes and keeps as it did
pub quiet_same : (v w : View) → Same v.pass w.pass → w.pass.right.claims ≡ v.pass.right.claims → w.pass.work.frames ≡ v.pass.work.frames → IsQuiet v w
quiet_same v w same claims frames = record {
  claims = claims;
  frames = frames;
  readings = λ r among low. inl (r, subst (λ (rs : List Reading). Among r rs) same.reading among, low, omega arith);
  keeper = λ one. sym (ap (λ (k : Keeping). k.right) same.keeping) ∙ one;
  cleaned = ap (λ (k : Keeping). k.cleaned) same.keeping;
  seen = λ one j there. subst (λ (k : Keeping). (k.right ≡ 1) × ((i : ℕ) × IsThere k.there i × (slice_index k.positions i ≤ slice_index w.pass.keeping.positions j))) same.keeping (one, (j, there, omega arith));
}
