-- An addition to a raw tail, whatever it finds there.
use Rattle.std.proofs.Common.{◌≡◌, ℕ, ◌+◌, ◌-◌, ◌*◌, ◌/◌, ◌%◌, ◌^◌, ◌<◌, ◌≤◌, inl, List, [], ◌∷◌, length, set, length-set, get_or-set_other, sym, refl, ap, subst, lt_of_not-le, arith}
use mathlib.Core.Option.{some}
use mathlib.Core.Logic.{dite}
use native.Mathlib.Decide.{dec_le}
use lib.ListN.{get_elem?}
use Rattle.std.specs.Prelude.{slice_index}
use Rattle.std.proofs.lemmas.List.{map-set}
use Rattle.std.proofs.lemmas.Nat.{mod-mul-add}
use Rattle.atomic_table.specs.Table.{Allows, carried_after, keeps}
use Rattle.atomic_table.proofs.Lists.{at_map, set_here}
use Rattle.theory.specs.Bytes.{Identity}
use Rattle.theory.specs.Entry.{length_of}
use Rattle.theory.specs.Position.{Geometry, IsGeometry, cuts_of, framed_length, greatest_claim, max_message, span}
use Rattle.theory.specs.Refusal.{limit_in}
use Rattle.theory.specs.Words.{offset_in}
use Rattle.theory.proofs.Claims.{span_is}
use Rattle.publication.specs.declared.pass.Pass.{Pass}
use Rattle.publication.specs.Steps as steps
use Rattle.publication.specs.Steps.{addition, count_in, geometry_of, message_at, padding_at, start_in, term_of}
use Rattle.log_rule.specs.declared.claims.view.View.{View}
use Rattle.log_rule.specs.Claims.Packs.{tail_place}
use Rattle.log_rule.specs.Claims.Plays as plays
use Rattle.log_rule.specs.Claims.Rule.{entry_of, weight}
use Rattle.log_rule.specs.Shares.{claimed_bytes}
use Rattle.log_rule.specs.Table.{LogRuled}
use Rattle.log_rule.proofs.Claimed.Totals.{total_at, total_map}
use Rattle.log_rule.proofs.Shares.{claimed_low}
use Rattle.log_rule.proofs.Claimed.Eventful.{steps_are_events}
use Rattle.log_rule.proofs.Claimed.Memories.{Opens}
use Rattle.log_rule.proofs.Claimed.Sures.{add_turns}
use Rattle.log_rule.proofs.Lifting.{lifted, other_spares}
use Rattle.log_rule.proofs.Owning.{adds_goes}
use Rattle.log_memory.specs.declared.view.LogView.{LogView}
use Rattle.log_memory.specs.declared.view.Site.{Site}
use Rattle.log_memory.specs.Places.{slot_of}
use Rattle.log_memory.specs.Rule.{Board, LogMemoryRuled, passes_of, ring, shape, stream_state, term, view_in}
use Rattle.log_memory.specs.Steps.{Adds, AreApart, Carries, IsIdle, IsRoomAt, Mine, TakesRoom, any_step, as_view}
use Rattle.log_memory.proofs.Adding.{added, after, takes}
use Rattle.log_memory.proofs.Facts.{bounds, geometry, least, pass_at, width}
use Rattle.log_memory.proofs.Lifting.{leaves, no_act, quiet_same, set_both, small_on, there_low}
use Rattle.log_memory.proofs.OpenFrames.{apart}
use Rattle.log_memory.proofs.Places.{in_ring}
use Rattle.log_memory.proofs.Resting.{rests}
use Rattle.log_memory.proofs.Rows.{TakesRow}
use Rattle.theory.proofs.Cuts.{long_cuts}
use Rattle.theory.proofs.Places.{power_unit}

-- a position by its term, and a range that ends in it
row_of : (n t p q m : ℕ) → n * 32 ≡ 3 * t → 65536 ≤ t → p ≡ q * t + p % t → p % t + m ≤ t → p % (n * 32) + m ≤ n * 32
row_of n t p q m wide least is low = subst (λ (x : ℕ). p % x + m ≤ x) (sym wide) (in_ring t p m (omega arith) low)

place_in : (t k o : ℕ) → o < t → (k * t + o) % t ≡ o
place_in t k o lt = mod-mul-add k t o lt

rest_span : (n : ℕ) → n % 32 ≡ 0 → span (n ∷ []) ≡ n
rest_span n e = omega arith

module _ (t : Site) (id size : ℕ) (m : Mine) (idle : IsIdle m.0) (able : 120 ≤ m.0.view.pass.right.parts) (armed : m.0.view.pass.right.armed ≡ 1) (short : size ≤ max_message (geometry_of m.0.view.pass)) where
  abbrev v : Pass
  v = m.0.view.pass

  abbrev g : Geometry
  g = geometry_of m.0.view.pass

  abbrev i : ℕ
  i = tail_place m.0.view.pass.seen.term

  abbrev f : ℕ → ℕ
  f n = (n + framed_length (geometry_of m.0.view.pass) size) % 2 ^ 64

  abbrev told : plays.Mine → ℕ → plays.Mine → Type 0
  told = plays.playing (λ v k w. steps.Adds v size k w) (λ v k. addition v size k ∷ []) any_step

  of_stream : Allows (LogRuled t.key) 0 id (as_view m.0) i f (λ n w. told (as_view m.0) n w)
  of_stream = lifted t.key 0 id i (as_view m.0) f (λ n w. steps.Adds v size n w) (λ n. addition v size n ∷ []) (add_turns v.seen.term (framed_length g size)) (inl (let q : 0 < v.right.parts = omega arith in q))
      (other_spares i f (λ e. omega arith) (λ j lt e. omega arith)) (λ n w t. adds_goes v armed size n w t) (λ b. steps_are_events.add b id v size able armed short)

  module _ (s : Board) (r : LogMemoryRuled t s) (at : get_elem? s.views id ≡ some m.0) (small : slice_index s.words i < 2 ^ 64) where
    abbrev words : List ℕ
    words = set s.words i (f (slice_index s.words i))

    abbrev stream : List ℕ
    stream = set r.stream i (f (slice_index r.stream i))

    place_low : i < 208
    place_low = omega arith

    same_word : slice_index s.words i ≡ slice_index r.stream i
    same_word = r.words.controls i (omega arith)

    wide_s : i < length s.words
    wide_s = let a = r.words.long in omega arith

    wide_t : i < length r.stream
    wide_t = let a = r.ruled.ruled.claims.wide in omega arith

    controls : (j : ℕ) → j < 208 → slice_index words j ≡ slice_index stream j
    controls j lt = set_both s.words r.stream i f j wide_s wide_t same_word (r.words.controls j lt)

    heads : (j : ℕ) → 208 ≤ j → slice_index words j ≡ slice_index s.words j
    heads j far = get_or-set_other s.words i j (f (slice_index s.words i)) 0 (λ same. omega arith)

    spared : slice_index words 0 ≡ slice_index s.words 0
    spared = get_or-set_other s.words i 0 (f (slice_index s.words i)) 0 (λ same. omega arith)

    identity_is : m.0.view.pass.identity ≡ t.key.identity
    identity_is = (r.ruled.ruled.claims.each id m.0.view.pass (pass_at s.views id m.0 at)).identity

    term_is : term_of m.0.view.pass ≡ term t
    term_is = ap (λ (x : Identity). x.geometry.term_length) identity_is

    legal : IsGeometry (geometry_of m.0.view.pass)
    legal = subst (λ (x : Identity). IsGeometry x.geometry) (sym identity_is) (geometry t r.stream s.views r.ruled)

    -- what the step makes of the table, where it takes a range
    module _ (w : View) (q : LogRuled t.key (stream_state stream (set s.views id (record m.0 { view = w })))) (o : Opens m.0.view.pass w.pass) (keeping : w.pass.keeping ≡ m.0.view.pass.keeping) (row : o.claim.start % (ring t * 32) + span o.claim.cuts ≤ ring t * 32) where
      abbrev seat : LogView
      seat = record m.0 { view = w }

      abbrev row_taken : TakesRow s.homes (IsRoomAt t) (slot_of (ring t) o.claim.start 0) (span o.claim.cuts / 4) m.1
      row_taken = takes t s r id m.0 (record m.0 { view = w }) at stream q o words (small_on r.stream i (f (slice_index r.stream i)) place_low r.words.small) spared controls heads (length-set s.words i (f (slice_index s.words i))) row idle refl refl refl keeping m.1

      row_added : LogMemoryRuled t (after t s r id m.0 (record m.0 { view = w }) at stream q o words (small_on r.stream i (f (slice_index r.stream i)) place_low r.words.small) spared controls heads (length-set s.words i (f (slice_index s.words i))) row idle refl refl refl keeping m.1)
      row_added = added t s r id m.0 (record m.0 { view = w }) at stream q o words (small_on r.stream i (f (slice_index r.stream i)) place_low r.words.small) spared controls heads (length-set s.words i (f (slice_index s.words i))) row idle refl refl refl keeping m.1

    row_in : (n x : ℕ) → offset_in n < term_of m.0.view.pass → offset_in n + x ≤ term_of m.0.view.pass → start_in (geometry_of m.0.view.pass) n % (ring t * 32) + x ≤ ring t * 32
    row_in n x lt fits =
        let rest : start_in (geometry_of m.0.view.pass) n % term_of m.0.view.pass ≡ offset_in n = place_in (term_of m.0.view.pass) (count_in (geometry_of m.0.view.pass) n) (offset_in n) lt in
        let low : start_in (geometry_of m.0.view.pass) n % term t + x ≤ term t = subst (λ (y : ℕ). start_in (geometry_of m.0.view.pass) n % y + x ≤ y) term_is (subst (λ (y : ℕ). y + x ≤ term_of m.0.view.pass) (sym rest) fits) in
        subst (λ (y : ℕ). start_in (geometry_of m.0.view.pass) n % y + x ≤ y) (sym (width t r.stream s.views r.ruled)) (in_ring (term t) (start_in (geometry_of m.0.view.pass) n) x (let l = least t r.stream s.views r.ruled in omega arith) low)

-- what a pass has claimed can be counted
low_share : (t : Site) (id : ℕ) (v w : LogView) (s : Board) → get_elem? s.views id ≡ some v → (stream : List ℕ) → LogRuled t.key (stream_state stream (set s.views id w)) → claimed_bytes w.view.pass < 2 ^ 63
low_share t id v w s at stream q =
    let passes = passes_of (set s.views id w) in let here = pass_at (set s.views id w) id w (set_here s.views id w (there_low s.views id v at)) in
    let low = claimed_low (bounds t stream (set s.views id w) q) stream passes q.ruled in let mine = total_at (weight length_of) passes id w.view.pass here in let is : weight length_of w.view.pass ≡ claimed_bytes w.view.pass = total_map length_of entry_of w.view.pass.right.claims in omega arith

apart_then : (t : Site) (id : ℕ) (v w : LogView) (s : Board) → get_elem? s.views id ≡ some v → (stream : List ℕ) → LogRuled t.key (stream_state stream (set s.views id w)) → AreApart w.view.pass.work.drafts
apart_then t id v w s at stream q = apart (bounds t stream (set s.views id w) q) stream (passes_of (set s.views id w)) q.ruled id w.view.pass (pass_at (set s.views id w) id w (set_here s.views id w (there_low s.views id v at)))

pub add : (t : Site) (id size : ℕ) (m : Mine) → IsIdle m.0 → 120 ≤ m.0.view.pass.right.parts → m.0.view.pass.right.armed ≡ 1 → size ≤ max_message (geometry_of m.0.view.pass)
    → (slots : ℕ) → Allows (LogMemoryRuled t) slots id m (tail_place m.0.view.pass.seen.term) (λ n. (n + framed_length (geometry_of m.0.view.pass) size) % 2 ^ 64) (Adds t size m)
add t id size m idle able armed short slots s r homes at small =
    let v = m.0.view.pass in let gm = geometry_of v in let i : ℕ = tail_place v.seen.term in let f : ℕ → ℕ = λ n. (n + framed_length gm size) % 2 ^ 64 in
    let e = same_word t id size m idle able armed short s r at small in let n : ℕ = slice_index r.stream i in
    let g = of_stream t id size m idle able armed short (stream_state r.stream s.views) r.ruled refl (at_map view_in s.views id m.0 at) (subst (λ (x : ℕ). x < 2 ^ 64) e small) in
    let none' = no_act [] [] g.1 refl refl g.2 in
    let told = subst (λ (l : List (ℕ × Unit {0})). plays.playing (λ v k w. steps.Adds v size k w) (λ v k. addition v size k ∷ []) any_step (as_view m.0) n (g.0, l)) none'.0 g.4 in
    let w : View = g.0 in let seat : LogView = record m.0 { view = w } in let a = told.4 in let q0 = g.3 in
    let q : LogRuled t.key (stream_state (set r.stream i (f n)) (set s.views id seat)) = subst (λ (l : List View). LogRuled t.key (record { words = set r.stream i (f n); homes = []; views = l })) (sym (map-set view_in s.views id seat)) record { cleaned = q0.cleaned; there = q0.there; ruled = q0.ruled; kept = q0.kept; sure = q0.sure; numbered = q0.numbered } in
    let told' = subst (λ (x : ℕ). plays.playing (λ v k w. steps.Adds v size k w) (λ v k. addition v size k ∷ []) any_step (as_view m.0) x (w, [])) (sym e) told in
    let legal' = legal t id size m idle able armed short s r at small in
    let covered : span (cuts_of gm size) ≡ framed_length gm size = span_is gm legal'.mtu.unit legal'.mtu.least size in
    let keeping = told.2.keeping in let low = low_share t id m.0 seat s at (set r.stream i (f n)) q in let apart' = apart_then t id m.0 seat s at (set r.stream i (f n)) q in
    dite (dec_le (term_of v) (offset_in n))
    (λ (over : term_of v ≤ offset_in n). let is = a.over over in (
      seat,
      keeps,
      tt,
      rests t s r (set s.words i (f (slice_index s.words i))) (set r.stream i (f n)) (set s.views id seat)
          (leaves t s r id m.0 seat at refl (quiet_same m.0.view w told.2 (ap (λ (x : Pass). x.right.claims) is) (ap (λ (x : Pass). x.work.frames) is)) idle refl refl (set s.words i (f (slice_index s.words i))) (set r.stream i (f n)) q (small_on r.stream i (f n) (omega arith) r.words.small) (length-set s.words i (f (slice_index s.words i)))
          (controls t id size m idle able armed short s r at small) (heads t id size m idle able armed short s r at small)
          (subst (λ (x : ℕ). limit_in x + greatest_claim (shape t) * 8 < r.freed + 3 * term t) (sym (spared t id size m idle able armed short s r at small)) r.memory.ahead)),
      record {
        part = refl;
        room = refl;
        parked = refl;
        told = told';
        low = low;
        apart = apart';
        takes = subst (λ (x : ℕ). TakesRoom t size x m (seat, m.1)) (sym e) record { fits = λ lt. absurd (long_fits v n over lt covered legal'); trips = λ lt _. absurd (omega arith); over = λ _. refl };
      },
    ))
    (λ not_over. let lt : offset_in n < term_of v = lt_of_not-le not_over in dite (dec_le (offset_in n + framed_length gm size) (term_of v))
    (λ (fits : offset_in n + framed_length gm size ≤ term_of v). let is = a.fits fits in
    let o : Opens v w.pass = record { claim = message_at v n size; number = ap (λ y. y.number) is; parts = ap (λ y. y.right.parts) is; numbers = ap (λ y. y.right.numbers) is; claims = ap (λ y. y.right.claims) is; frames = ap (λ y. y.work.frames) is; drafts = ap (λ y. y.work.drafts) is; reading = ap (λ y. y.reading) is; keeping = ap (λ y. y.keeping) is } in
    let row = subst (λ (x : ℕ). start_in gm n % (ring t * 32) + x ≤ ring t * 32) (sym covered) (row_in t id size m idle able armed short s r at small n (framed_length gm size) lt fits) in
    let tk = row_taken t id size m idle able armed short s r at small w q o keeping row in (
      seat,
      tk.act,
      tk.valid,
      row_added t id size m idle able armed short s r at small w q o keeping row,
      record {
        part = refl;
        room = refl;
        parked = refl;
        told = told';
        low = low;
        apart = apart';
        takes = subst (λ (x : ℕ). TakesRoom t size x m (seat, carried_after m.1 tk.act)) (sym e) record {
          fits = λ _. subst (λ (x : ℕ). Carries (IsRoomAt t) (slot_of (ring t) (start_in gm n) 0) (x / 4) m.1 (carried_after m.1 tk.act)) covered tk.taken;
          trips = λ _ q. absurd (omega arith);
          over = λ q. absurd (omega arith);
        };
      },
    ))
    (λ no. let past : term_of v < offset_in n + framed_length gm size = lt_of_not-le no in let is = a.trips lt past in
    let o : Opens v w.pass = record { claim = padding_at v n; number = ap (λ y. y.number) is; parts = ap (λ y. y.right.parts) is; numbers = ap (λ y. y.right.numbers) is; claims = ap (λ y. y.right.claims) is; frames = ap (λ y. y.work.frames) is; drafts = ap (λ y. y.work.drafts) is; reading = ap (λ y. y.reading) is; keeping = ap (λ y. y.keeping) is } in
    let rest : ℕ = term_of v - offset_in n in let covered' : span (rest ∷ []) ≡ rest = rest_span rest (rest_unit (term_of v) (offset_in n) a.unit (power_unit (term_of v) legal'.term.power legal'.term.least)) in
    let row = subst (λ (x : ℕ). start_in gm n % (ring t * 32) + x ≤ ring t * 32) (sym covered') (row_in t id size m idle able armed short s r at small n rest lt (omega arith)) in
    let tk = row_taken t id size m idle able armed short s r at small w q o keeping row in (
      seat,
      tk.act,
      tk.valid,
      row_added t id size m idle able armed short s r at small w q o keeping row,
      record {
        part = refl;
        room = refl;
        parked = refl;
        told = told';
        low = low;
        apart = apart';
        takes = subst (λ (x : ℕ). TakesRoom t size x m (seat, carried_after m.1 tk.act)) (sym e) record {
          fits = λ q. absurd (omega arith);
          trips = λ _ _. subst (λ (x : ℕ). Carries (IsRoomAt t) (slot_of (ring t) (start_in gm n) 0) (x / 4) m.1 (carried_after m.1 tk.act)) covered' tk.taken;
          over = λ q. absurd (omega arith);
        };
      },
    )))
  where
    rest_unit : (t o : ℕ) → o % 32 ≡ 0 → t % 32 ≡ 0 → (t - o) % 32 ≡ 0
    rest_unit t o a c = omega arith

    long_fits : (v : Pass) (n : ℕ) → term_of v ≤ offset_in n → offset_in n + framed_length (geometry_of v) size ≤ term_of v → span (cuts_of (geometry_of v) size) ≡ framed_length (geometry_of v) size → IsGeometry (geometry_of v) → ⊥
    long_fits v n over fits covered is = let pos = long_cuts (geometry_of v) size (let q = is.mtu.least in omega arith) in clash (term_of v) (offset_in n) (framed_length (geometry_of v) size) (span (cuts_of (geometry_of v) size)) over fits covered pos
      where
        clash : (t o f p : ℕ) → t ≤ o → o + f ≤ t → p ≡ f → 0 < p → ⊥
        clash t o f p a c e pos = omega arith
