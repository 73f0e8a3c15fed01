-- The loads of a reader, and the store of its position.
use Rattle.std.proofs.Common.{◌≡◌, ℕ, zero, suc, ◌+◌, ◌*◌, ◌^◌, ◌<◌, ◌≤◌, ◌⊎◌, inl, inr, ⊎_elim, List, [], ◌∷◌, ◌++◌, length, map, set, sym, refl, ap, ◌∙◌, subst, lt_of_not-le, arith, drop}
use mathlib.Core.Option.{some, some-injective}
use mathlib.Core.Logic.{dite}
use native.Mathlib.Decide.{dec_le}
use lib.ListN.{get_elem?}
use Rattle.std.specs.Prelude.{slice_index}
use Rattle.std.proofs.lemmas.List.{map-set, set-get_or}
use Rattle.atomic_table.specs.Table.{Allows, gives, keeps, put_back, rest, takes}
use Rattle.atomic_table.proofs.Lists.{at_map, set_here}
use Rattle.theory.specs.Placed.{Among}
use Rattle.theory.proofs.Lists.{all_at, all_behind}
use Rattle.publication.specs.declared.pass.FrameWords.{FrameWords}
use Rattle.publication.specs.declared.pass.Pass.{Pass}
use Rattle.publication.specs.declared.pass.Reading.{Reading}
use Rattle.region.specs.declared.access.Access.{Access}
use Rattle.log_rule.specs.declared.claims.view.View.{View}
use Rattle.log_rule.specs.Claims.Packs.{consumer_place, slot}
use Rattle.log_rule.specs.Edges.{IsAmong, IsPlaced}
use Rattle.log_rule.specs.Kept.{IsReader, IsThere}
use Rattle.log_rule.specs.Readings as readings
use Rattle.log_rule.specs.Readings.{Consumes, Has, IsConsumer, IsFrameAt, MayPass, end_of, knows_more, missed, moved_to, reading, with_consumer}
use Rattle.log_rule.specs.Table.{LogRuled}
use Rattle.log_rule.proofs.Consumers as consumers
use Rattle.log_rule.proofs.Known.{among_at, finds, word_there}
use Rattle.log_memory.specs.declared.view.LogView.{LogView}
use Rattle.log_memory.specs.declared.view.Site.{Site}
use Rattle.log_memory.specs.Places.{head_place, slot_of}
use Rattle.log_memory.specs.Rule.{Board, LogMemoryRuled, passes_of, ring, shape, stream_state, tail_in, term, view_in}
use Rattle.log_memory.specs.Steps.{Gives, IsIdle, IsQuiet, Looks, MayGive, MayReread, Mine, Rereads, Rests, TakesPart, as_view}
use Rattle.log_memory.proofs.Committing.{quiet_step, stepped}
use Rattle.log_memory.proofs.Facts.{bounds, done, long, mine, one, pass_at, tail_near, unit}
use Rattle.log_memory.proofs.Lifting.{leaves, lift, no_act, quiet_look, there_low}
use Rattle.log_memory.proofs.Reading.{given, home, seat, taken, takes_it}
use Rattle.log_memory.proofs.Resting.{rests, same_frames}
use Rattle.log_rule.proofs.Edges.{edge_low}
use Rattle.theory.specs.Position.{greatest_claim}
use Rattle.theory.specs.Refusal.{limit_in}
use Rattle.log_rule.proofs.InTerm.{frame_at}
use Rattle.theory.specs.Bytes.{Identity}

among_put : {A : Type 0} (xs : List A) (i : ℕ) (x y : A) → Among y (set xs i x) → (y ≡ x) ⊎ Among y xs
among_put [] i x y a = inr a
among_put (z ∷ zs) zero x y (inl e) = inl e
among_put (z ∷ zs) zero x y (inr a) = inr (inr a)
among_put (z ∷ zs) (suc i) x y (inl e) = inr (inl e)
among_put (z ∷ zs) (suc i) x y (inr a) = ⊎_elim (λ e. inl e) (λ m. inr (inr m)) (among_put zs i x y a)

among_here : {A : Type 0} (xs : List A) (i : ℕ) (x : A) → i < length xs → Among x (set xs i x)
among_here [] i x lt = absurd (omega arith)
among_here (y ∷ ys) zero x lt = inl refl
among_here (y ∷ ys) (suc i) x lt = inr (among_here ys i x (omega arith))

-- one of the pass's consumers knows more, or stands further on
quiet_consumer : (v w : View) (place : ℕ) (r x : Reading) → IsConsumer v.pass place r → x.number ≡ r.number → r.position ≤ x.position → w.pass ≡ with_consumer v.pass place x → IsQuiet v w
quiet_consumer v w place r x is number further e = record {
  claims = ap (λ (p : Pass). p.right.claims) e;
  frames = ap (λ (p : Pass). p.work.frames) e;
  readings = λ y among low. ⊎_elim
      (λ same. inl (r, among_at v.pass.reading place r is, subst (λ (n : ℕ). n < 8) (ap (λ (z : Reading). z.number) same ∙ number) low, subst (λ (z : Reading). r.position ≤ z.position) (sym same) further))
      (λ old. inl (y, old, low, omega arith))
      (among_put v.pass.reading place x y (subst (λ (p : Pass). Among y p.reading) e among));
  keeper = λ one. ap (λ (p : Pass). p.keeping.right) (sym e) ∙ one;
  cleaned = ap (λ (p : Pass). p.keeping.cleaned) e;
  seen = λ one j there. subst (λ (p : Pass). (v.pass.keeping.right ≡ 1) × ((k : ℕ) × IsThere v.pass.keeping.there k × (slice_index v.pass.keeping.positions k ≤ slice_index p.keeping.positions j))) (sym e) (ap (λ (p : Pass). p.keeping.right) (sym e) ∙ one, (j, subst (λ (p : Pass). IsThere p.keeping.there j) e there, omega arith));
}

module _ (t : Site) (id place : ℕ) (r : Reading) (m : Mine) (is : IsConsumer m.0.view.pass place r) (low : r.number < 8) (s : Board) (k : LogMemoryRuled t s) (at : get_elem? s.views id ≡ some m.0) where
  at_view : get_elem? (map view_in s.views) id ≡ some m.0.view
  at_view = at_map view_in s.views id m.0 at

  placed : IsPlaced (bounds t k.stream s.views k.ruled) (passes_of s.views) r.position
  placed = consumers.stands t.key 0 id (as_view m.0) place r is (stream_state k.stream s.views) k.ruled at_view low

  gone_low : k.freed + k.out ≤ r.position
  gone_low = (k.memory.readers id m.0 r at (among_at m.0.view.pass.reading place r is) low).passed

  -- the unit's word is the stream's
  head_is : slice_index s.words (head_place (ring t) r.position) ≡ slice_index k.stream (slot t.key.identity.geometry r.position)
  head_is =
      let bs = bounds t k.stream s.views k.ruled in let ps = passes_of s.views in let n : ℕ = slice_index k.stream (slot t.key.identity.geometry r.position) in let g = gone_low in
      dite (dec_le 1 n)
      (λ pos. let f = finds bs k.stream ps k.ruled.ruled k.ruled.kept.ahead r.position placed pos in
      subst (λ (x : ℕ). slice_index s.words (head_place (ring t) x) ≡ n) f.at (k.words.heads f.frame_there f.among (let e = f.at in omega arith) ∙ f.word))
      (λ no. let none' : n ≡ 0 = zero_is n (lt_of_not-le no) in k.words.rest r.position placed.unit (omega arith)
      (let e = consumers_low in let near = tail_near t s k in omega arith)
      (λ f among here. clash n (slice_index f.words 0) none' (word_there bs k.stream ps k.ruled.ruled r.position placed f among here (long t k.stream s.views k.ruled f among)) (done t k.stream s.views k.ruled f among).first) ∙ sym none')
    where
      zero_is : (n : ℕ) → n < 1 → n ≡ 0
      zero_is n lt = omega arith

      clash : (n w : ℕ) → n ≡ 0 → n ≡ w → 0 < w → ⊥
      clash n w z e pos = omega arith

      consumers_low : r.position ≤ tail_in t.key (passes_of s.views)
      consumers_low = edge_low (bounds t k.stream s.views k.ruled) k.stream (passes_of s.views) k.ruled.ruled r.position placed.edge

  ruled_on : (i : ℕ) (w : View) (homes : _) → LogRuled t.key (record { words = set k.stream i (slice_index k.stream i); homes = homes; views = set (map view_in s.views) id w }) → (x : LogView) → x.view ≡ w → LogRuled t.key (stream_state k.stream (set s.views id x))
  ruled_on i w homes q x e = subst (λ (y : List ℕ × List View). LogRuled t.key (record { words = y.0; homes = []; views = y.1 })) (λ j. (set-get_or k.stream i 0 j, (ap (set (map view_in s.views) id) (sym e) ∙ sym (map-set view_in s.views id x)) j)) record { cleaned = q.cleaned; there = q.there; ruled = q.ruled; kept = q.kept; sure = q.sure; numbered = q.numbered }

pub look : (t : Site) (id place : ℕ) (r : Reading) (m : Mine) (is : IsConsumer m.0.view.pass place r) → r.number < 8 → IsIdle m.0 → (slots : ℕ) → Allows (LogMemoryRuled t) slots id m (head_place (ring t) r.position) (λ n. n) (λ n w. Looks t place r m is n w)
look t id place r m is low idle slots s k homes at small =
    let v = m.0 in let i : ℕ = slot t.key.identity.geometry r.position in let h : ℕ = head_place (ring t) r.position in let n : ℕ = slice_index k.stream i in
    let e : slice_index s.words h ≡ n = head_is t id place r m is low s k at in
    let g = consumers.look t.key 0 id (as_view v) place r is low (stream_state k.stream s.views) k.ruled refl (at_view t id place r m is low s k at) (subst (λ (x : ℕ). x < 2 ^ 64) e small) in
    let none' = no_act [] [] g.1 refl refl g.2 in let told = subst (λ (l : List (ℕ × Unit {0})). reading (λ v k w. readings.Looks v place k w) (as_view v) n (g.0, l)) none'.0 g.4 in
    let w = g.0 in let same : set s.words h (slice_index s.words h) ≡ s.words = set-get_or s.words h 0 in let here = told.3 r is in
    let told' = subst (λ (x : ℕ). reading (λ v k w. readings.Looks v place k w) (as_view v) x (w, [])) (sym e) told in
    dite (dec_le 1 n)
    (λ pos. let f = here.found pos in let x = knows_more r f.frame in let quiet = quiet_consumer v.view w place r x is refl (omega arith) f.after in
    let q = ruled_on t id place r m is low s k at i w _ g.3 (record v { view = w }) refl in
    let look' = quiet_look s.views id v (record v { view = w }) at quiet in
    let there = set_here s.views id (record v { view = w }) (there_low s.views id v at) in
    let known = (consumers.all_place (IsReader k.stream (passes_of (set s.views id (record v { view = w })))) w.pass.reading place x (subst (λ (p : Pass). get_elem? p.reading place ≡ some x) (sym f.after) (set_here v.view.pass.reading place x (there_low v.view.pass.reading place r is))) (q.kept.each id w.pass (pass_at (set s.views id (record v { view = w })) id (record v { view = w }) there)).readings).known in
    let among : IsAmong (passes_of s.views) f.frame = (same_frames (passes_of s.views) (passes_of (set s.views id (record v { view = w }))) look'.committed).back f.frame (all_behind (IsAmong (passes_of (set s.views id (record v { view = w })))) r.known (f.frame ∷ []) known).0 in
    let from : k.freed + k.out ≤ f.frame.start = (let a = gone_low t id place r m is low s k at in let at' = f.here.at in omega arith) in
    let mine' = subst (λ (p : Pass). Among x p.reading) (sym f.after) (among_here v.view.pass.reading place x (there_low v.view.pass.reading place r is)) in
    let near : r.position ≤ f.frame.start + term t = (let at' = f.here.at in omega arith) in
    let taken' = taken t s k f.frame among from id v at idle r.number low w quiet r (among_at v.view.pass.reading place r is) refl x mine' refl near (set s.words h (slice_index s.words h)) same in
    let home' = home t s k f.frame among from id v at idle r.number low w quiet r (among_at v.view.pass.reading place r is) refl x mine' refl near (set s.words h (slice_index s.words h)) same in
    let seat' = seat t s k f.frame among from id v at idle r.number low w quiet r (among_at v.view.pass.reading place r is) refl x mine' refl near (set s.words h (slice_index s.words h)) same in
    let its = takes_it t s k f.frame among from id v at idle r.number low w quiet r (among_at v.view.pass.reading place r is) refl x mine' refl near (set s.words h (slice_index s.words h)) same m.1 in (
      seat',
      takes (slot_of (ring t) f.frame.start r.number) home'.access,
      home'.there,
      taken' (ruled_on t id place r m is low s k at i w _ g.3 seat' refl),
      record {
        room = refl;
        parked = refl;
        told = told';
        none = λ z. absurd (clash n (slice_index s.words h) pos e z);
        found = λ pos'. subst (λ (y : FrameWords). TakesPart t r.number y m (seat', (slot_of (ring t) f.frame.start r.number, home'.access) ∷ m.1)) (found_same v place r w is n (slice_index s.words h) e told' told pos pos') its;
      },
    ))
    (λ no. let zero' : n ≡ 0 = zero_is n (lt_of_not-le no) in let f = here.none zero' in let quiet = quiet_consumer v.view w place r (missed r) is refl (omega arith) f.0 in (
      record v { view = w },
      keeps,
      tt,
      rests t s k (set s.words h (slice_index s.words h)) k.stream (set s.views id (record v { view = w }))
          (leaves t s k id v (record v { view = w }) at refl quiet idle refl refl (set s.words h (slice_index s.words h)) k.stream (ruled_on t id place r m is low s k at i w _ g.3 (record v { view = w }) refl) k.words.small (ap length same)
          (λ j lt. ap (λ (l : List ℕ). slice_index l j) same ∙ k.words.controls j lt) (λ j lt. ap (λ (l : List ℕ). slice_index l j) same)
          (subst (λ (l : List ℕ). limit_in (slice_index l 0) + greatest_claim (shape t) * 8 < k.freed + 3 * term t) (sym same) k.memory.ahead)),
      record { room = refl; parked = refl; told = told'; none = λ _. (refl, refl); found = λ pos. absurd (clash' n (slice_index s.words h) zero' e pos) },
    ))
  where
    zero_is : (n : ℕ) → n < 1 → n ≡ 0
    zero_is n lt = omega arith

    clash : (n h : ℕ) → 1 ≤ n → h ≡ n → h ≡ 0 → ⊥
    clash n h pos e z = omega arith

    clash' : (n h : ℕ) → n ≡ 0 → h ≡ n → 0 < h → ⊥
    clash' n h z e pos = omega arith

    -- what was found by one name of the word is found by the other
    found_same : (v : LogView) (place : ℕ) (r : Reading) (w : View) (is : IsConsumer v.view.pass place r) (n h : ℕ) → h ≡ n → (told' : reading (λ v k w. readings.Looks v place k w) (as_view v) h (w, [])) (told : reading (λ v k w. readings.Looks v place k w) (as_view v) n (w, [])) (pos : 1 ≤ n) (pos' : 0 < h)
        → ((told.3 r is).found pos).frame ≡ ((told'.3 r is).found pos').frame
    found_same v place r w is n h e told' told pos pos' = let a = (told.3 r is).found pos in let c = (told'.3 r is).found pos' in last_same r.known a.frame c.frame (knew v.view.pass w.pass place r a.frame c.frame is a.after c.after)
      where
        knew : (v w : Pass) (place : ℕ) (r : Reading) (f g : FrameWords) → IsConsumer v place r → w ≡ with_consumer v place (knows_more r f) → w ≡ with_consumer v place (knows_more r g) → r.known ++ f ∷ [] ≡ r.known ++ g ∷ []
        knew v w place r f g is a c = let lt = there_low v.reading place r is in ap (λ (x : Reading). x.known) (some-injective (knows_more r f) (knows_more r g) (sym (set_here v.reading place (knows_more r f) lt) ∙ ap (λ (p : Pass). get_elem? p.reading place) (sym a ∙ c) ∙ set_here v.reading place (knows_more r g) lt))

        last_same : (l : List FrameWords) (f g : FrameWords) → l ++ f ∷ [] ≡ l ++ g ∷ [] → f ≡ g
        last_same [] f g e = ap (λ (l : List FrameWords). first f l) e
          where
            first : FrameWords → List FrameWords → FrameWords
            first d [] = d
            first d (x ∷ xs) = x
        last_same (x ∷ xs) f g e = last_same xs f g (ap behind e)
          where
            behind : List FrameWords → List FrameWords
            behind [] = []
            behind (y ∷ ys) = ys

-- ---- a frame that the consumer has is read again

pub reread : (t : Site) (id place : ℕ) (r : Reading) (f : FrameWords) (m : Mine) → MayReread place r f m.0.view.pass → IsIdle m.0 → (slots : ℕ) → Allows (LogMemoryRuled t) slots id m (head_place (ring t) f.start) (λ n. n) (λ n w. Rereads t r f m n w)
reread t id place r f m may idle slots s k homes at small =
    let v = m.0 in let h : ℕ = head_place (ring t) f.start in let same : set s.words h (slice_index s.words h) ≡ s.words = set-get_or s.words h 0 in
    let among : IsAmong (passes_of s.views) f = consumers.had t.key 0 id (as_view v) place r may.is (stream_state k.stream s.views) k.ruled (at_map view_in s.views id v at) f may.has in
    let its : Among r v.view.pass.reading = among_at v.view.pass.reading place r may.is in let shape = (k.ruled.ruled.claims.each id v.view.pass (pass_at s.views id v at)).identity in
    let near : r.position ≤ f.start + term t = subst (λ (x : _). r.position ≤ f.start + x.geometry.term_length) shape may.near in
    let from = (k.memory.readers id v r at its may.low).back f among near in let w : View = record v.view { steps = suc v.view.steps } in let quiet = quiet_step v.view (suc v.view.steps) in
    let seat' = seat t s k f among from id v at idle r.number may.low w quiet r its refl r its refl near (set s.words h (slice_index s.words h)) same in
    let home' = home t s k f among from id v at idle r.number may.low w quiet r its refl r its refl near (set s.words h (slice_index s.words h)) same in (
      seat',
      takes (slot_of (ring t) f.start r.number) home'.access,
      home'.there,
      taken t s k f among from id v at idle r.number may.low w quiet r its refl r its refl near (set s.words h (slice_index s.words h)) same (stepped t s k id v seat' at refl),
      record {
        room = refl;
        parked = refl;
        rests = (refl, refl, record { sure = refl; leads = λ one. refl }, refl);
        word = k.words.heads f among (omega arith);
        here = subst (λ (x : Identity). IsFrameAt x f.start f) (sym shape) (frame_at (bounds t k.stream s.views k.ruled) k.stream (passes_of s.views) k.ruled.ruled f.start (unit t k.stream s.views k.ruled f among) f among refl);
        only = λ g has at_g. one t k.stream s.views k.ruled g f (consumers.had t.key 0 id (as_view v) place r may.is (stream_state k.stream s.views) k.ruled (at_map view_in s.views id v at) g has) among at_g;
        takes = takes_it t s k f among from id v at idle r.number may.low w quiet r its refl r its refl near (set s.words h (slice_index s.words h)) same m.1;
      },
    )

-- ---- its part goes back

pub give : (t : Site) (id i : ℕ) (r : Reading) (f : FrameWords) (m : Mine) → MayGive t r f m → (slots : ℕ) → Allows (LogMemoryRuled t) slots id m i (λ n. n) (λ _ w. Gives m w)
give t id i r f m may slots s k homes at small =
    let v = m.0 in let same : set s.words i (slice_index s.words i) ≡ s.words = set-get_or s.words i 0 in let ps = passes_of s.views in
    let among : IsAmong ps f = ⊎_elim
    (λ known. all_at (IsAmong ps) f r.known (all_at (IsReader k.stream ps) r v.view.pass.reading (k.ruled.kept.each id v.view.pass (pass_at s.views id v at)).readings may.mine).known known)
    (λ own. mine t k.stream s.views k.ruled id v f at own)
    may.knows in
    let h = k.memory.held id v at may.has in
    let from = (k.memory.readers id v h.reading at h.mine h.low).back f among (let a = h.near in let e = may.here in omega arith) in
    let after = given t s k f among from id v at may.has r.number may.low may.number may.here may.access may.is (set s.words i (slice_index s.words i)) same in (
      record v { view = record v.view { steps = suc v.view.steps }; part = record v.part { has = 0 } },
      gives,
      tt,
      subst (λ (c : List (ℕ × Access)). LogMemoryRuled t (record { words = set s.words i (slice_index s.words i); homes = put_back s.homes c; views = set s.views id (record v { view = record v.view { steps = suc v.view.steps }; part = record v.part { has = 0 } }) })) (sym may.carries) after,
      record { room = refl; parked = refl; part = refl; rests = refl; carried = ap rest may.carries ∙ sym (ap (drop 1) may.carries ∙ none_dropped may.before) },
    )
  where
    none_dropped : (l : List (ℕ × Access)) → drop 0 l ≡ l
    none_dropped [] = refl
    none_dropped (x ∷ xs) = refl

-- ---- a consumer's position is stored

pub consume : (t : Site) (id place : ℕ) (r : Reading) (end : ℕ) (m : Mine) → IsConsumer m.0.view.pass place r → MayPass m.0.view.pass place end → r.number < 8 → IsIdle m.0 → (slots : ℕ) → Allows (LogMemoryRuled t) slots id m (consumer_place r.number) (λ _. end) (λ n w. Rests (λ a _ c. reading (λ v k w. Consumes v place end w) a 0 c) m n w)
consume t id place r end m is may low idle slots = lift t slots id (consumer_place r.number) m (λ _. end) (λ a _ c. reading (λ v k w. Consumes v place end w) a 0 c) (omega arith) idle (inl (λ e. omega arith))
    (consumers.pass t.key 0 id (as_view m.0) place r is end may low)
    (λ s k at n w told. quiet_consumer m.0.view w.0 place r (moved_to r end) is refl (let e : may.consumer ≡ r = some-injective may.consumer r (sym may.is ∙ is) in let a = ap (λ (x : Reading). x.position) e in let b = may.here in let c = may.ends in omega arith) (told.3 r is).after)
