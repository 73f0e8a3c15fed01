-- Steps on an image's words are events of the model.
use Rattle.std.proofs.Common.{◌≡◌, ◌≢◌, inl, inr, ℕ, zero, suc, ◌<◌, List, [], ◌∷◌, ◌++◌, length, set, replicate, sym, refl, ap, ◌∙◌, subst, Some, slice_get, slice_index, slice_set, arith}
use mathlib.Core.Option.{Option, some, some-injective, some-ne-none}
use mathlib.Core.Logic.{dite}
use native.Mathlib.Decide.{ℕ_discrete}
use lib.ListN.{get_elem?}
use Rattle.std.proofs.lemmas.List.{append-nil, length-replicate, length-set}
use Rattle.std.proofs.lemmas.Option.{slice_get_within}
use Rattle.atomic_table.proofs.Lists.{set_else, set_here}
use Rattle.region.specs.declared.access.ReadAccess.{ReadAccess}
use Rattle.theory.specs.Consumer.{Consumer, consumer_at, moved, passed_by}
use Rattle.theory.specs.Image.{Image, ImageEvent, ImageStep, Inserted, Lose, Poll, after_insert, image_at}
use Rattle.theory.specs.Insert.{Stored}
use Rattle.theory.specs.Placed.{Among, Placed, end_of}
use Rattle.theory.proofs.Lists.{all_get}
use Rattle.theory.proofs.Tables.{get_put, got_other}
use Rattle.image_rule.specs.declared.view.Frame.{Frame}
use Rattle.image_rule.specs.declared.view.Site.{Site}
use Rattle.image_rule.specs.declared.view.View.{View}
use Rattle.image_rule.specs.Frames.{placed_all, placed_of}
use Rattle.image_rule.specs.Law.{IsInsert, IsLook, IsMove, Looking, Stepping}
use Rattle.image_rule.specs.Law as laws
use Rattle.image_rule.specs.Steps.{Mine}
use Rattle.image_rule.specs.Rule.{ImageRuled, Inserts, consumer_place, whole_seat}
use Rattle.image_rule.specs.Says.{join_of}
use Rattle.model.specs.Headline.{Always, IsBounded, IsPrefixPolled, IsRebuiltRight}
use Rattle.model.specs.World.{AtImage, Event, IsOpened, Run, Step, World}
use Rattle.threads_meaning.specs.Images.{GoesOn, HasKind, IsReady, IsHonest, IsImageOf, Look, Move, MovesAreEvents, OpensImage, StandsAt, StepsAreEvents, StepsHaveKinds, StepsTo, Store, Table, TablesAreInRuns, in_world}

-- ---- lists

inside : {A : Type 0} (l : List A) (i : ℕ) (a : A) → get_elem? l i ≡ some a → i < length l
inside [] i a e = absurd (some-ne-none a (sym e))
inside (x ∷ xs) zero a e = omega arith
inside (x ∷ xs) (suc i) a e = (let h = inside xs i a e in omega arith)

repeated : {A : Type 0} (n j : ℕ) (a : A) → j < n → slice_get (replicate n a) j ≡ Some a
repeated zero j a lt = absurd (omega arith)
repeated (suc n) zero a lt = refl
repeated (suc n) (suc j) a lt = repeated n j a (omega arith)

-- ---- who inserts

holder : (t : Site) (s : Table) (r : ImageRuled t s) (n : ℕ) (v : View) → get_elem? s.views n ≡ some v → v.inserting ≡ 1 → Inserts t.key r.held r.owners n v
holder t s r n v at one = (r.words.each n v at).inserts one

-- a table has an inserter, which has stored these frames
record HasInserter (s : Table) (stored : List Placed) : Type 0 where
  seat : ℕ
  inserter : View
  there : get_elem? s.views seat ≡ some inserter
  inserts : inserter.inserting ≡ 1
  has : stored ≡ placed_all inserter.held.got

-- one seat has changed, which inserts still, and has these frames, if it did
changes : (t : Site) (s s' : Table) (i : Image) (shown : IsImageOf t s i) (stored : List Placed) (id : ℕ) (v w : View) → get_elem? s.views id ≡ some v → s'.views ≡ set s.views id w → w.inserting ≡ v.inserting
    → (shown.seat ≡ id → v ≡ shown.inserter → stored ≡ placed_all w.held.got) → (shown.seat ≢ id → stored ≡ i.stored) → HasInserter s' stored
changes t s s' i shown stored id v w at views one mine other = dite (ℕ_discrete shown.seat id)
    (λ e. let at' : get_elem? s.views id ≡ some shown.inserter = subst (λ (k : ℕ). get_elem? s.views k ≡ some shown.inserter) e shown.there in
    let same : v ≡ shown.inserter = some-injective v shown.inserter (sym at ∙ at') in record {
      seat = id;
      inserter = w;
      there = subst (λ (vs : List View). get_elem? vs id ≡ some w) (sym views) (set_here s.views id w (inside s.views id v at));
      inserts = one ∙ (ap (λ (x : View). x.inserting) same ∙ shown.inserts);
      has = mine e same;
    })
    (λ ne. record {
      seat = shown.seat;
      inserter = shown.inserter;
      there = subst (λ (vs : List View). get_elem? vs shown.seat ≡ some shown.inserter) (sym views) (set_else s.views id shown.seat w ne ∙ shown.there);
      inserts = shown.inserts;
      has = other ne ∙ shown.stored;
    })

-- where nothing more was stored
rests : (t : Site) (s s' : Table) (i : Image) (shown : IsImageOf t s i) (id : ℕ) (v w : View) → get_elem? s.views id ≡ some v → s'.views ≡ set s.views id w → w.inserting ≡ v.inserting → w.held.got ≡ v.held.got → HasInserter s' i.stored
rests t s s' i shown id v w at views one got = changes t s s' i shown i.stored id v w at views one
    (λ e same. shown.stored ∙ (ap (λ (x : View). placed_all x.held.got) (sym same) ∙ ap placed_all (sym got)))
    (λ ne. refl)

-- what was stored by the rule is what the image has
stored_by : (t : Site) (s : Table) (i : Image) (shown : IsImageOf t s i) (r : ImageRuled t s) → placed_all r.held.got ≡ i.stored
stored_by t s i shown r =
    let h = holder t s r shown.seat shown.inserter shown.there shown.inserts in
    ap (λ (x : List Frame). placed_all x) (ap (λ x. x.got) (sym h.held)) ∙ sym shown.stored

-- ---- steps

abbrev after : Table → ℕ → (ℕ → ℕ) → List (Option ReadAccess) → ℕ → View → Table
after s i f homes seat w = record { words = slice_set s.words i (f (slice_index s.words i)); homes = homes; views = slice_set s.views seat w }

image_of : (t : Site) (s : Table) (r : ImageRuled t s) (i : Image) → i.join ≡ join_of t.key → HasInserter s i.stored → length i.consumers ≡ t.key.consumers → ((j : ℕ) → j < t.key.consumers → StandsAt s.words i.consumers j) → IsImageOf t s i
image_of t s r i join has count stand = record { ruled = r; seat = has.seat; inserter = has.inserter; there = has.there; inserts = has.inserts; join = join; stored = has.has; count = count; consumers = stand }

pub look_stays : (t : Site) (s s' : Table) (i : Image) → IsImageOf t s i → StepsTo t s Look s' → IsImageOf t s' i
look_stays t s s' i shown step =
    let look : IsLook t.key s.words s'.words step.old step.new = step.is in
    image_of t s' step.after i shown.join (rests t s s' i shown step.seat step.old step.new step.there step.views look.inserting look.stored) shown.count
    (λ j lt. let c = shown.consumers j lt in record { consumer = c.consumer; is = c.is; here = look.positions j lt ∙ c.here })

store_stores : (t : Site) (s s' : Table) (f : Frame) (i : Image) → IsImageOf t s i → StepsTo t s (Store f) s' → IsImageOf t s' (after_insert i (placed_of f) Stored)
store_stores t s s' f i shown step =
    let put : IsInsert t.key s.words s'.words step.old step.new (placed_of f) = step.is.0 in let one : step.old.inserting ≡ 1 = step.is.1 in
    let mine = holder t s shown.ruled step.seat step.old step.there one in let its = holder t s shown.ruled shown.seat shown.inserter shown.there shown.inserts in
    image_of t s' step.after (after_insert i (placed_of f) Stored) shown.join
    (changes t s s' i shown (placed_of f ∷ i.stored) step.seat step.old step.new step.there step.views put.inserting
    (λ e same. ap (λ (x : List Placed). placed_of f ∷ x) (shown.stored ∙ ap (λ (x : View). placed_all x.held.got) (sym same)) ∙ sym put.stored)
    (λ ne. absurd (ne (sym its.seat ∙ mine.seat))))
    shown.count
    (λ j lt. let c = shown.consumers j lt in record { consumer = c.consumer; is = c.is; here = put.positions j lt ∙ c.here })

move_moves : (t : Site) (s s' : Table) (j : ℕ) (f : Frame) (i : Image) (x : Consumer) → IsImageOf t s i → StepsTo t s (Move j f) s' → x.at ≡ end_of (placed_of f) → IsImageOf t s' (record i { consumers = slice_set i.consumers j x })
move_moves t s s' j f i x shown step ends =
    let move : IsMove t.key step.before.held.got s.words s'.words step.old step.new j (placed_of f) = step.is.0 in let low : j < t.key.consumers = step.is.1 in
    image_of t s' step.after (record i { consumers = slice_set i.consumers j x }) shown.join
    (rests t s s' i shown step.seat step.old step.new step.there step.views move.inserting move.stored)
    (length-set i.consumers j x ∙ shown.count)
    (λ k lt. dite (ℕ_discrete k j)
    (λ e. record {
      consumer = x;
      is = subst (λ (n : ℕ). slice_get (slice_set i.consumers j x) n ≡ Some x) (sym e) (get_put i.consumers j x (let c = shown.count in omega arith));
      here = ap (λ (n : ℕ). slice_index s'.words (consumer_place n)) e ∙ (move.there ∙ sym ends);
    })
    (λ ne. let c = shown.consumers k lt in record { consumer = c.consumer; is = got_other i.consumers k j c.consumer x ne c.is; here = move.others k lt ne ∙ c.here }))

module _ (t : Site) (s : Table) (id : ℕ) (m : Mine) (i : ℕ) (f : ℕ → ℕ) (told : ℕ → Mine → Type 0) (r : ImageRuled t s) (ready : IsReady s id m i) where
  looks : Looking t id m i f told → HasKind t s Look id i f told
  looks law = let g = law s r ready.0 ready.1 in record {
    after = after s i f g.1 id g.0.0;
    mine = g.0;
    words = refl;
    views = refl;
    tells = g.3;
    steps = record { before = r; after = g.2; seat = id; old = m.0; new = g.0.0; there = ready.0; views = refl; is = g.4 };
  }

  stores : (frame : Frame) → m.0.inserting ≡ 1 → Stepping t id m i f told (λ _ words after w. IsInsert t.key words after m.0 w (placed_of frame)) → HasKind t s (Store frame) id i f told
  stores frame one law = let g = law s r ready.0 ready.1 in record {
    after = after s i f g.1 id g.0.0;
    mine = g.0;
    words = refl;
    views = refl;
    tells = g.3;
    steps = record { before = r; after = g.2; seat = id; old = m.0; new = g.0.0; there = ready.0; views = refl; is = (g.4, one) };
  }

  moves : (frame : Frame) → m.0.reading.reads ≡ 1 → Stepping t id m i f told (λ got words after w. IsMove t.key got words after m.0 w m.0.reading.number (placed_of frame)) → HasKind t s (Move m.0.reading.number frame) id i f told
  moves frame one law = let g = law s r ready.0 ready.1 in record {
    after = after s i f g.1 id g.0.0;
    mine = g.0;
    words = refl;
    views = refl;
    tells = g.3;
    steps = record { before = r; after = g.2; seat = id; old = m.0; new = g.0.0; there = ready.0; views = refl; is = (g.4, ((r.words.each id m.0 ready.0).reads one).inside) };
  }

pub steps_have_kinds : laws.StepsAreEvents → StepsHaveKinds
steps_have_kinds law = record {
  insert = λ t s id m f k x r ready one may commits. stores t s id m _ _ _ r ready f one (law.insert t id m f k x one may commits);
  move = λ t s id m f r ready may. moves t s id m _ _ _ r ready f may.before.reads (law.move t id m f may);
  load_position = λ t s id m j r ready one low. looks t s id m _ _ _ r ready (law.load_position t id m j one low);
  store_later_bits = λ t s id m k x r ready one may. looks t s id m _ _ _ r ready (law.store_later_bits t id m k x one may);
  store_start_bits = λ t s id m k x r ready one from to. looks t s id m _ _ _ r ready (law.store_start_bits t id m k x one from to);
  clear_bits = λ t s id m floor k x r ready one out may. looks t s id m _ _ _ r ready (law.clear_bits t id m floor k x one out may);
  take_slots = λ t s id m u i r ready may. looks t s id m _ _ _ r ready (law.take_slots t id m u i may);
  free_slots = λ t s id m f i r ready may. looks t s id m _ _ _ r ready (law.free_slots t id m f i may);
  load_own_bits = λ t s id m r ready one. looks t s id m _ _ _ r ready (law.load_own_bits t id m one);
  load_bits = λ t s id m k r ready one low. looks t s id m _ _ _ r ready (law.load_bits t id m k one low);
}

pub steps_are_events : StepsAreEvents
steps_are_events t s s' Look g given i new events shown step (none, same) = subst (IsImageOf t s') (sym same) (look_stays t s s' i shown step)
steps_are_events t s s' (Store f) g given i new events shown step (least, one, answer, (among, low, after)) =
    subst (IsImageOf t s') (sym (after ∙ ap (after_insert i (placed_of f)) answer)) (store_stores t s s' f i shown step)
steps_are_events t s s' (Move j f) g given i new events shown step (inl (one, (r, is, may, heard, after))) =
    subst (IsImageOf t s') (sym after) (move_moves t s s' j f i (moved r (placed_of f)) shown step refl)
steps_are_events t s s' (Move j f) g given i new events shown step (inr (one, (r, is, may, after))) =
    subst (IsImageOf t s') (sym after) (move_moves t s s' j f i (passed_by r (placed_of f)) shown step refl)

pub moves_are_events : MovesAreEvents
moves_are_events t s s' j f g given i shown step =
    let move : IsMove t.key step.before.held.got s.words s'.words step.old step.new j (placed_of f) = step.is.0 in let c = shown.consumers j step.is.1 in (
      record i { consumers = slice_set i.consumers j (passed_by c.consumer (placed_of f)) },
      (
        c.consumer,
        c.is,
        record { among = subst (Among (placed_of f)) (stored_by t s i shown step.before) move.among; here = move.here ∙ c.here },
        refl,
      ),
    )

pub opens_image : OpensImage
opens_image t s window ruled begun views = image_of t s ruled (image_at (join_of t.key) window t.key.consumers) refl
    record {
      seat = 0;
      inserter = whole_seat t;
      there = subst (λ (vs : List View). get_elem? vs 0 ≡ some (whole_seat t)) (sym views) refl;
      inserts = refl;
      has = refl;
    }
    (length-replicate t.key.consumers (consumer_at (join_of t.key)))
    (λ j lt. record { consumer = consumer_at (join_of t.key); is = repeated t.key.consumers j (consumer_at (join_of t.key)) lt; here = begun.consumers j lt })

-- ---- runs

runs_on : (a b c : World) (past : List Event) (e : Event) → Run a past b → Step b e c → Run a (past ++ e ∷ []) c
runs_on a b c [] e run step = (c, subst (λ (x : World). Step x e c) run step, refl)
runs_on a b c (p ∷ past) e (mid, first, rest) step = (mid, first, runs_on mid b c past e rest step)

honest : Always IsRebuiltRight → Always IsBounded → Always IsPrefixPolled → (first w : World) (past : List Event) (which : ℕ) (i : Image) → IsOpened first → Run first past w → slice_get w.images which ≡ Some (Some i) → IsHonest w i
honest rebuilt bounded polled first w past which i opened run there = record {
  rebuilt = all_get _ w.images which (Some i) there (rebuilt first w past opened run);
  bounded = all_get _ w.images which (Some i) there (bounded first w past opened run).1;
  polled = λ j r is. all_get _ i.consumers j r is (all_get _ w.images which (Some i) there (polled first w past opened run).1);
}

abbrev with_image : World → ℕ → Image → World
with_image w which i = record w { images = slice_set w.images which (Some i) }

-- one event of an image
one_more : (t : Site) (s' : Table) (first w : World) (past : List Event) (which : ℕ) (i new : Image) (e : ImageEvent) → Always IsRebuiltRight → Always IsBounded → Always IsPrefixPolled → IsOpened first → Run first past w
    → slice_get w.images which ≡ Some (Some i) → ImageStep w.log.identity.geometry w.sender.sent i e new → IsImageOf t s' new → GoesOn t s' first w (past ++ AtImage which e ∷ []) which new
one_more t s' first w past which i new e rebuilt bounded polled opened run there step shown =
    let next : World = with_image w which new in let goes = runs_on first w next past (AtImage which e) run (i, new, there, step, refl) in
    let got : slice_get next.images which ≡ Some (Some new) = get_put w.images which (Some new) (slice_get_within w.images which (Some i) there) in
    record { world = next; run = goes; shown = record { there = got; shown = shown }; honest = honest rebuilt bounded polled first next (past ++ AtImage which e ∷ []) which new opened goes got }

pub tables_are_in_runs : Always IsRebuiltRight → Always IsBounded → Always IsPrefixPolled → TablesAreInRuns
tables_are_in_runs rebuilt bounded polled t s s' Look first w past which i new events opened run is step (none, same) =
    let shown : IsImageOf t s' new = subst (IsImageOf t s') (sym same) (look_stays t s s' i is.shown step) in
    let got : slice_get w.images which ≡ Some (Some new) = is.there ∙ ap (λ (x : Image). Some (Some x)) (sym same) in
    let goes : Run first (past ++ in_world which events) w = subst (λ (es : List Event). Run first es w) (sym (ap (λ (es : List ImageEvent). past ++ in_world which es) none ∙ append-nil past)) run in
    record { world = w; run = goes; shown = record { there = got; shown = shown }; honest = honest rebuilt bounded polled first w past which new opened run got }
tables_are_in_runs rebuilt bounded polled t s s' (Store f) first w past which i new events opened run is step (least, one, answer, happens) =
    subst (λ (es : List ImageEvent). GoesOn t s' first w (past ++ in_world which es) which new) (sym one)
    (one_more t s' first w past which i new (Inserted least (placed_of f)) rebuilt bounded polled opened run is.there happens (steps_are_events t s s' (Store f) w.log.identity.geometry w.sender.sent i new events is.shown step (least, one, answer, happens)))
tables_are_in_runs rebuilt bounded polled t s s' (Move j f) first w past which i new events opened run is step (inl (one, happens)) =
    subst (λ (es : List ImageEvent). GoesOn t s' first w (past ++ in_world which es) which new) (sym one)
    (one_more t s' first w past which i new (Poll j (placed_of f)) rebuilt bounded polled opened run is.there happens (steps_are_events t s s' (Move j f) w.log.identity.geometry w.sender.sent i new events is.shown step (inl (one, happens))))
tables_are_in_runs rebuilt bounded polled t s s' (Move j f) first w past which i new events opened run is step (inr (one, happens)) =
    subst (λ (es : List ImageEvent). GoesOn t s' first w (past ++ in_world which es) which new) (sym one)
    (one_more t s' first w past which i new (Lose j (placed_of f)) rebuilt bounded polled opened run is.there happens (steps_are_events t s s' (Move j f) w.log.identity.geometry w.sender.sent i new events is.shown step (inr (one, happens))))
