-- The inserter's steps keep the rule: its looks, and any store that keeps what was stored.
use Rattle.std.proofs.Common.{◌≡◌, ℕ, suc, ◌+◌, ◌*◌, ◌<◌, ◌≤◌, inr, ⊎_elim, List, set, length, length-set, sym, refl, ap, ◌∙◌, subst, arith, get_or-set_same, get_or-set_other}
use Rattle.std.specs.Prelude.{slice_index}
use mathlib.Core.Logic.{dite}
use native.Mathlib.Decide.{ℕ_discrete}
use Rattle.atomic_table.specs.Table.{State}
use Rattle.region.specs.declared.access.ReadAccess.{ReadAccess}
use Rattle.image_rule.specs.declared.view.Frame.{Frame}
use Rattle.image_rule.specs.declared.view.Held.{Held}
use Rattle.image_rule.specs.declared.view.Key.{Key}
use Rattle.image_rule.specs.declared.view.View.{View}
use Rattle.image_rule.specs.Frames.{Among, image_length, ring}
use Rattle.image_rule.specs.Rule.{Inserts, Knows, Owners, Sound, Stands, StandsAt, WordsRuled, consumer_place, image_place}
use Rattle.image_rule.specs.Steps.{May, Sweeps, changed}
use Rattle.image_rule.proofs.Staying.{after, loaded}

-- ---- it looks at a consumer

module _ (key : Key) (s : State ReadAccess View) (hd : Held) (ow : Owners) (r : WordsRuled key s hd ow) (id : ℕ) (v : View) (k : Knows key hd ow s.words id v) (one : v.inserting ≡ 1) (j : ℕ) (inside : j < key.consumers) where
  abbrev pub at : StandsAt key hd (slice_index s.words (consumer_place j))
  at = r.stands j inside

  abbrev pub after_look : View
  after_look = record v { seen = set v.seen j at.unit; looks = set v.looks j (suc (slice_index v.looks j)) }

  short : j < length v.seen
  short = let a = (k.inserts one).seen in omega arith

  swept_there : (i : ℕ) → i < length (set v.seen j at.unit) → 32 * slice_index (set v.seen j at.unit) i ≤ slice_index s.words (consumer_place i)
  swept_there i lt = dite (ℕ_discrete i j)
      (λ e. let a : slice_index (set v.seen j at.unit) i ≡ at.unit = ap (slice_index (set v.seen j at.unit)) e ∙ get_or-set_same v.seen j at.unit 0 short in let b : slice_index s.words (consumer_place i) ≡ 32 * at.unit = ap (λ (x : ℕ). slice_index s.words (consumer_place x)) e ∙ at.is in omega arith)
      (λ ne. let a : slice_index (set v.seen j at.unit) i ≡ slice_index v.seen i = get_or-set_other v.seen j i at.unit 0 ne in let l = length-set v.seen j at.unit in let b = k.swept i (omega arith) in omega arith)

  pub look_knows : Knows key hd ow s.words id after_look
  look_knows = record {
    inserts = λ y. (let a = k.inserts one in record { seat = a.seat; held = a.held; seen = length-set v.seen j at.unit ∙ a.seen; looks = length-set v.looks j (suc (slice_index v.looks j)) ∙ a.looks });
    few = (let l = length-set v.seen j at.unit in let f = k.few in omega arith);
    swept = swept_there;
    reads = λ y. (let a = k.reads y in record { inside = a.inside; seat = a.seat; position = a.position; dealt = a.dealt });
    deals = k.deals;
    known = k.known;
  }

  pub look_tells : Sweeps j v (slice_index s.words (consumer_place j)) after_look
  look_tells =
      let mine = k.inserts one in let st : Stands key v.held at.unit = subst (λ (h : Held). Stands key h at.unit) (sym mine.held) at.stands in let so : Sound key v.held = subst (Sound key) (sym mine.held) r.sound in record {
        unit = at.unit;
        is = at.is;
        further = (let a = k.swept j short in let e = at.is in omega arith);
        from = st.from;
        reached = λ u from lt. (let jo = so.joined in st.reached u (omega arith) lt);
        edge = st.edge;
        after = refl;
      }

-- ---- it stores

module _ (key : Key) (s : State ReadAccess View) (hd : Held) (ow : Owners) (r : WordsRuled key s hd ow) (id : ℕ) (v : View) (k : Knows key hd ow s.words id v) (i x floor : ℕ) (got : List Frame) (inside : i < image_length (ring key)) (may : May key v i x floor got) where
  abbrev pub words : List ℕ
  words = set s.words (image_place + i) x

  abbrev pub held : Held
  held = changed v.held i x floor got

  abbrev pub after_store : View
  after_store = record v { held = held }

  mine : Inserts key hd ow id v
  mine = k.inserts may.inserts

  sound_before : Sound key v.held
  sound_before = subst (Sound key) (sym mine.held) r.sound

  pub low : (j : ℕ) → j < key.consumers → slice_index words (consumer_place j) ≡ slice_index s.words (consumer_place j)
  low j lt = let few = r.is_key.few in get_or-set_other s.words (image_place + i) (consumer_place j) x 0 (λ e. omega arith)

  mirrored : (q : ℕ) → q < image_length (ring key) → slice_index words (image_place + q) ≡ slice_index held.words q
  mirrored q lt = dite (ℕ_discrete q i)
      (λ e. let l = r.long in let wide = sound_before.long in
      let a : slice_index words (image_place + q) ≡ x = ap (λ (y : ℕ). slice_index (set s.words (image_place + i) x) (image_place + y)) e ∙ get_or-set_same s.words (image_place + i) x 0 (omega arith) in
      let b : slice_index (set v.held.words i x) q ≡ x = ap (slice_index (set v.held.words i x)) e ∙ get_or-set_same v.held.words i x 0 (omega arith) in
      a ∙ sym b)
      (λ ne. get_or-set_other s.words (image_place + i) (image_place + q) x 0 (λ e. ne (omega arith)) ∙ r.mirrors q lt ∙ ap (λ (h : Held). slice_index h.words q) (sym mine.held) ∙ sym (get_or-set_other v.held.words i q x 0 ne))

  -- who stands somewhere isn't below the new floor
  pub above : (j : ℕ) → j < key.consumers → (u : ℕ) → slice_index s.words (consumer_place j) ≡ 32 * u → Stands key v.held u → floor ≤ u
  above j lt u e st = ⊎_elim
      (λ (same : floor ≡ v.held.floor). let a = st.from in omega arith)
      (λ (seen : (j : ℕ) → j < length v.seen → floor ≤ slice_index v.seen j). let n = mine.seen in let a = seen j (omega arith) in let b = k.swept j (omega arith) in omega arith)
      may.seen

  stand : (j : ℕ) → j < key.consumers → StandsAt key held (slice_index s.words (consumer_place j))
  stand j lt = let a = r.stands j lt in let st : Stands key v.held a.unit = subst (λ (h : Held). Stands key h a.unit) (sym mine.held) a.stands in
      record { unit = a.unit; is = a.is; stands = may.stands sound_before a.unit st (above j lt a.unit a.is st) }

  grow : (f : Frame) → Among f hd.got → Among f got
  grow f a = may.grows f (subst (λ (h : Held). Among f h.got) (sym mine.held) a)

  pub stored_rule : WordsRuled key (record { words = words; homes = s.homes; views = set s.views id after_store }) held ow
  stored_rule = after key s hd ow r id words held after_store record {
    leaves = record { grows = grow; same = inr mine.seat; further = λ j lt. (let e = low j lt in omega arith); still = λ j lt ne. low j lt };
    sound = may.sound sound_before;
    long = length-set s.words (image_place + i) x;
    mirrors = mirrored;
    stands = λ j lt. subst (StandsAt key held) (sym (low j lt)) (stand j lt);
    knows = record {
      inserts = λ y. record { seat = mine.seat; held = refl; seen = mine.seen; looks = mine.looks };
      few = k.few;
      swept = λ j lt. (let f = k.few in let e = low j (omega arith) in let b = k.swept j lt in omega arith);
      reads = λ y. (let a = k.reads y in record { inside = a.inside; seat = a.seat; position = low v.reading.number a.inside ∙ a.position; dealt = a.dealt });
      deals = λ j lt. (let a = k.deals j lt in record { inside = a.inside; seat = a.seat; position = low j a.inside ∙ a.position });
      known = λ f a. grow f (k.known f a);
    };
  }
