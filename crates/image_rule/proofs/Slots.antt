-- The inserter takes the slots of a unit, and gives them back: with a frame that it stores, or with memory taken back.
use Rattle.std.proofs.Common.{◌≡◌, ◌≢◌, ℕ, zero, suc, ◌+◌, ◌*◌, ◌%◌, ◌<◌, ◌≤◌, ◌⊎◌, inl, inr, ⊎_elim, suc-ne-zero, List, [], ◌∷◌, set, length, cond, ◌==◌, eq-eqb, ne_eqb, sym, refl, ap, ◌∙◌, subst, arith}
use Rattle.std.specs.Prelude.{slice_index}
use lib.Seq.{set-get_or}
use mathlib.Core.Option.{Option, some, none, some-injective, some-ne-none}
use mathlib.Core.Logic.{dite}
use native.Mathlib.Decide.{dec_le, ℕ_discrete}
use lib.ListN.{get_elem?}
use Rattle.atomic_table.specs.Table.{Act, Allows, State, carried_after, homes_after}
use Rattle.atomic_table.proofs.Lists.{at_set, set_else, set_here}
use Rattle.region.specs.declared.access.ReadAccess.{ReadAccess}
use Rattle.image_rule.specs.declared.view.Frame.{Frame}
use Rattle.image_rule.specs.declared.view.Held.{Held}
use Rattle.image_rule.specs.declared.view.Key.{Key}
use Rattle.image_rule.specs.declared.view.Reading.{Reading}
use Rattle.image_rule.specs.declared.view.Site.{Site}
use Rattle.image_rule.specs.declared.view.View.{View}
use Rattle.image_rule.specs.Frames.{Among, Covers, Has, IsPart, StartsAt, end_of, image_length, ring, slot_of}
use Rattle.image_rule.specs.Rule.{Holds, ImageRuled, Inserts, IsHolding, IsHome, IsLeft, IsPartAt, IsWithReader, Knows, MemoryRuled, Owners, Rounds, Sound, Stands, StandsAt, WordsRuled, consumer_place, image_place}
use Rattle.image_rule.specs.Steps.{Commits, Frees, May, MayCommit, MayFree, MayStore, MayTake, Mine, TakenOver, TakesSlots, changed, with_out}
use Rattle.image_rule.proofs.Inserting.{after_store, low, stored_rule}
use Rattle.image_rule.proofs.Memory.{Full, GivesAll, IsIdle, OthersStay, SameParts, SlotAt, TakesAll, core, core_holds, gives_all, one_seat, one_slot, slots_apart, slots_now, stands_at, takes_all}
use Rattle.image_rule.proofs.Staying.{after, homes_on}
use Rattle.image_rule.proofs.Stores.{may_store}
use Rattle.image_rule.proofs.Storing.{sound_with}

set_twice : {A : Type 0} (l : List A) (i : ℕ) (a b : A) → set (set l i a) i b ≡ set l i b
set_twice [] i a b = refl
set_twice (x ∷ xs) zero a b = refl
set_twice (x ∷ xs) (suc i) a b = λ j. x ∷ set_twice xs i a b j

there_low : {A : Type 0} (l : List A) (i : ℕ) (a : A) → get_elem? l i ≡ some a → i < length l
there_low [] i a e = absurd (some-ne-none a (sym e))
there_low (x ∷ xs) zero a e = omega arith
there_low (x ∷ xs) (suc i) a e = let r = there_low xs i a e in omega arith

-- ---- what is out, and what was taken back, changes

module _ (key : Key) (s : State ReadAccess View) (hd : Held) (ow : Owners) (r : WordsRuled key s hd ow) (id : ℕ) (v : View) (at : get_elem? s.views id ≡ some v) (one : v.inserting ≡ 1) (freed out : ℕ) where
  abbrev pub held : Held
  held = record v.held { freed = freed; out = out }

  abbrev pub seat : View
  seat = record v { held = held }

  k : Knows key hd ow s.words id v
  k = r.each id v at

  mine : Inserts key hd ow id v
  mine = k.inserts one

  stand : (word : ℕ) → StandsAt key hd word → StandsAt key held word
  stand word a = let st : Stands key v.held a.unit = subst (λ (h : Held). Stands key h a.unit) (sym mine.held) a.stands in
      record { unit = a.unit; is = a.is; stands = record { from = st.from; reached = st.reached; edge = st.edge } }

  pub held_rule : WordsRuled key (record { words = s.words; homes = s.homes; views = set s.views id seat }) held ow
  held_rule = after key s hd ow r id s.words held seat record {
    leaves = record { grows = λ f a. subst (λ (h : Held). Among f h.got) (sym mine.held) a; same = inr mine.seat; further = λ j lt. omega arith; still = λ j lt ne. refl };
    sound = sound_with key v.held out freed (subst (Sound key) (sym mine.held) r.sound);
    long = refl;
    mirrors = λ q lt. r.mirrors q lt ∙ ap (λ (h : Held). slice_index h.words q) (sym mine.held);
    stands = λ j lt. stand (slice_index s.words (consumer_place j)) (r.stands j lt);
    knows = record {
      inserts = λ y. record { seat = mine.seat; held = refl; seen = mine.seen; looks = mine.looks };
      few = k.few;
      swept = k.swept;
      reads = λ y. (let a = k.reads y in record { inside = a.inside; seat = a.seat; position = a.position; dealt = a.dealt });
      deals = k.deals;
      known = λ f a. subst (λ (h : Held). Among f h.got) (sym mine.held) (k.known f a);
    };
  }

-- ---- the slots are taken

module _ (t : Site) (s : State ReadAccess View) (r : ImageRuled t s) (id : ℕ) (v : View) (at : get_elem? s.views id ≡ some v) (u : ℕ) (before : List (ℕ × ReadAccess)) (may : MayTake t.key v u) where
  abbrev hd : Held
  hd = r.held

  abbrev n : ℕ
  n = ring t.key

  tk : Knows t.key hd r.owners s.words id v
  tk = r.words.each id v at

  its : Inserts t.key hd r.owners id v
  its = tk.inserts may.inserts

  idle : hd.out ≡ 0
  idle = sym (ap (λ (h : Held). h.out) its.held) ∙ may.idle

  from : hd.floor ≤ u
  from = let a = may.from in let e = ap (λ (h : Held). h.floor) its.held in omega arith

  near : u < hd.floor + n
  near = let a = may.near in let e = ap (λ (h : Held). h.floor) its.held in omega arith

  no_start : (StartsAt v.held.got u → ⊥) → StartsAt hd.got u → ⊥
  no_start no' st = no' (subst (λ (h : Held). StartsAt h.got u) (sym its.held) st)

  passed : ((j : ℕ) → j < length v.seen → u < slice_index v.seen j) → (j : ℕ) → j < t.key.consumers → 32 * u < slice_index s.words (consumer_place j)
  passed p j lt = let l = its.seen in let a = p j (omega arith) in let b = tk.swept j (omega arith) in omega arith

  no_reader : (j : ℕ) → IsWithReader s u j → ⊥
  no_reader j q = ⊎_elim
      (λ no'. no_start no' (subst (StartsAt hd.got) q.unit (r.memory.holding q.seat q.view q.there q.holds).starts))
      (λ p. let a = stands_at t s hd r.owners r.words r.rounds r.memory q.seat q.view q.there q.holds.reads in let b = passed p q.view.reading.number a.0 in let c = a.1 in let e = q.unit in absurd (omega arith))
      may.left

  home : (j : ℕ) → j < 8 → IsHome t s hd r.rounds u j
  home j lt = ⊎_elim (λ h. h) (⊎_elim (λ (e : hd.out ≡ suc u). let i = idle in absurd (omega arith)) (λ q. absurd (no_reader j q))) (r.memory.slots u j from near lt)

  abbrev is : ReadAccess → Type 0
  is = IsPartAt t v.held r.rounds u

  full : Full t s.homes is u 8
  full j lt = let h = home j lt in (h.part, subst (λ (x : Held). IsPartAt t x r.rounds u h.part) (sym its.held) h.is, h.there)

  pub all : TakesAll t s.homes is u 8 before
  all = takes_all t s.homes is u 8 before (omega arith) full

  abbrev pub taken_seat : View
  taken_seat = seat t.key s hd r.owners r.words id v at may.inserts v.held.freed (suc u)

  abbrev kt : Held
  kt = held t.key s hd r.owners r.words id v at may.inserts v.held.freed (suc u)

  abbrev ht : List (Option ReadAccess)
  ht = homes_after s.homes before all.act

  abbrev zt : State ReadAccess View
  zt = record { words = s.words; homes = ht; views = set s.views id taken_seat }

  same_parts : SameParts t s hd r.owners r.words r.rounds r.memory (set s.views id taken_seat)
  same_parts = one_seat t s hd r.owners r.words r.rounds r.memory id v taken_seat at refl

  reader_on : (a j : ℕ) → IsWithReader s a j → IsWithReader zt a j
  reader_on a j q = let w = same_parts.still q.seat q.view q.there q.holds in let e = w.2 in record {
    seat = q.seat;
    view = w.0;
    there = w.1;
    holds = record { reads = ap (λ (x : Reading). x.reads) e ∙ q.holds.reads; holds = ap (λ (x : Reading). x.holds) e ∙ q.holds.holds };
    number = ap (λ (x : Reading). x.number) e ∙ q.number;
    unit = ap (λ (x : Reading). x.unit) e ∙ q.unit;
  }

  memory_taken : MemoryRuled t zt kt r.rounds
  memory_taken = record {
    shelves = all.long ∙ r.memory.shelves;
    freed = λ j lt. (let a = r.memory.freed j lt in let e = ap (λ (h : Held). h.freed) its.held in omega arith);
    holding = λ i x there has. (let w = same_parts.before i x there has in held_back i x there has w);
    left = λ a e. (let same : u ≡ a = omega (arith, e) in subst (IsLeft t zt kt) same (⊎_elim (λ no'. inl no') (λ p. inr (passed p)) may.left));
    slots = slots_now t s hd r.owners r.words r.rounds r.memory ht (set s.views id taken_seat) kt r.rounds u
        record { long = all.long; others = λ a j lt ne. all.others (slot_of n a j) (λ i low e. ne (slots_apart n a u j i lt low e).0) }
        (ap (λ (h : Held). h.floor) its.held) from near
        (λ a e. (let i = idle in absurd (omega arith)))
        s.words
        (λ a g ne p. subst (λ (x : Held). IsPartAt t x r.rounds a g) (sym its.held) p)
        (λ a j ne q. reader_on a j q)
        (λ j lt. inr (inl refl));
  }
    where
      held_back : (i : ℕ) (x : View) → get_elem? (set s.views id taken_seat) i ≡ some x → Holds x → (w : View) × (get_elem? s.views i ≡ some w) × (core x.reading ≡ core w.reading) → IsHolding kt r.rounds x
      held_back i x there has w =
          let a = r.memory.holding i w.0 w.1 (core_holds w.0 x w.2 has) in
          let unit : x.reading.unit ≡ w.0.reading.unit = ap (λ (y : Reading). y.unit) w.2 in record {
            round = ap (λ (y : Reading). y.round) w.2 ∙ a.round ∙ ap (λ (y : ℕ). (r.rounds y).0) (sym unit);
            book = ap (λ (y : Reading). y.book) w.2 ∙ a.book ∙ ap (λ (y : ℕ). (r.rounds y).1) (sym unit);
            starts = subst (λ (h : Held). StartsAt h.got x.reading.unit) (sym its.held) (subst (StartsAt hd.got) (sym unit) a.starts);
          }

  pub taken_rule : ImageRuled t zt
  taken_rule = record {
    held = kt;
    owners = r.owners;
    rounds = r.rounds;
    words = homes_on t.key (record { words = s.words; homes = s.homes; views = set s.views id taken_seat }) kt r.owners ht (held_rule t.key s hd r.owners r.words id v at may.inserts v.held.freed (suc u));
    memory = memory_taken;
  }

-- the inserter takes the slots of a unit, at the load of any word
pub take : (t : Site) (slots id : ℕ) (m : Mine) (u i : ℕ) → MayTake t.key m.0 u → Allows (ImageRuled t) slots id m i (λ n. n) (λ _. TakesSlots t u m)
take t slots id m u i may s r homes at fits =
    let a = all t s r id m.0 at u m.1 may in (
      taken_seat t s r id m.0 at u m.1 may,
      a.act,
      a.valid,
      subst (λ (ws : List ℕ). ImageRuled t record { words = ws; homes = homes_after s.homes m.1 a.act; views = set s.views id (taken_seat t s r id m.0 at u m.1 may) }) (sym (set-get_or s.words i 0)) (taken_rule t s r id m.0 at u m.1 may),
      record { rounds = r.rounds; after = refl; carries = a.taken },
    )

-- ---- they are given back, with a frame

module _ (t : Site) (s : State ReadAccess View) (r : ImageRuled t s) (id : ℕ) (m : Mine) (at : get_elem? s.views id ≡ some m.0) (f : Frame) (place x : ℕ) (one : m.0.inserting ≡ 1) (may : MayStore t.key m.0.held f place x) (inside : place < image_length (ring t.key)) (parts : MayCommit t f m) where
  abbrev cv : View
  cv = m.0

  abbrev ch : Held
  ch = r.held

  ck : Knows t.key ch r.owners s.words id cv
  ck = r.words.each id cv at

  ci : Inserts t.key ch r.owners id cv
  ci = ck.inserts one

  stores : May t.key cv place x cv.held.floor (f ∷ cv.held.got)
  stores = may_store t.key cv f place x r.words.is_key one may

  abbrev cwords : List ℕ
  cwords = set s.words (image_place + place) x

  abbrev cw : View
  cw = after_store t.key s ch r.owners r.words id cv ck place x cv.held.floor (f ∷ cv.held.got) inside stores

  clow : (j : ℕ) → j < t.key.consumers → slice_index cwords (consumer_place j) ≡ slice_index s.words (consumer_place j)
  clow j lt = low t.key s ch r.owners r.words id cv ck place x cv.held.floor (f ∷ cv.held.got) inside stores j lt

  pub given : GivesAll t s.homes (IsPart (ring t.key) t.region f parts.round parts.book) f.unit 8 m.1 []
  given = gives_all t s.homes (IsPart (ring t.key) t.region f parts.round parts.book) f.unit 8 m.1 [] (omega arith) r.words.is_key.some r.memory.shelves parts.carries

  abbrev ck' : Held
  ck' = record (changed cv.held place x cv.held.floor (f ∷ cv.held.got)) { out = 0 }

  abbrev pub stored_seat : View
  stored_seat = record cv { held = ck' }

  abbrev crounds : Rounds
  crounds w = cond (w == f.unit) (parts.round, parts.book) (r.rounds w)

  rounds_new : (w : ℕ) → w ≡ f.unit → crounds w ≡ (parts.round, parts.book)
  rounds_new w e = ap (λ b. cond b (parts.round, parts.book) (r.rounds w)) (eq-eqb w f.unit e)

  rounds_old : (w : ℕ) → w ≢ f.unit → crounds w ≡ r.rounds w
  rounds_old w ne = ap (λ b. cond b (parts.round, parts.book) (r.rounds w)) (ne_eqb w f.unit ne)

  abbrev chomes : List (Option ReadAccess)
  chomes = homes_after s.homes m.1 given.act

  abbrev cz : State ReadAccess View
  cz = record { words = cwords; homes = chomes; views = set s.views id stored_seat }

  -- nothing that was stored begins there
  none_there : StartsAt ch.got f.unit → ⊥
  none_there st =
      let g : StartsAt cv.held.got f.unit = subst (λ (h : Held). StartsAt h.got f.unit) (sym ci.held) st in
      let sound : Sound t.key cv.held = subst (Sound t.key) (sym ci.held) r.words.sound in
      let a = g.here in let b = sound.full g.frame g.among in let c = may.full in
      may.free f.unit (omega arith, omega arith) record { frame = g.frame; among = g.among; covers = (omega arith, omega arith) }

  cparts : (u : ℕ) (g : ReadAccess) → u ≢ f.unit → IsPartAt t ch r.rounds u g → IsPartAt t ck' crounds u g
  cparts u g ne p e among here from = subst (λ (q : ℕ × ℕ). IsPart (ring t.key) t.region e q.0 q.1 g) (sym (rounds_old u ne))
      (p e (⊎_elim (λ (same : e ≡ f). absurd (ne (sym here ∙ ap (λ (y : Frame). y.unit) same))) (λ (a : Among e cv.held.got). subst (λ (h : Held). Among e h.got) ci.held a) among) here
      (let q = ap (λ (h : Held). h.freed) ci.held in omega arith))

  csame : SameParts t s ch r.owners r.words r.rounds r.memory (set s.views id stored_seat)
  csame = one_seat t s ch r.owners r.words r.rounds r.memory id cv stored_seat at refl

  creader : (a j : ℕ) → IsWithReader s a j → IsWithReader cz a j
  creader a j q = let w = csame.still q.seat q.view q.there q.holds in let e = w.2 in record {
    seat = q.seat;
    view = w.0;
    there = w.1;
    holds = record { reads = ap (λ (x : Reading). x.reads) e ∙ q.holds.reads; holds = ap (λ (x : Reading). x.holds) e ∙ q.holds.holds };
    number = ap (λ (x : Reading). x.number) e ∙ q.number;
    unit = ap (λ (x : Reading). x.unit) e ∙ q.unit;
  }

  cnew : (j : ℕ) → j < 8 → IsHome t cz ck' crounds f.unit j
  cnew j lt = let g = given.full j lt in record {
    part = g.0;
    there = g.2;
    is = λ e among here from. ⊎_elim
        (λ (same : e ≡ f). subst (λ (y : Frame). IsPart (ring t.key) t.region y (crounds f.unit).0 (crounds f.unit).1 g.0) (sym same) (subst (λ (q : ℕ × ℕ). IsPart (ring t.key) t.region f q.0 q.1 g.0) (sym (rounds_new f.unit refl)) g.1))
        (λ (a : Among e cv.held.got). absurd (none_there record { frame = e; among = subst (λ (h : Held). Among e h.got) ci.held a; here = here }))
        among;
  }

  cmemory : MemoryRuled t cz ck' crounds
  cmemory = record {
    shelves = given.long ∙ r.memory.shelves;
    freed = λ j lt. (let a = r.memory.freed j lt in let e = ap (λ (h : Held). h.freed) ci.held in let l = clow j lt in omega arith);
    holding = λ i y there has. (let w = csame.before i y there has in cholding i y has w);
    left = λ a e. absurd (suc-ne-zero a (sym e));
    slots = slots_now t s ch r.owners r.words r.rounds r.memory chomes (set s.views id stored_seat) ck' crounds f.unit
        record { long = given.long; others = λ a j lt ne. given.others (slot_of (ring t.key) a j) (λ i l e. ne (slots_apart (ring t.key) a f.unit j i lt l e).0) }
        (ap (λ (h : Held). h.floor) ci.held)
        (let a = may.from in let e = ap (λ (h : Held). h.floor) ci.held in omega arith)
        (let a = may.near in let b = may.full in let e = ap (λ (h : Held). h.floor) ci.held in omega arith)
        (λ a e. (let q : suc a ≡ suc f.unit = sym e ∙ sym (ap (λ (h : Held). h.out) ci.held) ∙ parts.out in omega (arith, q)))
        cwords
        cparts
        (λ a j ne q. creader a j q)
        (λ j lt. inl (cnew j lt));
  }
    where
      cholding : (i : ℕ) (y : View) → Holds y → (w : View) × (get_elem? s.views i ≡ some w) × (core y.reading ≡ core w.reading) → IsHolding ck' crounds y
      cholding i y has w =
          let a = r.memory.holding i w.0 w.1 (core_holds w.0 y w.2 has) in
          let unit : y.reading.unit ≡ w.0.reading.unit = ap (λ (z : Reading). z.unit) w.2 in
          let ne : y.reading.unit ≢ f.unit = (λ e. none_there (subst (StartsAt ch.got) (sym unit ∙ e) a.starts)) in
          let old = rounds_old y.reading.unit ne in
          let st : StartsAt cv.held.got y.reading.unit = subst (λ (h : Held). StartsAt h.got y.reading.unit) (sym ci.held) (subst (StartsAt ch.got) (sym unit) a.starts) in record {
            round = ap (λ (z : Reading). z.round) w.2 ∙ a.round ∙ ap (λ (z : ℕ). (r.rounds z).0) (sym unit) ∙ ap (λ (q : ℕ × ℕ). q.0) (sym old);
            book = ap (λ (z : Reading). z.book) w.2 ∙ a.book ∙ ap (λ (z : ℕ). (r.rounds z).1) (sym unit) ∙ ap (λ (q : ℕ × ℕ). q.1) (sym old);
            starts = record { frame = st.frame; among = inr st.among; here = st.here };
          }

  cstored : WordsRuled t.key (record { words = cwords; homes = s.homes; views = set s.views id stored_seat }) ck' r.owners
  cstored =
      let first = stored_rule t.key s ch r.owners r.words id cv ck place x cv.held.floor (f ∷ cv.held.got) inside stores in
      let at' : get_elem? (set s.views id cw) id ≡ some cw = set_here s.views id cw (there_low s.views id cv at) in
      subst (λ (vs : List View). WordsRuled t.key (record { words = cwords; homes = s.homes; views = vs }) ck' r.owners) (set_twice s.views id cw stored_seat)
      (held_rule t.key (record { words = cwords; homes = s.homes; views = set s.views id cw }) (changed cv.held place x cv.held.floor (f ∷ cv.held.got)) r.owners first id cw at' one cv.held.freed 0)

  pub stored_all : ImageRuled t cz
  stored_all = record {
    held = ck';
    owners = r.owners;
    rounds = crounds;
    words = homes_on t.key (record { words = cwords; homes = s.homes; views = set s.views id stored_seat }) ck' r.owners chomes cstored;
    memory = cmemory;
  }

-- the inserter stores the word with a frame's first held bit, and gives each consumer its part
pub commit : (t : Site) (slots id : ℕ) (m : Mine) (f : Frame) (place x : ℕ) → m.0.inserting ≡ 1 → MayStore t.key m.0.held f place x → place < image_length (ring t.key) → MayCommit t f m → Allows (ImageRuled t) slots id m (image_place + place) (λ _. x) (λ _. Commits place f m x)
commit t slots id m f place x one may inside parts s r homes at fits =
    let g = given t s r id m at f place x one may inside parts in (
      stored_seat t s r id m at f place x one may inside parts,
      g.act,
      g.valid,
      stored_all t s r id m at f place x one may inside parts,
      (refl, g.rest),
    )

-- ---- they are given back, where memory was taken back

module _ (t : Site) (s : State ReadAccess View) (r : ImageRuled t s) (id : ℕ) (m : Mine) (at : get_elem? s.views id ≡ some m.0) (f : Frame) (may : MayFree t f m) where
  abbrev fv : View
  fv = m.0

  abbrev fh : Held
  fh = r.held

  fk : Knows t.key fh r.owners s.words id fv
  fk = r.words.each id fv at

  fi : Inserts t.key fh r.owners id fv
  fi = fk.inserts may.inserts

  abbrev pub freed_seat : View
  freed_seat = seat t.key s fh r.owners r.words id fv at may.inserts (end_of f) 0

  abbrev fheld : Held
  fheld = held t.key s fh r.owners r.words id fv at may.inserts (end_of f) 0

  pub back : GivesAll t s.homes (λ _. Unit {0}) f.unit 8 m.1 []
  back = gives_all t s.homes (λ _. Unit {0}) f.unit 8 m.1 [] (omega arith) r.words.is_key.some r.memory.shelves may.carries

  abbrev fhomes : List (Option ReadAccess)
  fhomes = homes_after s.homes m.1 back.act

  abbrev fz : State ReadAccess View
  fz = record { words = s.words; homes = fhomes; views = set s.views id freed_seat }

  famong : Among f fh.got
  famong = subst (λ (h : Held). Among f h.got) fi.held may.among

  ffull : 0 < f.units
  ffull = r.words.sound.full f famong

  fat : f.unit ≡ fh.freed
  fat = may.here ∙ ap (λ (h : Held). h.freed) fi.held

  fsame : SameParts t s fh r.owners r.words r.rounds r.memory (set s.views id freed_seat)
  fsame = one_seat t s fh r.owners r.words r.rounds r.memory id fv freed_seat at refl

  freader : (a j : ℕ) → IsWithReader s a j → IsWithReader fz a j
  freader a j q = let w = fsame.still q.seat q.view q.there q.holds in let e = w.2 in record {
    seat = q.seat;
    view = w.0;
    there = w.1;
    holds = record { reads = ap (λ (x : Reading). x.reads) e ∙ q.holds.reads; holds = ap (λ (x : Reading). x.holds) e ∙ q.holds.holds };
    number = ap (λ (x : Reading). x.number) e ∙ q.number;
    unit = ap (λ (x : Reading). x.unit) e ∙ q.unit;
  }

  fparts : (u : ℕ) (g : ReadAccess) → IsPartAt t fh r.rounds u g → IsPartAt t fheld r.rounds u g
  fparts u g p e among here from = p e (subst (λ (h : Held). Among e h.got) fi.held among) here (let a = fat in let b = ffull in omega arith)

  fmemory : MemoryRuled t fz fheld r.rounds
  fmemory = record {
    shelves = back.long ∙ r.memory.shelves;
    freed = λ j lt. (let l = fi.seen in let a = may.passed j (omega arith) in let b = fk.swept j (omega arith) in omega arith);
    holding = λ i y there has. (let w = fsame.before i y there has in fholding i y has w);
    left = λ a e. absurd (suc-ne-zero a (sym e));
    slots = slots_now t s fh r.owners r.words r.rounds r.memory fhomes (set s.views id freed_seat) fheld r.rounds f.unit
        record { long = back.long; others = λ a j lt ne. back.others (slot_of (ring t.key) a j) (λ i l e. ne (slots_apart (ring t.key) a f.unit j i lt l e).0) }
        (ap (λ (h : Held). h.floor) fi.held)
        (let a = may.from in let e = ap (λ (h : Held). h.floor) fi.held in omega arith)
        (let a = r.words.sound.near f famong in let b = ffull in omega arith)
        (λ a e. (let q : suc a ≡ suc f.unit = sym e ∙ sym (ap (λ (h : Held). h.out) fi.held) ∙ may.out in omega (arith, q)))
        s.words
        (λ a g ne p. fparts a g p)
        (λ a j ne q. freader a j q)
        (λ j lt. (let g = back.full j lt in inl record { part = g.0; there = g.2; is = λ e among here from. (let b = ffull in absurd (omega arith)) }));
  }
    where
      fholding : (i : ℕ) (y : View) → Holds y → (w : View) × (get_elem? s.views i ≡ some w) × (core y.reading ≡ core w.reading) → IsHolding fheld r.rounds y
      fholding i y has w =
          let a = r.memory.holding i w.0 w.1 (core_holds w.0 y w.2 has) in
          let unit : y.reading.unit ≡ w.0.reading.unit = ap (λ (z : Reading). z.unit) w.2 in record {
            round = ap (λ (z : Reading). z.round) w.2 ∙ a.round ∙ ap (λ (z : ℕ). (r.rounds z).0) (sym unit);
            book = ap (λ (z : Reading). z.book) w.2 ∙ a.book ∙ ap (λ (z : ℕ). (r.rounds z).1) (sym unit);
            starts = subst (λ (h : Held). StartsAt h.got y.reading.unit) (sym fi.held) (subst (StartsAt fh.got) (sym unit) a.starts);
          }

  pub freed_rule : ImageRuled t fz
  freed_rule = record {
    held = fheld;
    owners = r.owners;
    rounds = r.rounds;
    words = homes_on t.key (record { words = s.words; homes = s.homes; views = set s.views id freed_seat }) fheld r.owners fhomes (held_rule t.key s fh r.owners r.words id fv at may.inserts (end_of f) 0);
    memory = fmemory;
  }

-- the inserter gives back the slots of a frame whose memory it has, at the load of any word
pub free : (t : Site) (slots id : ℕ) (m : Mine) (f : Frame) (i : ℕ) → MayFree t f m → Allows (ImageRuled t) slots id m i (λ n. n) (λ n. Frees f m n)
free t slots id m f i may s r homes at fits =
    let g = back t s r id m at f may in (
      freed_seat t s r id m at f may,
      g.act,
      g.valid,
      subst (λ (ws : List ℕ). ImageRuled t record { words = ws; homes = homes_after s.homes m.1 g.act; views = set s.views id (freed_seat t s r id m at f may) }) (sym (set-get_or s.words i 0)) (freed_rule t s r id m at f may),
      (refl, g.rest),
    )
