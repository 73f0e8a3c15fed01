-- Each kind of step keeps the rule.
use Rattle.std.proofs.Common.{◌≡◌, ◌≢◌, ℕ, zero, suc, ◌+◌, ◌-◌, ◌*◌, ◌%◌, ◌<◌, ◌≤◌, ◌⊎◌, inl, inr, ⊎_elim, List, [], ◌∷◌, set, length, cond, ◌==◌, eq-eqb, ne_eqb, sym, refl, ap, ◌∙◌, subst, arith}
use Rattle.std.specs.Prelude.{slice_index}
use Rattle.std.specs.Int.{bit_at}
use Rattle.std.proofs.lemmas.Nat.Bits.{bit_at-lt}
use lib.Seq.{set-get_or}
use mathlib.Core.Option.{Option, some, none, some-injective, some-ne-none}
use mathlib.Core.Logic.{dite}
use native.Mathlib.Decide.{dec_le, ℕ_discrete}
use lib.ListN.{get_elem?}
use Rattle.atomic_table.specs.Table.{Allows, State, gives, homes_after, keeps, takes}
use Rattle.atomic_table.proofs.Lists.{at_set, set_else, set_here}
use Rattle.region.specs.declared.access.ReadAccess.{ReadAccess}
use Rattle.image_rule.specs.declared.view.Frame.{Frame}
use Rattle.image_rule.specs.declared.view.Held.{Held}
use Rattle.image_rule.specs.declared.view.Key.{Key}
use Rattle.image_rule.specs.declared.view.Reading.{Reading}
use Rattle.image_rule.specs.declared.view.Site.{Site}
use Rattle.image_rule.specs.declared.view.View.{View}
use Rattle.image_rule.specs.Frames.{Among, Has, IsPart, StartsAt, end_of, held_place, image_length, ring, slot_of}
use Rattle.image_rule.specs.Rule.{Holds, ImageRuled, IsHolding, IsHome, IsPartAt, IsWithReader, Knows, MemoryRuled, Owners, Rounds, WordsRuled, consumer_place, image_place}
use Rattle.image_rule.specs.Steps.{Changes, Commits, Fetches, FindsPart, Frees, Looks, May, MayCommit, MayFree, MayMove, MayRaise, MayTake, Mine, Moves, Sweeps, TakesPart, TakesSlots, changed, holding, moved_to, told, with_known, with_miss, with_out}
use Rattle.image_rule.proofs.Inserting.{after_look, after_store, look_knows, look_tells, low, stored_rule}
use Rattle.image_rule.proofs.Memory.{IsIdle, Kept, OthersStay, Rises, SameParts, SlotAt, core, core_holds, gives_all, kept_memory, one_seat, one_slot, one_slot_set, slot_low, slots_apart, slots_now, stands_at, takes_all}
use Rattle.image_rule.proofs.Readers.{finds, found, knows_frame, knows_miss, missing, moved_rule, one_frame, up}
use Rattle.image_rule.proofs.Standing.{begins, below_end, stands_there}
use Rattle.image_rule.proofs.Staying.{homes_on, loaded}

-- ---- loads and stores that leave the slots

module _ (t : Site) (s : State ReadAccess View) (r : ImageRuled t s) where
  abbrev words_same : Kept t s r.held r.owners r.words r.rounds r.memory s.words r.held
  words_same = record { further = λ j lt. omega arith; got = refl; freed = refl; out = refl; floor = inl refl }

  -- a load by which a seat learns
  pub learned : (id i : ℕ) (v w : View) → get_elem? s.views id ≡ some v → core w.reading ≡ core v.reading → Knows t.key r.held r.owners s.words id w → ImageRuled t record { words = set s.words i (slice_index s.words i); homes = s.homes; views = set s.views id w }
  learned id i v w at e k = record {
    held = r.held;
    owners = r.owners;
    rounds = r.rounds;
    words = loaded t.key s r.held r.owners r.words id i w k;
    memory = subst (λ (ws : List ℕ). MemoryRuled t (record { words = ws; homes = s.homes; views = set s.views id w }) r.held r.rounds) (sym (set-get_or s.words i 0))
        (kept_memory t s r.held r.owners r.words r.rounds r.memory s.words (set s.views id w) r.held (one_seat t s r.held r.owners r.words r.rounds r.memory id v w at e) words_same);
  }

-- the inserter loads a word of the image
pub fetch : (t : Site) (slots id : ℕ) (m : Mine) (k : ℕ) → m.0.inserting ≡ 1 → k < image_length (ring t.key) → Allows (ImageRuled t) slots id m (image_place + k) (λ n. n) (told (Fetches k) m)
fetch t slots id m k one inside s r homes at fits =
    let v : View = m.0 in let kn = r.words.each id v at in let mine = kn.inserts one in (
      v,
      keeps,
      tt,
      learned t s r id (image_place + k) v v at refl kn,
      (refl, (r.words.mirrors k inside ∙ ap (λ (h : Held). slice_index h.words k) (sym mine.held), refl)),
    )

-- it loads the position of a consumer
pub sweep : (t : Site) (slots id : ℕ) (m : Mine) (j : ℕ) → m.0.inserting ≡ 1 → j < t.key.consumers → Allows (ImageRuled t) slots id m (consumer_place j) (λ n. n) (told (Sweeps j) m)
sweep t slots id m j one inside s r homes at fits =
    let v : View = m.0 in let k = r.words.each id v at in (
      after_look t.key s r.held r.owners r.words id v k one j inside,
      keeps,
      tt,
      learned t s r id (consumer_place j) v (after_look t.key s r.held r.owners r.words id v k one j inside) at refl (look_knows t.key s r.held r.owners r.words id v k one j inside),
      (refl, look_tells t.key s r.held r.owners r.words id v k one j inside),
    )

-- it stores a word of the image, and no frame
pub change : (t : Site) (slots id : ℕ) (m : Mine) (i x floor : ℕ) → i < image_length (ring t.key) → May t.key m.0 i x floor m.0.held.got → MayRaise t.key m.0 floor
    → Allows (ImageRuled t) slots id m (image_place + i) (λ _. x) (λ _. told (λ v n w. Changes i n floor v.held.got v w) m x)
change t slots id m i x floor inside may risen s r homes at fits =
    let v : View = m.0 in let k = r.words.each id v at in let mine = k.inserts may.inserts in
    let w : View = after_store t.key s r.held r.owners r.words id v k i x floor v.held.got inside may in
    let kept : Kept t s r.held r.owners r.words r.rounds r.memory (set s.words (image_place + i) x) w.held = record {
      further = λ j lt. (let e = low t.key s r.held r.owners r.words id v k i x floor v.held.got inside may j lt in omega arith);
      got = ap (λ (h : Held). h.got) mine.held;
      freed = ap (λ (h : Held). h.freed) mine.held;
      out = ap (λ (h : Held). h.out) mine.held;
      floor = rise s r at k;
    } in (
      w,
      keeps,
      tt,
      record {
        held = w.held;
        owners = r.owners;
        rounds = r.rounds;
        words = stored_rule t.key s r.held r.owners r.words id v k i x floor v.held.got inside may;
        memory = kept_memory t s r.held r.owners r.words r.rounds r.memory (set s.words (image_place + i) x) (set s.views id w) w.held (one_seat t s r.held r.owners r.words r.rounds r.memory id v w at refl) kept;
      },
      (refl, refl),
    )
  where
    rise : (s : State ReadAccess View) (r : ImageRuled t s) → get_elem? s.views id ≡ some m.0 → (k : Knows t.key r.held r.owners s.words id m.0) → (floor ≡ r.held.floor) ⊎ Rises t s r.held r.owners r.words r.rounds r.memory (set s.words (image_place + i) x) (changed m.0.held i x floor m.0.held.got)
    rise s r at k = let mine = k.inserts may.inserts in let e = ap (λ (h : Held). h.floor) mine.held in ⊎_elim
        (λ (q : floor ≡ m.0.held.floor). inl (q ∙ e))
        (λ (q : (m.0.held.out ≡ 0) × (m.0.held.floor ≤ floor) × (floor ≤ m.0.held.floor + ring t.key)). ⊎_elim
        (λ (same : floor ≡ m.0.held.floor). inl (same ∙ e))
        (λ (seen : (j : ℕ) → j < length m.0.seen → floor ≤ slice_index m.0.seen j). inr record {
          idle = sym (ap (λ (h : Held). h.out) mine.held) ∙ q.0;
          up = (let b = q.1 in omega arith);
          near = (let b = q.2 in omega arith);
          below = λ j lt. (let n = mine.seen in let a = seen j (omega arith) in let b = k.swept j (omega arith) in omega arith);
        })
        may.seen)
        risen

-- ---- a reader looks

module _ (t : Site) (s : State ReadAccess View) (r : ImageRuled t s) (id : ℕ) (v : View) (at : get_elem? s.views id ≡ some v) (one : v.reading.reads ≡ 1) (has : Has r.held.got v.reading.unit) where
  abbrev hd : Held
  hd = r.held

  abbrev n : ℕ
  n = ring t.key

  abbrev u : ℕ
  u = v.reading.unit

  abbrev number : ℕ
  number = v.reading.number

  k : Knows t.key hd r.owners s.words id v
  k = r.words.each id v at

  few : number < 8
  few = let a = (k.reads one).inside in let b = r.words.is_key.few in omega arith

  from : hd.floor ≤ u
  from = let a = k.reads one in (stands_there t.key s hd r.owners r.words number u a.inside a.position).from

  near : u < hd.floor + n
  near = let a = k.reads one in below_end t.key hd u r.words.is_key r.words.sound (stands_there t.key s hd r.owners r.words number u a.inside a.position)

  pub here : has.frame.unit ≡ u
  here = let a = k.reads one in begins t.key hd u (stands_there t.key s hd r.owners r.words number u a.inside a.position) has

  -- no other seat has this consumer's part
  its_own : ¬ (v.reading.holds ≡ 1) → (w : ℕ) → IsWithReader s w number → ⊥
  its_own none' w a =
      let b = (r.words.each a.seat a.view a.there).reads a.holds.reads in
      let same : a.seat ≡ id = sym b.seat ∙ ap r.owners.sits a.number ∙ (k.reads one).seat in
      let e : a.view ≡ v = some-injective a.view v (sym a.there ∙ subst (λ (x : ℕ). get_elem? s.views x ≡ some v) (sym same) at) in
      none' (ap (λ (x : View). x.reading.holds) (sym e) ∙ a.holds.holds)

  -- its part lies in its slot
  pub at_home : ¬ (v.reading.holds ≡ 1) → IsHome t s hd r.rounds u number
  at_home none' = ⊎_elim (λ h. h) (⊎_elim
      (λ (e : hd.out ≡ suc u). absurd (⊎_elim
      (λ no'. no' record { frame = has.frame; among = has.among; here = here })
      (λ (passed : (j : ℕ) → j < t.key.consumers → 32 * u < slice_index s.words (consumer_place j)). let a = k.reads one in let b = passed number a.inside in let c = a.position in omega arith)
      (r.memory.left u e)))
      (λ w. absurd (its_own none' u w)))
      (r.memory.slots u number from near few)

  freed : hd.freed ≤ u
  freed = let a = k.reads one in let b = r.memory.freed number a.inside in let c = a.position in omega arith

  module _ (none' : ¬ (v.reading.holds ≡ 1)) where
    abbrev home : IsHome t s hd r.rounds u number
    home = at_home none'

    abbrev w : View
    w = holding (with_known v has.frame) (r.rounds u).0 (r.rounds u).1

    abbrev slot : ℕ
    slot = slot_of n u number

    abbrev hs : List (Option ReadAccess)
    hs = set s.homes slot none

    abbrev z : State ReadAccess View
    z = record { words = s.words; homes = hs; views = set s.views id w }

    self : IsWithReader z u number
    self = record { seat = id; view = w; there = set_here s.views id w (there_low s.views id v at); holds = record { reads = one; holds = refl }; number = refl; unit = refl }
      where
        there_low : (l : List View) (i : ℕ) (a : View) → get_elem? l i ≡ some a → i < length l
        there_low [] i a e = absurd (some-ne-none a (sym e))
        there_low (x ∷ xs) zero a e = omega arith
        there_low (x ∷ xs) (suc i) a e = let q = there_low xs i a e in omega arith

    -- who had a part has it still
    still : (a j : ℕ) → IsWithReader s a j → IsWithReader z a j
    still a j q = record {
      seat = q.seat;
      view = q.view;
      there = set_else s.views id q.seat w (λ e. none' (ap (λ (x : View). x.reading.holds) (some-injective v q.view (sym at ∙ subst (λ (x : ℕ). get_elem? s.views x ≡ some q.view) e q.there)) ∙ q.holds.holds)) ∙ q.there;
      holds = q.holds;
      number = q.number;
      unit = q.unit;
    }

    part_memory : MemoryRuled t z hd r.rounds
    part_memory = record {
      shelves = (one_slot_set t s hd r.owners r.words r.rounds r.memory u number none few).long ∙ r.memory.shelves;
      freed = r.memory.freed;
      holding = λ i x there has'. ⊎_elim
          (λ q. subst (IsHolding hd r.rounds) q.1 record { round = refl; book = refl; starts = record { frame = has.frame; among = has.among; here = here } })
          (λ q. r.memory.holding i x q.1 has')
          (at_set s.views id i w x there);
      left = r.memory.left;
      slots = λ a j lo hi lt. dite (ℕ_discrete a u)
          (λ e. dite (ℕ_discrete j number)
          (λ d. inr (inr (subst (λ (p : ℕ × ℕ). IsWithReader z p.0 p.1) (λ i. (sym e i, sym d i)) self)))
          (λ ne. other a j (λ q. ne (slots_apart n a u j number lt few q).1) (r.memory.slots a j lo hi lt)))
          (λ ne. other a j (λ q. ne (one_slot n hd.floor a u lo hi from near (slots_apart n a u j number lt few q).0)) (r.memory.slots a j lo hi lt));
    }
      where
        other : (a j : ℕ) → slot_of n a j ≢ slot → SlotAt t s hd r.rounds a j → SlotAt t z hd r.rounds a j
        other a j ne o = ⊎_elim
            (λ (h : IsHome t s hd r.rounds a j). inl record { part = h.part; there = set_else s.homes slot (slot_of n a j) none ne ∙ h.there; is = h.is })
            (⊎_elim (λ e. inr (inl e)) (λ q. inr (inr (still a j q))))
            o

    pub taken_rule : (i : ℕ) → ImageRuled t record { words = set s.words i (slice_index s.words i); homes = hs; views = set s.views id w }
    taken_rule i = record {
      held = hd;
      owners = r.owners;
      rounds = r.rounds;
      words = homes_on t.key (record { words = set s.words i (slice_index s.words i); homes = s.homes; views = set s.views id w }) hd r.owners hs
          (loaded t.key s hd r.owners r.words id i w (knows_frame t.key s hd r.owners r.words id v k has.frame (r.rounds u).0 (r.rounds u).1 has.among));
      memory = subst (λ (ws : List ℕ). MemoryRuled t (record { words = ws; homes = hs; views = set s.views id w }) hd r.rounds) (sym (set-get_or s.words i 0)) part_memory;
    }

    pub part_is : IsPart n t.region has.frame (r.rounds u).0 (r.rounds u).1 home.part
    part_is = home.is has.frame has.among here freed

  -- it has it already
  pub had_rule : (i : ℕ) → v.reading.holds ≡ 1 → ImageRuled t record { words = set s.words i (slice_index s.words i); homes = s.homes; views = set s.views id (holding (with_known v has.frame) v.reading.round v.reading.book) }
  had_rule i yes' = learned t s r id i v (holding (with_known v has.frame) v.reading.round v.reading.book) at (λ j. record (core v.reading) { holds = sym yes' j })
      (knows_frame t.key s hd r.owners r.words id v k has.frame v.reading.round v.reading.book has.among)

-- a reader loads the word of held bits where it stands
pub look : (t : Site) (slots id : ℕ) (m : Mine) → m.0.reading.reads ≡ 1 → Allows (ImageRuled t) slots id m (image_place + held_place (ring t.key) m.0.reading.unit) (λ n. n) (Looks t m)
look t slots id m one s r homes at fits =
    let v : View = m.0 in let k = r.words.each id v at in let i : ℕ = image_place + held_place (ring t.key) v.reading.unit in let x : ℕ = slice_index s.words i in let b = bit_at-lt x (v.reading.unit % 64) in
    dite (ℕ_discrete (bit_at x (v.reading.unit % 64)) 1)
    (λ yes'. let has = found t.key s r.held r.owners r.words id v k one x refl yes' in dite (ℕ_discrete v.reading.holds 1)
    (λ holds. (
      holding (with_known v has.frame) v.reading.round v.reading.book,
      keeps,
      tt,
      had_rule t s r id v at one has i holds,
      record {
        none = λ z. absurd (omega arith);
        found = λ y. record { found = finds t.key s r.held r.owners r.words id v k one has v.reading.round v.reading.book; has = λ y. (refl, refl, refl); takes = λ z. absurd (omega arith) };
      },
    ))
    (λ bare. (
      holding (with_known v has.frame) (r.rounds v.reading.unit).0 (r.rounds v.reading.unit).1,
      takes (slot_of (ring t.key) v.reading.unit v.reading.number) (at_home t s r id v at one has bare).part,
      (at_home t s r id v at one has bare).there,
      taken_rule t s r id v at one has bare i,
      record {
        none = λ z. absurd (omega arith);
        found = λ y. record {
          found = finds t.key s r.held r.owners r.words id v k one has (r.rounds v.reading.unit).0 (r.rounds v.reading.unit).1;
          has = λ y. absurd (bare y);
          takes = λ z. record {
            part = (at_home t s r id v at one has bare).part;
            is = part_is t s r id v at one has bare;
            after = ap (λ (q : ℕ). (slot_of (ring t.key) q v.reading.number, (at_home t s r id v at one has bare).part) ∷ m.1) (sym (here t s r id v at one has));
          };
        };
      },
    )))
    (λ no'. (
      with_miss v,
      keeps,
      tt,
      learned t s r id i v (with_miss v) at refl (knows_miss t.key s r.held r.owners r.words id v k),
      record { none = λ z. (refl, refl, missing t.key s r.held r.owners r.words id v k one x refl z); found = λ y. absurd (no' y) },
    ))

-- ---- a reader moves on

module _ (t : Site) (s : State ReadAccess View) (r : ImageRuled t s) (id : ℕ) (v : View) (at : get_elem? s.views id ≡ some v) (f : Frame) (mine : List (ℕ × ReadAccess)) (may : MayMove t f (v, mine)) where
  abbrev mk : Knows t.key r.held r.owners s.words id v
  mk = r.words.each id v at

  abbrev mu : ℕ
  mu = v.reading.unit

  abbrev mj : ℕ
  mj = v.reading.number

  abbrev mw : View
  mw = moved_to v (end_of f)

  abbrev part : ReadAccess
  part = may.carries.part

  abbrev mwords : List ℕ
  mwords = set s.words (consumer_place mj) (32 * end_of f)

  abbrev mslot : ℕ
  mslot = slot_of (ring t.key) f.unit mj

  abbrev mhomes : List (Option ReadAccess)
  mhomes = set s.homes mslot (some part)

  abbrev mz : State ReadAccess View
  mz = record { words = mwords; homes = mhomes; views = set s.views id mw }

  m_few : mj < 8
  m_few = let a = (mk.reads may.before.reads).inside in let b = r.words.is_key.few in omega arith

  m_stands : (r.held.floor ≤ mu) × (mu < r.held.floor + ring t.key)
  m_stands = let a = mk.reads may.before.reads in let st = stands_there t.key s r.held r.owners r.words mj mu a.inside a.position in (st.from, below_end t.key r.held mu r.words.is_key r.words.sound st)

  m_among : Among f r.held.got
  m_among = mk.known f may.before.known

  m_has : Holds v
  m_has = record { reads = may.before.reads; holds = may.holds }

  m_holding : IsHolding r.held r.rounds v
  m_holding = r.memory.holding id v at m_has

  m_up : (j : ℕ) → slice_index s.words (consumer_place j) ≤ slice_index mwords (consumer_place j)
  m_up j = up t.key s r.held r.owners r.words id v mk f may.before j

  -- the part is that of the frame at its place
  m_part : IsPartAt t r.held r.rounds mu part
  m_part g among gat from =
      let e : g ≡ f = one_frame t.key s r.held r.owners r.words id v mk f g m_among among (gat ∙ sym may.before.here) in
      subst (λ (x : Frame). IsPart (ring t.key) t.region x (r.rounds mu).0 (r.rounds mu).1 part) (sym e)
      (subst (λ (x : ℕ × ℕ). IsPart (ring t.key) t.region f x.0 x.1 part) (λ i. (m_holding.round i, m_holding.book i)) may.carries.is)

  m_other : (a j : ℕ) → ¬ ((a ≡ mu) × (j ≡ mj)) → IsWithReader s a j → IsWithReader mz a j
  m_other a j ne q = record {
    seat = q.seat;
    view = q.view;
    there = set_else s.views id q.seat mw (λ e. (let same : v ≡ q.view = some-injective v q.view (sym at ∙ subst (λ (x : ℕ). get_elem? s.views x ≡ some q.view) e q.there) in
        ne (sym q.unit ∙ ap (λ (x : View). x.reading.unit) (sym same), sym q.number ∙ ap (λ (x : View). x.reading.number) (sym same)))) ∙ q.there;
    holds = q.holds;
    number = q.number;
    unit = q.unit;
  }

  m_slots : (a j : ℕ) → r.held.floor ≤ a → a < r.held.floor + ring t.key → j < 8 → SlotAt t mz r.held r.rounds a j
  m_slots a j lo hi lt = dite (ℕ_discrete (slot_of (ring t.key) a j) mslot)
      (λ e. let q = slots_apart (ring t.key) a f.unit j mj lt m_few e in
      let same : a ≡ mu = one_slot (ring t.key) r.held.floor a mu lo hi m_stands.0 m_stands.1 (q.0 ∙ ap (λ (x : ℕ). x % ring t.key) may.before.here) in
      inl record {
        part = part;
        there = subst (λ (x : ℕ). get_elem? mhomes x ≡ some (some part)) (sym e) (set_here s.homes mslot (some part) (let l = slot_low (ring t.key) f.unit mj r.words.is_key.some m_few in let h = r.memory.shelves in omega arith));
        is = subst (λ (x : ℕ). IsPartAt t r.held r.rounds x part) (sym same) m_part;
      })
      (λ ne. ⊎_elim
      (λ (h : IsHome t s r.held r.rounds a j). inl record { part = h.part; there = set_else s.homes mslot (slot_of (ring t.key) a j) (some part) ne ∙ h.there; is = h.is })
      (⊎_elim (λ e. inr (inl e)) (λ q. inr (inr (m_other a j (λ p. ne ((λ i. slot_of (ring t.key) (p.0 i) (p.1 i)) ∙ ap (λ (x : ℕ). slot_of (ring t.key) x mj) (sym may.before.here))) q))))
      (r.memory.slots a j lo hi lt))

  pub moved_memory : MemoryRuled t mz r.held r.rounds
  moved_memory = record {
    shelves = (one_slot_set t s r.held r.owners r.words r.rounds r.memory f.unit mj (some part) m_few).long ∙ r.memory.shelves;
    freed = λ j lt. (let a = r.memory.freed j lt in let b = m_up j in omega arith);
    holding = λ i x there has. ⊎_elim
        (λ q. absurd (let h = has.holds in let e : mw.reading.holds ≡ x.reading.holds = ap (λ (y : View). y.reading.holds) q.1 in omega arith))
        (λ q. r.memory.holding i x q.1 has)
        (at_set s.views id i mw x there);
    left = λ a e. ⊎_elim inl (λ (passed : (j : ℕ) → j < t.key.consumers → 32 * a < slice_index s.words (consumer_place j)). inr (λ j lt. (let p = passed j lt in let b = m_up j in omega arith))) (r.memory.left a e);
    slots = m_slots;
  }

  pub moved : ImageRuled t mz
  moved = record {
    held = r.held;
    owners = r.owners;
    rounds = r.rounds;
    words = homes_on t.key (record { words = mwords; homes = s.homes; views = set s.views id mw }) r.held r.owners mhomes (moved_rule t.key s r.held r.owners r.words id v mk f may.before);
    memory = moved_memory;
  }

-- a reader stores the end of the frame that it has a part of, and gives the part back
pub move : (t : Site) (slots id : ℕ) (m : Mine) (f : Frame) (number x : ℕ) → number ≡ m.0.reading.number → x ≡ 32 * end_of f → MayMove t f m → Allows (ImageRuled t) slots id m (consumer_place number) (λ _. x) (λ _. Moves f m x)
move t slots id m f number x is same may s r homes at fits =
    let v : View = m.0 in let g = may.carries.part in let e = may.carries.after in
    let hs : homes_after s.homes m.1 gives ≡ set s.homes (slot_of (ring t.key) f.unit v.reading.number) (some g) = ap (λ (l : List (ℕ × ReadAccess)). homes_after s.homes l gives) e in (
      moved_to v (end_of f),
      gives,
      tt,
      subst (λ (y : ℕ × ℕ × List (Option ReadAccess)). ImageRuled t record { words = set s.words (consumer_place y.0) y.1; homes = y.2; views = set s.views id (moved_to v (end_of f)) }) (λ j. (sym is j, sym same j, sym hs j)) (moved t s r id v at f m.1 may),
      (refl, ap (λ (l : List (ℕ × ReadAccess)). Rattle.atomic_table.specs.Table.rest l) e),
    )
