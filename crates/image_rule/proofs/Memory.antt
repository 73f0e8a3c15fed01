-- What a step leaves of the parts by which frames are read.
use Rattle.std.proofs.Common.{◌≡◌, ◌≢◌, ℕ, zero, suc, ◌+◌, ◌-◌, ◌*◌, ◌%◌, ◌<◌, ◌≤◌, ◌⊎◌, inl, inr, ⊎_elim, List, [], ◌∷◌, ◌++◌, set, length, mod-lt, cond, ◌==◌, eq-eqb, ne_eqb, sym, refl, ap, ◌∙◌, subst, arith}
use Rattle.std.proofs.Math.Nat.{add-mod_right}
use Rattle.std.specs.Prelude.{slice_index}
use mathlib.Core.Option.{Option, some, none, some-injective, some-ne-none}
use mathlib.Core.Logic.{dite}
use native.Mathlib.Decide.{dec_le, ℕ_discrete}
use lib.ListN.{get_elem?}
use Rattle.atomic_table.specs.Table.{Act, State, Valid, chain, carried_after, gives, homes_after, keeps, takes}
use Rattle.atomic_table.proofs.Lists.{at_set, at_snoc, one_turn, set_else, set_here}
use Rattle.region.specs.declared.access.ReadAccess.{ReadAccess}
use Rattle.image_rule.specs.declared.view.Frame.{Frame}
use Rattle.image_rule.specs.declared.view.Held.{Held}
use Rattle.image_rule.specs.declared.view.Key.{Key}
use Rattle.image_rule.specs.declared.view.Reading.{Reading}
use Rattle.image_rule.specs.declared.view.Site.{Site}
use Rattle.image_rule.specs.declared.view.View.{View}
use Rattle.image_rule.specs.Frames.{Among, StartsAt, end_of, ring, slot_of}
use Rattle.image_rule.specs.Rule.{Holds, IsHolding, IsHome, IsLeft, IsPartAt, IsWithReader, MemoryRuled, Owners, Rounds, WordsRuled, consumer_place}
use Rattle.image_rule.specs.Steps.{TakenOver}

-- who reads what, whatever it knows and how often it missed
abbrev pub core : Reading → Reading
core r = record r { misses = 0; known = [] }

pub core_holds : (v w : View) → core w.reading ≡ core v.reading → Holds w → Holds v
core_holds v w e a = record { reads = sym (ap (λ (r : Reading). r.reads) e) ∙ a.reads; holds = sym (ap (λ (r : Reading). r.holds) e) ∙ a.holds }

-- a list's elements are there
there_low : {A : Type 0} (l : List A) (i : ℕ) (a : A) → get_elem? l i ≡ some a → i < length l
there_low [] i a e = absurd (some-ne-none a (sym e))
there_low (x ∷ xs) zero a e = omega arith
there_low (x ∷ xs) (suc i) a e = let r = there_low xs i a e in omega arith

set_long : {A : Type 0} (l : List A) (i : ℕ) (a : A) → length (set l i a) ≡ length l
set_long [] i a = refl
set_long (x ∷ xs) zero a = refl
set_long (x ∷ xs) (suc i) a = ap suc (set_long xs i a)

-- where the value of a slot is one of the units of a window
abbrev pub SlotAt : Site → State ReadAccess View → Held → Rounds → ℕ → ℕ → Type 0
SlotAt t s h rounds u j = IsHome t s h rounds u j ⊎ ((h.out ≡ suc u) ⊎ IsWithReader s u j)

pub slot_low : (n u j : ℕ) → 0 < n → j < 8 → slot_of n u j < 8 * n
slot_low n u j some' lt = let q : ℕ = u % n in let m : q < n = mod-lt u some' in omega arith

pub slots_apart : (n u w j k : ℕ) → j < 8 → k < 8 → slot_of n u j ≡ slot_of n w k → (u % n ≡ w % n) × (j ≡ k)
slots_apart n u w j k a b e = let p : ℕ = u % n in let q : ℕ = w % n in (omega arith, omega arith)

-- two units of one window that share their slots are one
pub one_slot : (n c u w : ℕ) → c ≤ u → u < c + n → c ≤ w → w < c + n → u % n ≡ w % n → u ≡ w
one_slot n c u w a b d e same = dite (dec_le u w) (λ le. one_turn u w n le (omega arith) same) (λ gt. sym (one_turn w u n (omega arith) (omega arith) (sym same)))

module _ (t : Site) (s : State ReadAccess View) (h : Held) (ow : Owners) (r : WordsRuled t.key s h ow) (rounds : Rounds) (m : MemoryRuled t s h rounds) where
  abbrev n : ℕ
  n = ring t.key

  -- where a reader stands
  pub stands_at : (i : ℕ) (v : View) → get_elem? s.views i ≡ some v → v.reading.reads ≡ 1 → (v.reading.number < t.key.consumers) × (slice_index s.words (consumer_place v.reading.number) ≡ 32 * v.reading.unit)
  stands_at i v at one = let a = (r.each i v at).reads one in (a.inside, a.position)

  -- ---- seats change, and no slot

  -- seats after a step: whoever has a part has it still, and nobody else
  pub record SameParts (views : List View) : Type 0 where
    pub still : (i : ℕ) (v : View) → get_elem? s.views i ≡ some v → Holds v → (w : View) × (get_elem? views i ≡ some w) × (core w.reading ≡ core v.reading)
    pub before : (i : ℕ) (w : View) → get_elem? views i ≡ some w → Holds w → (v : View) × (get_elem? s.views i ≡ some v) × (core w.reading ≡ core v.reading)

  -- what is stored and taken back is the same; the floor stays, or rises to where all consumers are
  pub record Rises (words : List ℕ) (k : Held) : Type 0 where
    pub idle : h.out ≡ 0
    pub up : h.floor ≤ k.floor
    pub near : k.floor ≤ h.floor + n
    pub below : (j : ℕ) → j < t.key.consumers → 32 * k.floor ≤ slice_index s.words (consumer_place j)

  pub record Kept (words : List ℕ) (k : Held) : Type 0 where
    pub further : (j : ℕ) → j < t.key.consumers → slice_index s.words (consumer_place j) ≤ slice_index words (consumer_place j)
    pub got : k.got ≡ h.got
    pub freed : k.freed ≡ h.freed
    pub out : k.out ≡ h.out
    pub floor : (k.floor ≡ h.floor) ⊎ Rises words k

  module _ (words : List ℕ) (views : List View) (k : Held) (same : SameParts views) (kept : Kept words k) where
    abbrev z : State ReadAccess View
    z = record { words = words; homes = s.homes; views = views }

    part_on : (u : ℕ) (g : ReadAccess) → IsPartAt t h rounds u g → IsPartAt t k rounds u g
    part_on u g is f a at from = is f (subst (λ (fs : List Frame). Among f fs) kept.got a) at (let e = kept.freed in omega arith)

    with_on : (u j : ℕ) → IsWithReader s u j → IsWithReader z u j
    with_on u j w = let q = same.still w.seat w.view w.there w.holds in let e = q.2 in record {
      seat = w.seat;
      view = q.0;
      there = q.1;
      holds = record { reads = ap (λ (x : Reading). x.reads) e ∙ w.holds.reads; holds = ap (λ (x : Reading). x.holds) e ∙ w.holds.holds };
      number = ap (λ (x : Reading). x.number) e ∙ w.number;
      unit = ap (λ (x : Reading). x.unit) e ∙ w.unit;
    }

    slot_on : (u j : ℕ) → SlotAt t s h rounds u j → SlotAt t z k rounds u j
    slot_on u j o = ⊎_elim
        (λ (a : IsHome t s h rounds u j). inl record { part = a.part; there = a.there; is = part_on u a.part a.is })
        (λ b. inr (⊎_elim (λ (e : h.out ≡ suc u). inl (kept.out ∙ e)) (λ (w : IsWithReader s u j). inr (with_on u j w)) b))
        o

    -- a unit that the window gains has the slots of one that it loses
    gained : (u j : ℕ) → Rises words k → k.floor ≤ u → u < k.floor + n → h.floor + n ≤ u → j < 8 → SlotAt t z k rounds u j
    gained u j rises lo hi far lt =
        let d : ℕ = u - n in let back : d + n ≡ u = omega arith in
        let same_slot : slot_of n d j ≡ slot_of n u j = ap (λ (x : ℕ). 8 * x + j) (sym (add-mod_right d n) ∙ ap (λ (x : ℕ). x % n) back) in
        ⊎_elim
        (λ (a : IsHome t s h rounds d j). inl record {
          part = a.part;
          there = subst (λ (x : ℕ). get_elem? s.homes x ≡ some (some a.part)) same_slot a.there;
          is = λ f among at from. (let b : Among f h.got = subst (λ (fs : List Frame). Among f fs) kept.got among in let near = r.sound.near f b in let full = r.sound.full f b in absurd (omega arith));
        })
        (⊎_elim
        (λ (e : h.out ≡ suc d). let i = rises.idle in absurd (omega arith))
        (λ (w : IsWithReader s d j).
        let p = stands_at w.seat w.view w.there w.holds.reads in let b = rises.below w.view.reading.number p.0 in let q = p.1 in let e = w.unit in absurd (omega arith)))
        (m.slots d j (let up = rises.up in omega arith) (let close = rises.near in omega arith) lt)

    slots_on : (u j : ℕ) → k.floor ≤ u → u < k.floor + n → j < 8 → SlotAt t z k rounds u j
    slots_on u j lo hi lt = ⊎_elim
        (λ (e : k.floor ≡ h.floor). slot_on u j (m.slots u j (omega arith) (omega arith) lt))
        (λ (rises : Rises words k). let up = rises.up in dite (dec_le (h.floor + n) u)
        (λ far. gained u j rises lo hi far lt)
        (λ close. slot_on u j (m.slots u j (omega arith) (omega arith) lt)))
        kept.floor

    pub kept_memory : MemoryRuled t z k rounds
    kept_memory = record {
      shelves = m.shelves;
      freed = λ j lt. (let a = m.freed j lt in let b = kept.further j lt in let e = kept.freed in omega arith);
      holding = λ i w at has. (
          let q = same.before i w at has in let e = q.2 in let a = m.holding i q.0 q.1 (core_holds q.0 w e has) in
          let unit : w.reading.unit ≡ q.0.reading.unit = ap (λ (x : Reading). x.unit) e in record {
            round = ap (λ (x : Reading). x.round) e ∙ a.round ∙ ap (λ (x : ℕ). (rounds x).0) (sym unit);
            book = ap (λ (x : Reading). x.book) e ∙ a.book ∙ ap (λ (x : ℕ). (rounds x).1) (sym unit);
            starts = subst (λ (fs : List Frame). StartsAt fs w.reading.unit) (sym kept.got) (subst (StartsAt h.got) (sym unit) a.starts);
          }
          );
      left = λ u e. ⊎_elim
          (λ no'. inl (λ (st : StartsAt k.got u). no' (subst (λ (fs : List Frame). StartsAt fs u) kept.got st)))
          (λ (passed : (j : ℕ) → j < t.key.consumers → 32 * u < slice_index s.words (consumer_place j)). inr (λ j lt. (let a = passed j lt in let b = kept.further j lt in omega arith)))
          (m.left u (sym kept.out ∙ e));
      slots = slots_on;
    }

  -- ---- one seat's view changes

  pub one_seat : (id : ℕ) (v w : View) → get_elem? s.views id ≡ some v → core w.reading ≡ core v.reading → SameParts (set s.views id w)
  one_seat id v w at e = record {
    still = λ i x there has. dite (ℕ_discrete i id)
        (λ same. (w, subst (λ (y : ℕ). get_elem? (set s.views id w) y ≡ some w) (sym same) (set_here s.views id w (there_low s.views id v at)), e ∙ ap (λ (y : View). core y.reading) (some-injective v x (sym at ∙ subst (λ (y : ℕ). get_elem? s.views y ≡ some x) same there))))
        (λ ne. (x, set_else s.views id i w ne ∙ there, refl));
    before = λ i x there has. ⊎_elim
        (λ q. (v, subst (λ (y : ℕ). get_elem? s.views y ≡ some v) (sym q.0) at, ap (λ (y : View). core y.reading) (sym q.1) ∙ e))
        (λ q. (x, q.1, refl))
        (at_set s.views id i w x there);
  }

  -- one seat's changes, and a new one has no part
  pub seat_more : (id : ℕ) (v w x : View) → get_elem? s.views id ≡ some v → core w.reading ≡ core v.reading → (Holds x → ⊥) → SameParts (set s.views id w ++ x ∷ [])
  seat_more id v w x at e none' = let one = one_seat id v w at e in record {
    still = λ i y there has. (let q = one.still i y there has in (q.0, longer (set s.views id w) i q.0 q.1, q.2));
    before = λ i y there has. ⊎_elim (λ old. one.before i y old has) (λ new. absurd (none' (subst Holds (sym new) has))) (at_snoc (set s.views id w) x y i there);
  }
    where
      longer : (l : List View) (i : ℕ) (a : View) → get_elem? l i ≡ some a → get_elem? (l ++ x ∷ []) i ≡ some a
      longer [] i a e = absurd (some-ne-none a (sym e))
      longer (y ∷ ys) zero a e = e
      longer (y ∷ ys) (suc i) a e = longer ys i a e

  -- one seat's changes, and another is spent that has no part
  pub seat_less : (id : ℕ) (v w : View) (other : ℕ) (x y : View) → get_elem? s.views id ≡ some v → core w.reading ≡ core v.reading → get_elem? (set s.views id w) other ≡ some x → (Holds x → ⊥) → (Holds y → ⊥) → SameParts (set (set s.views id w) other y)
  seat_less id v w other x y at e there none' spent = let one = one_seat id v w at e in record {
    still = λ i a here has. (let q = one.still i a here has in dite (ℕ_discrete i other)
        (λ same. absurd (none' (subst Holds (some-injective q.0 x (sym q.1 ∙ subst (λ (z : ℕ). get_elem? (set s.views id w) z ≡ some x) (sym same) there)) record { reads = ap (λ (z : Reading). z.reads) q.2 ∙ has.reads; holds = ap (λ (z : Reading). z.holds) q.2 ∙ has.holds })))
        (λ ne. (q.0, set_else (set s.views id w) other i y ne ∙ q.1, q.2)));
    before = λ i a here has. ⊎_elim (λ q. absurd (spent (subst Holds (sym q.1) has))) (λ q. one.before i a q.1 has) (at_set (set s.views id w) other i y a here);
  }

  -- ---- a unit's slots change

  -- the slots of other units are as they were
  pub record OthersStay (unit : ℕ) (homes : List (Option ReadAccess)) : Type 0 where
    pub long : length homes ≡ length s.homes
    pub others : (u j : ℕ) → j < 8 → u % n ≢ unit % n → get_elem? homes (slot_of n u j) ≡ get_elem? s.homes (slot_of n u j)

  -- one slot's value is another
  pub one_slot_set : (unit k : ℕ) (a : Option ReadAccess) → k < 8 → OthersStay unit (set s.homes (slot_of n unit k) a)
  one_slot_set unit k a lt = record {
    long = set_long s.homes (slot_of n unit k) a;
    others = λ u j low ne. set_else s.homes (slot_of n unit k) (slot_of n u j) a (λ e. ne (slots_apart n u unit j k low lt e).0);
  }

  -- no slot was out but those of this unit
  abbrev pub IsIdle : ℕ → Type 0
  IsIdle unit = (u : ℕ) → h.out ≡ suc u → u ≡ unit

  module _ (homes : List (Option ReadAccess)) (views : List View) (k : Held) (more : Rounds) (unit : ℕ) (stay : OthersStay unit homes) (floor : k.floor ≡ h.floor)
      (inside : h.floor ≤ unit) (near : unit < h.floor + n) (idle : IsIdle unit) (words : List ℕ)
      (parts : (u : ℕ) (g : ReadAccess) → u ≢ unit → IsPartAt t h rounds u g → IsPartAt t k more u g)
      (readers : (u j : ℕ) → u ≢ unit → IsWithReader s u j → IsWithReader (record { words = words; homes = homes; views = views }) u j)
      (new : (j : ℕ) → j < 8 → SlotAt t (record { words = words; homes = homes; views = views }) k more unit j) where
    abbrev y : State ReadAccess View
    y = record { words = words; homes = homes; views = views }

    pub slots_now : (u j : ℕ) → k.floor ≤ u → u < k.floor + n → j < 8 → SlotAt t y k more u j
    slots_now u j lo hi lt = dite (ℕ_discrete u unit)
        (λ e. subst (λ (x : ℕ). SlotAt t y k more x j) (sym e) (new j lt))
        (λ ne. ⊎_elim
        (λ (a : IsHome t s h rounds u j). inl record { part = a.part; there = stay.others u j lt (λ e. ne (one_slot n h.floor u unit (omega arith) (omega arith) inside near e)) ∙ a.there; is = parts u a.part ne a.is })
        (⊎_elim (λ (e : h.out ≡ suc u). absurd (ne (idle u e))) (λ (w : IsWithReader s u j). inr (inr (readers u j ne w))))
        (m.slots u j (omega arith) (omega arith) lt))

-- ---- eight slots are taken, or given back

module _ (t : Site) where
  abbrev width : ℕ
  width = ring t.key

  -- ---- they are taken

  -- each of the first slots of a unit has a value that is so
  abbrev pub Full : List (Option ReadAccess) → (ReadAccess → Type 0) → ℕ → ℕ → Type 0
  Full hs is u c = (j : ℕ) → j < c → (g : ReadAccess) × is g × (get_elem? hs (slot_of width u j) ≡ some (some g))

  -- taking so many from the first on
  pub record TakesAll (hs : List (Option ReadAccess)) (is : ReadAccess → Type 0) (u c : ℕ) (before : List (ℕ × ReadAccess)) : Type 0 where
    pub act : Act ReadAccess
    pub valid : Valid hs before act
    pub taken : TakenOver t is u c before (carried_after before act)
    pub long : length (homes_after hs before act) ≡ length hs
    pub others : (x : ℕ) → ((j : ℕ) → j < c → x ≢ slot_of width u j) → get_elem? (homes_after hs before act) x ≡ get_elem? hs x

  pub takes_all : (hs : List (Option ReadAccess)) (is : ReadAccess → Type 0) (u c : ℕ) (before : List (ℕ × ReadAccess)) → c ≤ 8 → Full hs is u c → TakesAll hs is u c before
  takes_all hs is u zero before few full = record { act = keeps; valid = tt; taken = refl; long = refl; others = λ x apart. refl }
  takes_all hs is u (suc c) before few full =
      let front = takes_all hs is u c before (omega arith) (λ j lt. full j (omega arith)) in let last = full c (omega arith) in
      let rest = homes_after hs before front.act in let k = slot_of width u c in
      let apart : (j : ℕ) → j < c → k ≢ slot_of width u j = (λ j lt e. let q = slots_apart width u u c j (omega arith) (omega arith) e in let z = q.1 in omega arith) in record {
        act = chain front.act (takes k last.0);
        valid = (front.valid, front.others k apart ∙ last.2);
        taken = (last.0, carried_after before front.act, last.1, front.taken, refl);
        long = set_long rest k none ∙ front.long;
        others = λ x far. set_else rest k x none (far c (omega arith)) ∙ front.others x (λ j lt. far j (omega arith));
      }

  -- ---- they are given back

  pub record GivesAll (hs : List (Option ReadAccess)) (is : ReadAccess → Type 0) (u c : ℕ) (mine : List (ℕ × ReadAccess)) (before : List (ℕ × ReadAccess)) : Type 0 where
    pub act : Act ReadAccess
    pub valid : Valid hs mine act
    pub rest : carried_after mine act ≡ before
    pub long : length (homes_after hs mine act) ≡ length hs
    pub full : Full (homes_after hs mine act) is u c
    pub others : (x : ℕ) → ((j : ℕ) → j < c → x ≢ slot_of width u j) → get_elem? (homes_after hs mine act) x ≡ get_elem? hs x

  pub gives_all : (hs : List (Option ReadAccess)) (is : ReadAccess → Type 0) (u c : ℕ) (mine before : List (ℕ × ReadAccess)) → c ≤ 8 → 0 < width → length hs ≡ 8 * width → TakenOver t is u c before mine → GivesAll hs is u c mine before
  gives_all hs is u zero mine before few some' long taken = record { act = keeps; valid = tt; rest = taken; long = refl; full = λ j lt. absurd (omega arith); others = λ x apart. refl }
  gives_all hs is u (suc c) mine before few some' long taken =
      let g = taken.0 in let others = taken.1 in let k = slot_of width u c in let hs' = set hs k (some g) in
      let back = gives_all hs' is u c others before (omega arith) some' (set_long hs k (some g) ∙ long) taken.3 in
      let apart : (j : ℕ) → j < c → k ≢ slot_of width u j = (λ j lt e. let q = slots_apart width u u c j (omega arith) (omega arith) e in let z = q.1 in omega arith) in
      let made : GivesAll hs is u (suc c) ((k, g) ∷ others) before = record {
        act = chain gives back.act;
        valid = (tt, back.valid);
        rest = back.rest;
        long = back.long ∙ set_long hs k (some g);
        full = λ j lt. dite (ℕ_discrete j c)
            (λ e. (g, taken.2, subst (λ (x : ℕ). get_elem? (homes_after hs' others back.act) (slot_of width u x) ≡ some (some g)) (sym e) (back.others k apart ∙ set_here hs k (some g) (let l = slot_low width u c some' (omega arith) in omega arith))))
            (λ ne. back.full j (omega arith));
        others = λ x far. back.others x (λ j lt. far j (omega arith)) ∙ set_else hs k x (some g) (far c (omega arith));
      } in subst (λ (l : List (ℕ × ReadAccess)). GivesAll hs is u (suc c) l before) (sym taken.4) made
