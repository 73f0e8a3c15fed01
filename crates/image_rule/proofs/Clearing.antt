-- Consumers are looked at one after the other, and the bits of what all have left are cleared word by word.
use Rattle.std.proofs.Common.{◌≡◌, ◌≢◌, ℕ, suc, ◌+◌, ◌-◌, ◌/◌, ◌%◌, ◌<◌, ◌≤◌, inl, ⊎_elim, List, set, min, length, length-set, sym, refl, ap, ◌∙◌, subst, arith, get_or-set_same, get_or-set_other}
use Rattle.std.specs.Prelude.{bit_and, slice_index}
use Rattle.std.specs.Int.{bit_at, bit_not, w64}
use Rattle.std.proofs.lemmas.Nat.Bits.{bit_at-lt, bit_at-zero, bit_at_and, bit_at_not}
use mathlib.Core.Logic.{dite}
use native.Mathlib.Decide.{dec_le, ℕ_discrete}
use Rattle.image_rule.specs.declared.view.Frame.{Frame}
use Rattle.image_rule.specs.declared.view.Held.{Held}
use Rattle.image_rule.specs.declared.view.Key.{Key}
use Rattle.image_rule.specs.declared.view.View.{View}
use Rattle.image_rule.specs.Frames.{Among, Has, end_of, held_bit, held_place, ring, start_place}
use Rattle.image_rule.specs.Rule.{IsKey, Sound}
use Rattle.image_rule.specs.Steps as steps
use Rattle.image_rule.specs.Steps.{May, MayClear, changed}
use Rattle.image_rule.specs.Bits.{AreFree, Cleared, DropsBits, Emptied, InRun, IsExact, IsMarked, IsMask, IsStarted, MayDrop, MayRise, Sweeps, clear_word}
use Rattle.image_rule.proofs.Stores.{before, held_low, may_clear, may_start, other_bit, rest_bit}
use Rattle.image_rule.proofs.Runs.{in_run, run_bit, same_word}
use Rattle.image_rule.proofs.Starts.{past_held, start_from, start_low, started_clear, started_up}

-- ---- the least position

-- the first consumer was seen
pub first_seen : (key : Key) (v : View) (n : ℕ) (w : View) → 0 < length v.seen → length v.looks ≡ length v.seen → steps.Sweeps 0 v n w → Sweeps key v 1 (n / 32) w
first_seen key v n w some long s =
    let is : n / 32 ≡ s.unit = (let e = s.is in omega arith) in
    let here : (j : ℕ) → j ≡ 0 → slice_index (set v.seen 0 s.unit) j ≡ s.unit = λ j z. ap (slice_index (set v.seen 0 s.unit)) z ∙ get_or-set_same v.seen 0 s.unit 0 some in
    subst (λ (x : ℕ × View). Sweeps key v 1 x.0 x.1) (λ j. (sym is j, sym s.after j)) record {
      after = refl;
      all = length-set v.seen 0 s.unit;
      looked = λ j lt. (let z : j ≡ 0 = omega arith in ap (slice_index (set v.looks 0 (suc (slice_index v.looks 0)))) z ∙ get_or-set_same v.looks 0 (suc (slice_index v.looks 0)) 0 (omega arith) ∙ ap (λ (x : ℕ). suc (slice_index v.looks x)) (sym z));
      others = λ j le. get_or-set_other v.looks 0 j (suc (slice_index v.looks 0)) 0 (λ e. omega arith);
      whole = length-set v.looks 0 (suc (slice_index v.looks 0));
      grown = λ j. dite (ℕ_discrete j 0)
          (λ z. let e : slice_index (set v.seen 0 s.unit) j ≡ s.unit = ap (slice_index (set v.seen 0 s.unit)) z ∙ get_or-set_same v.seen 0 s.unit 0 some in let d : slice_index v.seen j ≡ slice_index v.seen 0 = ap (slice_index v.seen) z in let f = s.further in omega arith)
          (λ ne. let e : slice_index (set v.seen 0 s.unit) j ≡ slice_index v.seen j = get_or-set_other v.seen 0 j s.unit 0 ne in omega arith);
      lowest = λ j lt. (let z : j ≡ 0 = omega arith in let e : slice_index (set v.seen 0 s.unit) j ≡ s.unit = ap (slice_index (set v.seen 0 s.unit)) z ∙ get_or-set_same v.seen 0 s.unit 0 some in omega arith);
      one = (0, omega arith, get_or-set_same v.seen 0 s.unit 0 some);
      each = λ j u lt lo hi. (let e = here j (omega arith) in s.reached u lo (omega arith));
      uncut = λ j f lt among below. (let e = here j (omega arith) in let b = s.edge f among (omega arith) in omega arith);
      from = s.from;
      reached = s.reached;
      edge = s.edge;
    }

-- the next one was
pub next_seen : (key : Key) (v w y : View) (i least n : ℕ) → i < length v.seen → length v.looks ≡ length v.seen → Sweeps key v i least w → steps.Sweeps i w n y → Sweeps key v (i + 1) (min least (n / 32)) y
next_seen key v w y i least n lt long a s =
    let is : n / 32 ≡ s.unit = (let e = s.is in omega arith) in
    let held : w.held ≡ v.held = ap (λ (x : View). x.held) a.after in
    let short : i < length w.seen = (let e = a.all in omega arith) in
    let here : slice_index (set w.seen i s.unit) i ≡ s.unit = get_or-set_same w.seen i s.unit 0 short in
    let there : (j : ℕ) → j ≢ i → slice_index (set w.seen i s.unit) j ≡ slice_index w.seen j = λ j ne. get_or-set_other w.seen i j s.unit 0 ne in
    let from : v.held.floor ≤ s.unit = subst (λ (h : Held). h.floor ≤ s.unit) held s.from in
    let reached : (u : ℕ) → v.held.floor ≤ u → u < s.unit → Has v.held.got u = subst (λ (h : Held). (u : ℕ) → h.floor ≤ u → u < s.unit → Has h.got u) held s.reached in
    let edge : (f : Frame) → Among f v.held.got → f.unit < s.unit → end_of f ≤ s.unit = subst (λ (h : Held). (f : Frame) → Among f h.got → f.unit < s.unit → end_of f ≤ s.unit) held s.edge in
    let seen : List ℕ = set w.seen i s.unit in
    subst (λ (x : ℕ × View). Sweeps key v (i + 1) (min least x.0) x.1) (λ j. (sym is j, sym s.after j)) record {
      after = (λ j. record (a.after j) { seen = seen; looks = set w.looks i (suc (slice_index w.looks i)) });
      all = length-set w.seen i s.unit ∙ a.all;
      looked = λ j less. dite (ℕ_discrete j i)
          (λ e. ap (slice_index (set w.looks i (suc (slice_index w.looks i)))) e ∙ get_or-set_same w.looks i (suc (slice_index w.looks i)) 0 (let q = a.whole in omega arith) ∙ ap suc (a.others i (omega arith)) ∙ ap (λ (x : ℕ). suc (slice_index v.looks x)) (sym e))
          (λ ne. get_or-set_other w.looks i j (suc (slice_index w.looks i)) 0 ne ∙ a.looked j (omega arith));
      others = λ j le. get_or-set_other w.looks i j (suc (slice_index w.looks i)) 0 (λ e. omega arith) ∙ a.others j (omega arith);
      whole = length-set w.looks i (suc (slice_index w.looks i)) ∙ a.whole;
      grown = λ j. dite (ℕ_discrete j i)
          (λ e. let q : slice_index seen j ≡ s.unit = ap (slice_index seen) e ∙ here in let d : slice_index w.seen j ≡ slice_index w.seen i = ap (slice_index w.seen) e in let f = s.further in let g = a.grown j in omega arith)
          (λ ne. let q = there j ne in let g = a.grown j in omega arith);
      lowest = λ j less. dite (ℕ_discrete j i)
          (λ e. let q : slice_index seen j ≡ s.unit = ap (slice_index seen) e ∙ here in omega arith)
          (λ ne. let q = there j ne in let b = a.lowest j (omega arith) in omega arith);
      one = dite (dec_le least s.unit)
          (λ le. let o = a.one in (o.0, omega (arith, o.1), (let q = there o.0 (λ e. omega (arith, e, o.1)) in omega (arith, q, o.2))))
          (λ gt. (i, omega arith, omega arith));
      each = λ j u less lo hi. dite (ℕ_discrete j i)
          (λ e. let q : slice_index seen j ≡ s.unit = ap (slice_index seen) e ∙ here in reached u lo (omega arith))
          (λ ne. let q = there j ne in a.each j u (omega arith) lo (omega arith));
      uncut = λ j f less among below. dite (ℕ_discrete j i)
          (λ e. let q : slice_index seen j ≡ s.unit = ap (slice_index seen) e ∙ here in let b = edge f among (omega arith) in omega arith)
          (λ ne. let q = there j ne in let b = a.uncut j f (omega arith) among (omega arith) in omega arith);
      from = (let b = a.from in omega arith);
      reached = λ u lo hi. a.reached u lo (omega arith);
      edge = λ f among less. dite (dec_le least s.unit)
          (λ le. let b = a.edge f among (omega arith) in omega arith)
          (λ gt. let b = edge f among (omega arith) in omega arith);
    }

-- ---- a part of what all have left, in one word: its start bits

module _ (key : Key) (is : IsKey key) (v : View) (one : v.inserting ≡ 1) (exact : IsExact key v.held) (at count : ℕ) (here : at ≡ v.held.floor) (some : 0 < count) (short : at % 64 + count ≤ 64) (near : at + count ≤ v.held.floor + (ring key)) where
  abbrev ks : ℕ
  ks = start_place (ring key) at

  pub may_empty_part : MayDrop key v ks at count v.held.floor v.held.got
  may_empty_part m mask = may_start key v ks (clear_word v.held ks m) is one (start_from key is at) (start_low key is at)

  pub emptied_part : (w : View) → DropsBits v ks at count v.held.floor v.held.got w → Emptied key v (at + count) w
  emptied_part w d = subst (Emptied key v (at + count)) (sym d.after) record {
    after = refl;
    floor = refl;
    got = refl;
    freed = refl;
    out = refl;
    marked = marked_still d.bits;
    started = started_clear key is v.held at count d.bits exact.marked.long here some short near d.mask exact.started;
    sound = (may_empty_part d.bits d.mask).sound exact.sound;
  }
    where
      marked_still : (m : ℕ) → IsMarked key (changed v.held ks (clear_word v.held ks m) v.held.floor v.held.got) 0 0
      marked_still m =
          let e = exact.marked in
          let same : (u : ℕ) → held_bit (ring key) (set v.held.words ks (clear_word v.held ks m)) u ≡ held_bit (ring key) v.held.words u
          = λ u. other_bit key is v.held.words ks (clear_word v.held ks m) u (λ e. (let a = held_low key is u in let b = start_from key is at in omega arith)) in record {
            long = length-set v.held.words ks (clear_word v.held ks m) ∙ e.long;
            joined = e.joined;
            below = e.below;
            set = λ u lo hi o. same u ∙ e.set u lo hi o;
            only = λ u lo hi bit. e.only u lo hi (sym (same u) ∙ bit);
          }

-- ---- and its held bits

module _ (key : Key) (is : IsKey key) (v : View) (one : v.inserting ≡ 1) (exact : IsMarked key v.held 0 0) (at count : ℕ) (started : IsStarted key v.held (at + count) 0 0) (sound : Sound key v.held) (here : at ≡ v.held.floor) (some : 0 < count) (short : at % 64 + count ≤ 64) (near : at + count ≤ v.held.floor + (ring key)) (passed : (j : ℕ) → j < length v.seen → at + count ≤ slice_index v.seen j) where
  abbrev h : Held
  h = v.held

  abbrev k : ℕ
  k = held_place (ring key) at

  module _ (m : ℕ) (mask : IsMask m (at % 64) (at % 64 + count)) where
    abbrev x : ℕ
    x = clear_word v.held k m

    from : v.held.floor ≤ at
    from = omega arith

    gone_bit : (u : ℕ) → InRun at (at + count) u → bit_at x (u % 64) ≡ 0
    gone_bit u r =
        let b = run_bit key is v.held at count m exact.long from near some short mask u r in
        let a = bit_at_and (slice_index v.held.words k) (bit_not w64 m) (u % 64) in let n = bit_at_not w64 m (u % 64) mask.small (omega arith) in omega arith

    rest : (u : ℕ) → at + count ≤ u → u < v.held.floor + (ring key) → held_place (ring key) u ≡ k → bit_at x (u % 64) ≡ held_bit (ring key) v.held.words u
    rest u lo hi place =
        let none : bit_at m (u % 64) ≡ 0 = (let l = bit_at-lt m (u % 64) in dite (ℕ_discrete (bit_at m (u % 64)) 1) (λ y. let r = in_run key is v.held at count m exact.long from near some short mask u (omega arith) hi place y in let c = r.1 in absurd (omega arith)) (λ ne. omega arith)) in
        let a = bit_at_and (slice_index v.held.words k) (bit_not w64 m) (u % 64) in let n = bit_at_not w64 m (u % 64) mask.small (omega arith) in let l = bit_at-lt (slice_index v.held.words k) (u % 64) in
        let e : bit_at x (u % 64) ≡ bit_at (slice_index v.held.words k) (u % 64) = omega arith in
        e ∙ ap (λ (y : ℕ). bit_at (slice_index v.held.words y) (u % 64)) (sym place)

    pub may_clear_part : MayClear key v.held v.seen (at + count) k x
    may_clear_part = record {
      inside = held_low key is at;
      from = omega arith;
      passed = passed;
      near = near;
      there = λ u lo hi. same_word key is u at (let s = short in omega arith);
      gone = λ u lo hi. gone_bit u (omega arith, hi);
      rest = rest;
    }

    pub marked_part : IsMarked key (changed v.held k x (at + count) v.held.got) 0 0
    marked_part = record {
      long = length-set v.held.words k x ∙ exact.long;
      joined = (let j = exact.joined in omega arith);
      below = λ u has. (let b = exact.below u has in omega arith);
      set = λ u lo hi o. ⊎_elim
          (λ (has : Has v.held.got u). (let b = exact.below u has in bit_now u lo b ∙ exact.set u (omega arith) b (inl has)))
          (λ (r : InRun 0 0 u). let e = r.1 in absurd (omega arith))
          o;
      only = λ u lo hi bit. dite (dec_le (v.held.floor + (ring key)) u)
          (λ far. let z = gone_now u far hi in absurd (omega arith))
          (λ close. exact.only u (omega arith) (omega arith) (sym (bit_now u lo (omega arith)) ∙ bit));
    }
      where
        bit_now : (u : ℕ) → at + count ≤ u → u < v.held.floor + (ring key) → held_bit (ring key) (set v.held.words k x) u ≡ held_bit (ring key) v.held.words u
        bit_now u lo hi = rest_bit key is v.held v.seen (at + count) k x may_clear_part exact.long u lo hi

        gone_now : (u : ℕ) → v.held.floor + (ring key) ≤ u → u < at + count + (ring key) → held_bit (ring key) (set v.held.words k x) u ≡ 0
        gone_now u far hi = before key is v.held v.seen (at + count) k x may_clear_part exact.long u far hi

  pub may_drop_part : MayDrop key v k at count (at + count) v.held.got
  may_drop_part m mask = may_clear key v (at + count) k (clear_word v.held k m) is one (may_clear_part m mask)

  pub cleared_part : (w : View) → DropsBits v k at count (at + count) v.held.got w → Cleared key v (at + count) w
  cleared_part w d = subst (Cleared key v (at + count)) (sym d.after) record {
    after = refl;
    floor_is = refl;
    got = refl;
    freed = refl;
    out = refl;
    exact = record {
      sound = (may_drop_part d.bits d.mask).sound sound;
      marked = marked_part d.bits d.mask;
      started = started_up key is v.held (set v.held.words k (clear_word v.held k d.bits)) (at + count) (omega arith) near
          (λ u s. (let n = sound.near s.frame s.among in let f = sound.full s.frame s.among in let e = s.here in omega arith))
          (λ u. past_held key is v.held.words k (clear_word v.held k d.bits) u (held_low key is at)) started;
    };
  }

-- the two one after the other
pub cleared_both : (key : Key) (v w y : View) (low : ℕ) → Emptied key v low w → Cleared key w low y → Cleared key v low y
cleared_both key v w y low e c = record { after = c.after ∙ (λ j. record (e.after j) { held = y.held }); floor_is = c.floor_is; got = c.got ∙ e.got; freed = c.freed ∙ e.freed; out = c.out ∙ e.out; exact = c.exact }

pub cleared_none : (key : Key) (v : View) → IsExact key v.held → Cleared key v v.held.floor v
cleared_none key v e = record { after = refl; floor_is = refl; got = refl; freed = refl; out = refl; exact = e }

pub cleared_on : (key : Key) (v w y : View) (a c : ℕ) → Cleared key v a w → Cleared key w c y → Cleared key v c y
cleared_on key v w y a c p q = record { after = q.after ∙ (λ j. record (p.after j) { held = y.held }); floor_is = q.floor_is; got = q.got ∙ p.got; freed = q.freed ∙ p.freed; out = q.out ∙ p.out; exact = q.exact }

-- where all consumers were seen, the floor may rise to the least
pub may_rise : (key : Key) (v w : View) (least : ℕ) → IsExact key v.held → IsKey key → Sweeps key v (length v.seen) least w → MayRise key w least
may_rise key v w least e is s =
    let held : w.held ≡ v.held = ap (λ (x : View). x.held) s.after in
    let all = s.all in
    record {
      from = subst (λ (h : Held). h.floor ≤ least) (sym held) s.from;
      near = subst (λ (h : Held). least ≤ h.floor + (ring key)) (sym held) (dite (dec_le least v.held.floor)
          (λ le. omega arith)
          (λ gt. let f = s.from in let has = s.reached (least - 1) (omega arith) (omega arith) in let b = e.marked.below (least - 1) has in omega arith));
      passed = λ j lt. s.lowest j (omega arith);
    }

pub exact_seen : (key : Key) (v w : View) (count least : ℕ) → Sweeps key v count least w → IsExact key v.held → IsExact key w.held
exact_seen key v w count least s e = subst (IsExact key) (sym (ap (λ (x : View). x.held) s.after)) e

-- ---- units are tried

-- a word without a bit of a run: none of its units was stored
pub free_part : (key : Key) (h : Held) (at count m : ℕ) → IsKey key → IsExact key h → h.floor ≤ at → at + count ≤ h.floor + (ring key) → 0 < count → at % 64 + count ≤ 64 → IsMask m (at % 64) (at % 64 + count) → bit_and (slice_index h.words (held_place (ring key) at)) m ≡ 0 → AreFree h at (at + count)
free_part key h at count m is e from near some' short mask none u lo hi has =
    let place = same_word key is u at (let s = short in omega arith) in
    let b = run_bit key is h at count m e.marked.long from near some' short mask u (lo, hi) in
    let bit : bit_at (slice_index h.words (held_place (ring key) at)) (u % 64) ≡ 1 = ap (λ (y : ℕ). bit_at (slice_index h.words y) (u % 64)) (sym place) ∙ e.marked.set u (omega arith) (omega arith) (inl has) in
    let a = bit_at_and (slice_index h.words (held_place (ring key) at)) m (u % 64) in
    let z : bit_at (bit_and (slice_index h.words (held_place (ring key) at)) m) (u % 64) ≡ 0 = ap (λ (y : ℕ). bit_at y (u % 64)) none ∙ bit_at-zero (u % 64) in
    absurd (omega arith)

pub free_none : (h : Held) (at : ℕ) → AreFree h at at
free_none h at u lo hi has = absurd (omega arith)

pub free_on : (h : Held) (from at to : ℕ) → AreFree h from at → AreFree h at to → AreFree h from to
free_on h from at to a b u lo hi has = dite (dec_le at u) (λ le. b u le hi has) (λ gt. a u lo (omega arith) has)
