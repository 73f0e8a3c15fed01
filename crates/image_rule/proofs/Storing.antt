-- A frame is stored: its words, then the bits behind its first word of bits, then those of the first word.
use Rattle.std.proofs.Common.{◌≡◌, ℕ, ◌+◌, ◌-◌, ◌*◌, ◌/◌, ◌%◌, ◌<◌, ◌≤◌, ◌⊎◌, inl, inr, ⊎_elim, List, ◌∷◌, set, min, length, length-set, sym, refl, ap, ◌∙◌, subst, arith, get_or-set_same, get_or-set_other, mod-lt}
use Rattle.std.specs.Prelude.{slice_index}
use Rattle.std.specs.Int.{bit_at}
use mathlib.Core.Logic.{dite}
use native.Mathlib.Decide.{dec_le, ℕ_discrete}
use Rattle.image_rule.specs.declared.view.Frame.{Frame}
use Rattle.image_rule.specs.declared.view.Held.{Held}
use Rattle.image_rule.specs.declared.view.Key.{Key}
use Rattle.image_rule.specs.declared.view.View.{View}
use Rattle.image_rule.specs.Frames.{Among, Covers, Has, end_of, held_bit, held_place, image_length, ring, start_place}
use Rattle.image_rule.specs.Rule.{IsKey, Sound}
use Rattle.image_rule.specs.Steps.{May, MayStore, changed}
use Rattle.image_rule.specs.Bits.{InRun, IsExact, IsMarked, IsMask, IsStarted, Marked, MayInsert, MaySet, SetsBits, Stored, StoresBits, next_word, rest_end, set_word}
use Rattle.image_rule.proofs.Stores.{held_low, may_mark, may_start, may_store, other_bit, this_bit}
use Rattle.image_rule.proofs.Runs.{keeps, marked_on, marks_part, only_after, set_after}
use Rattle.image_rule.proofs.Starts.{past_held, start_from, start_low, started_more, started_on, started_set}

-- a frame may be inserted still, where nothing was stored since
pub may_on : (key : Key) (h g : Held) (f : Frame) → g.floor ≡ h.floor → g.got ≡ h.got → MayInsert key h f → MayInsert key g f
may_on key h g f e d m = record {
  from = subst (λ (x : ℕ). x ≤ f.unit) (sym e) m.from;
  near = subst (λ (x : ℕ). end_of f < x + (ring key)) (sym e) m.near;
  full = m.full;
  fits = m.fits;
  low = m.low;
  spelt = m.spelt;
  free = λ u c has. m.free u c (subst (λ (x : List Frame). Has x u) d has);
}

pub inserts_on : (v w : View) → w ≡ record v { held = w.held } → v.inserting ≡ 1 → w.inserting ≡ 1
inserts_on v w e one = ap (λ (x : View). x.inserting) e ∙ one

-- whose slots are out, and what was taken back, is nothing to the bits
pub sound_with : (key : Key) (h : Held) (n m : ℕ) → Sound key h → Sound key (record h { freed = m; out = n })
sound_with key h n m s = record {
  joined = s.joined;
  long = s.long;
  full = s.full;
  near = s.near;
  fits = s.fits;
  low = s.low;
  spelt = s.spelt;
  apart = s.apart;
  marked = s.marked;
  honest = s.honest;
}

pub exact_with : (key : Key) (h : Held) (n m : ℕ) → IsExact key h → IsExact key (record h { freed = m; out = n })
exact_with key h n m e = record {
  sound = sound_with key h n m e.sound;
  marked = record { long = e.marked.long; joined = e.marked.joined; below = e.marked.below; set = e.marked.set; only = e.marked.only };
  started = record { set = e.started.set; only = e.started.only };
}

exact_out : (key : Key) (h : Held) (n : ℕ) → IsExact key h → IsExact key (record h { out = n })
exact_out key h n e = exact_with key h n h.freed e

-- ---- its start bit

module _ (key : Key) (is : IsKey key) (v : View) (f : Frame) (one : v.inserting ≡ 1) (may : MayInsert key v.held f) (exact : IsExact key v.held) where
  abbrev ks : ℕ
  ks = start_place (ring key) f.unit

  pub may_set_start : MaySet key v ks f.unit 1 v.held.floor v.held.got
  may_set_start m mask = may_start key v ks (set_word v.held ks m) is one (start_from key is f.unit) (start_low key is f.unit)

  module _ (m : ℕ) (mask : IsMask m (f.unit % 64) (f.unit % 64 + 1)) where
    abbrev begun : Held
    begun = changed v.held ks (set_word v.held ks m) v.held.floor v.held.got

    same_bit : (u : ℕ) → held_bit (ring key) begun.words u ≡ held_bit (ring key) v.held.words u
    same_bit u = other_bit key is v.held.words ks (set_word v.held ks m) u (λ e. (let a = held_low key is u in let b = start_from key is f.unit in omega arith))

    none_yet : IsMarked key begun (next_word f) (next_word f)
    none_yet = let e = exact.marked in record {
      long = length-set v.held.words ks (set_word v.held ks m) ∙ e.long;
      joined = e.joined;
      below = e.below;
      set = λ u from near o. same_bit u ∙ ⊎_elim (λ (h : Has v.held.got u). e.set u from near (inl h)) (λ (r : InRun (next_word f) (next_word f) u). let a = r.0 in let b = r.1 in absurd (omega arith)) o;
      only = λ u from near bit. ⊎_elim (λ (h : Has v.held.got u). inl h) (λ (r : InRun 0 0 u). let b = r.1 in absurd (omega arith)) (e.only u from near (sym (same_bit u) ∙ bit));
    }

    start_near : f.unit < v.held.floor + (ring key)
    start_near = let n = may.near in omega arith

  pub started_now : (w : View) → SetsBits v ks f.unit 1 v.held.floor v.held.got w → Marked key v f (next_word f) (next_word f) w
  started_now w s = subst (Marked key v f (next_word f) (next_word f)) (sym s.after) record {
    after = refl;
    floor = refl;
    got = refl;
    freed = refl;
    out = refl;
    marked = none_yet s.bits s.mask;
    started = started_set key is v.held f.unit s.bits exact.marked.long may.from (start_near s.bits s.mask) s.mask exact.started;
    sound = (may_set_start s.bits s.mask).sound exact.sound;
  }

-- ---- the bits behind its first word of bits

module _ (key : Key) (is : IsKey key) (v w : View) (f : Frame) (one : v.inserting ≡ 1) (may : MayInsert key v.held f) (at count : ℕ) (a : Marked key v f (next_word f) at w) (onward : next_word f ≤ at) (some : 0 < count) (short : at % 64 + count ≤ 64) (inside : at + count ≤ end_of f) where
  may' : MayInsert key w.held f
  may' = may_on key v.held w.held f a.floor a.got may

  low : w.held.floor ≤ at
  low = let b = may'.from in omega arith

  near : at + count ≤ w.held.floor + (ring key)
  near = let b = may'.near in omega arith

  inserts : w.inserting ≡ 1
  inserts = ap (λ (x : View). x.inserting) a.after ∙ one

  pub may_mark_part : MaySet key w (held_place (ring key) at) at count w.held.floor w.held.got
  may_mark_part m mask = may_mark key w (held_place (ring key) at) (set_word w.held (held_place (ring key) at) m) is inserts (marks_part key is w.held at count m a.marked.long low near some short mask f (next_word f) may' (omega arith) onward a.marked)

  pub marked_more : (y : View) → SetsBits w (held_place (ring key) at) at count w.held.floor w.held.got y → Marked key v f (next_word f) (at + count) y
  marked_more y s = subst (Marked key v f (next_word f) (at + count)) (sym s.after) record {
    after = (λ j. record (a.after j) { held = changed w.held (held_place (ring key) at) (set_word w.held (held_place (ring key) at) s.bits) w.held.floor w.held.got });
    floor = a.floor;
    got = a.got;
    freed = a.freed;
    out = a.out;
    marked = marked_on key is w.held at count s.bits a.marked.long low near some short s.mask f (next_word f) may' (omega arith) onward a.marked;
    started = started_on key is w.held (changed w.held (held_place (ring key) at) (set_word w.held (held_place (ring key) at) s.bits) w.held.floor w.held.got) w.held.floor f.unit (f.unit + 1) refl refl (λ u. past_held key is w.held.words (held_place (ring key) at) (set_word w.held (held_place (ring key) at) s.bits) u (held_low key is at)) a.started;
    sound = (may_mark_part s.bits s.mask).sound a.sound;
  }

-- ---- those of the first word

module _ (key : Key) (is : IsKey key) (w : View) (f : Frame) (one : w.inserting ≡ 1) (may : MayInsert key w.held f) (marked : IsMarked key w.held (next_word f) (rest_end f)) (started : IsStarted key w.held w.held.floor f.unit (f.unit + 1)) (sound : Sound key w.held) where
  abbrev count : ℕ
  count = min f.units (64 - f.unit % 64)

  some : 0 < count
  some = let p = may.full in omega arith

  short : f.unit % 64 + count ≤ 64
  short = omega arith

  within : f.unit + count ≤ w.held.floor + (ring key)
  within = let b = may.near in omega arith

  abbrev k : ℕ
  k = held_place (ring key) f.unit

  -- each bit then is of a stored frame
  module _ (m : ℕ) (mask : IsMask m (f.unit % 64) (f.unit % 64 + count)) where
    abbrev words : List ℕ
    words = set w.held.words k (set_word w.held k m)

    mine : (u : ℕ) → Covers f u → Has (f ∷ w.held.got) u
    mine u c = record { frame = f; among = inl refl; covers = c }

    old : (u : ℕ) → Has w.held.got u → Has (f ∷ w.held.got) u
    old u h = record { frame = h.frame; among = inr h.among; covers = h.covers }

    only_now : (u : ℕ) → w.held.floor ≤ u → u < w.held.floor + (ring key) → held_bit (ring key) words u ≡ 1 → Has (f ∷ w.held.got) u
    only_now u a b bit = ⊎_elim
        (λ (o : held_bit (ring key) w.held.words u ≡ 1). ⊎_elim (λ (h : Has w.held.got u). old u h) (λ (r : InRun (next_word f) (rest_end f) u). let lo = r.0 in let hi = r.1 in mine u (omega arith, omega arith)) (marked.only u a b o))
        (λ (r : InRun f.unit (f.unit + count) u). let lo = r.0 in let hi = r.1 in mine u (omega arith, omega arith))
        (only_after key is w.held f.unit count m marked.long may.from within some short mask u a b bit)

    set_now : (u : ℕ) → w.held.floor ≤ u → u < w.held.floor + (ring key) → Has (f ∷ w.held.got) u → held_bit (ring key) words u ≡ 1
    set_now u a b has = set_after key is w.held f.unit count m marked.long may.from within some short mask u
        (⊎_elim
        (λ (e : has.frame ≡ f). (let c : Covers f u = subst (λ (g : Frame). Covers g u) e has.covers in let lo = c.0 in let hi = c.1 in
        dite (dec_le (next_word f) u) (λ far. inl (marked.set u a b (inr (far, omega arith)))) (λ close. inr (lo, omega arith))))
        (λ (g : Among has.frame w.held.got). inl (marked.set u a b (inl record { frame = has.frame; among = g; covers = has.covers })))
        has.among)

    first_bit : bit_at (set_word w.held k m) (f.unit % 64) ≡ 1
    first_bit = let c = some in let p = may.full in let n = may.near in sym (this_bit key is w.held.words k (set_word w.held k m) f.unit (let l = marked.long in let h = held_low key is f.unit in omega arith) refl) ∙ set_now f.unit may.from (omega arith) (mine f.unit (omega arith, omega arith))

    pub may_store_now : MayStore key w.held f k (set_word w.held k m)
    may_store_now = record {
      from = may.from;
      near = may.near;
      full = may.full;
      fits = may.fits;
      low = may.low;
      spelt = may.spelt;
      free = may.free;
      there = refl;
      keeps = keeps key is w.held f.unit count m marked.long may.from within some short mask;
      marked = first_bit;
      honest = only_now;
    }

    pub marked_now : IsMarked key (changed w.held k (set_word w.held k m) w.held.floor (f ∷ w.held.got)) 0 0
    marked_now = record {
      long = length-set w.held.words k (set_word w.held k m) ∙ marked.long;
      joined = marked.joined;
      below = λ u has. ⊎_elim
          (λ (e : has.frame ≡ f). (let c : Covers f u = subst (λ (g : Frame). Covers g u) e has.covers in let hi = c.1 in let n = may.near in omega arith))
          (λ (g : Among has.frame w.held.got). marked.below u record { frame = has.frame; among = g; covers = has.covers })
          has.among;
      set = λ u a b o. ⊎_elim (λ (h : Has (f ∷ w.held.got) u). set_now u a b h) (λ (r : InRun 0 0 u). let hi = r.1 in absurd (omega arith)) o;
      only = λ u a b bit. inl (only_now u a b bit);
    }

  pub may_set_first : MaySet key w k f.unit count w.held.floor (f ∷ w.held.got)
  may_set_first m mask = may_store key w f k (set_word w.held k m) is one (may_store_now m mask)

  pub stored_now : (y : View) → StoresBits w k f.unit count f y → Stored key w f y
  stored_now y s = subst (Stored key w f) (sym s.after) record {
    after = refl;
    floor = refl;
    got = refl;
    freed = refl;
    out = refl;
    exact = exact_out key (changed w.held k (set_word w.held k s.bits) w.held.floor (f ∷ w.held.got)) 0 record {
      sound = (may_set_first s.bits s.mask).sound sound;
      marked = marked_now s.bits s.mask;
      started = started_more key is w.held (set w.held.words k (set_word w.held k s.bits)) f (λ u. past_held key is w.held.words k (set_word w.held k s.bits) u (held_low key is f.unit)) started;
    };
  }

-- ---- one after the other

pub stored_after : (key : Key) (v w x : View) (f : Frame) → Marked key v f (next_word f) (rest_end f) w → Stored key w f x → Stored key v f x
stored_after key v w x f a b = record {
  after = b.after ∙ (λ j. record (a.after j) { held = x.held });
  floor = b.floor ∙ a.floor;
  got = b.got ∙ ap (λ (g : List Frame). f ∷ g) a.got;
  freed = b.freed ∙ a.freed;
  out = b.out;
  exact = b.exact;
}

-- what stands holds from here on
pub marked_self : (key : Key) (v w : View) (f : Frame) (from to : ℕ) → Marked key v f from to w → Marked key w f from to w
marked_self key v w f from to a = record { after = refl; floor = refl; got = refl; freed = refl; out = refl; marked = a.marked; started = a.started; sound = a.sound }

pub marked_after : (key : Key) (v w x : View) (f : Frame) (from to end : ℕ) → Marked key v f from to w → Marked key w f from end x → Marked key v f from end x
marked_after key v w x f from to end a b = record {
  after = b.after ∙ (λ j. record (a.after j) { held = x.held });
  floor = b.floor ∙ a.floor;
  got = b.got ∙ a.got;
  freed = b.freed ∙ a.freed;
  out = b.out ∙ a.out;
  marked = b.marked;
  started = b.started;
  sound = b.sound;
}
