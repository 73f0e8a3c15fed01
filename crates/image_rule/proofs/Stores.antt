-- The four kinds of store keep what was stored.
use Rattle.std.proofs.Common.{◌≡◌, ◌≢◌, ℕ, ◌+◌, ◌-◌, ◌*◌, ◌/◌, ◌%◌, ◌^◌, ◌<◌, ◌≤◌, inl, inr, ⊎_elim, List, ◌∷◌, set, length, length-set, sym, refl, ap, ◌∙◌, subst, arith, get_or-set_same, get_or-set_other, mod-lt}
use Rattle.std.proofs.Math.Nat.{add-mod_right}
use Rattle.std.specs.Prelude.{slice_index}
use Rattle.std.specs.Int.{bit_at}
use mathlib.Core.Logic.{dite}
use native.Mathlib.Decide.{dec_le, ℕ_discrete}
use Rattle.atomic_table.proofs.Lists.{one_turn}
use Rattle.image_rule.specs.declared.view.Frame.{Frame}
use Rattle.image_rule.specs.declared.view.Held.{Held}
use Rattle.image_rule.specs.declared.view.Key.{Key}
use Rattle.image_rule.specs.declared.view.View.{View}
use Rattle.image_rule.specs.Frames.{Among, Covers, Has, IsSpelt, Reached, end_of, held_bit, held_place, image_length, ring}
use Rattle.image_rule.specs.Rule.{IsKey, Sound, Stands}
use Rattle.image_rule.specs.Steps.{IsAhead, Keeps, May, MayClear, MayMark, MayStore, changed}

-- ---- places

module _ (key : Key) (is : IsKey key) where
  abbrev n : ℕ
  n = (ring key)

  pub held_low : (u : ℕ) → held_place (ring key) u < (ring key) / 64
  held_low u = let whole = is.whole in let q : ℕ = u % (ring key) in let m : q < (ring key) = mod-lt u is.some in omega arith

  -- a bit of a word that wasn't stored
  pub other_bit : (ws : List ℕ) (k x u : ℕ) → held_place (ring key) u ≢ k → held_bit (ring key) (set ws k x) u ≡ held_bit (ring key) ws u
  other_bit ws k x u ne = ap (λ (w : ℕ). bit_at w (u % 64)) (get_or-set_other ws k (held_place (ring key) u) x 0 ne)

  pub this_bit : (ws : List ℕ) (k x u : ℕ) → k < length ws → held_place (ring key) u ≡ k → held_bit (ring key) (set ws k x) u ≡ bit_at x (u % 64)
  this_bit ws k x u short e = ap (λ (w : ℕ). bit_at w (u % 64)) (ap (slice_index (set ws k x)) e ∙ get_or-set_same ws k x 0 short)

  held_short : (h : Held) → Sound key h → (k : ℕ) → k < (ring key) / 64 → k < length h.words
  held_short h s k lt = let l = s.long in omega arith

  -- a bit that is set stays
  keeps_bit : (h : Held) (k x u : ℕ) → Sound key h → k < (ring key) / 64 → Keeps key h k x → h.floor ≤ u → u < h.floor + (ring key) → held_bit (ring key) h.words u ≡ 1 → held_bit (ring key) (set h.words k x) u ≡ 1
  keeps_bit h k x u s lt keep from near bit = dite (ℕ_discrete (held_place (ring key) u) k)
      (λ e. this_bit h.words k x u (held_short h s k lt) e ∙ keep u from near e bit)
      (λ ne. other_bit h.words k x u ne ∙ bit)

-- ---- bits are set before a frame is stored

module _ (key : Key) (is : IsKey key) (h : Held) (k x : ℕ) (may : MayMark key h k x) (s : Sound key h) where
  marks_ahead : (u : ℕ) → h.floor ≤ u → u < h.floor + (ring key) → Reached key.join h.got u → held_bit (ring key) (set h.words k x) u ≡ 1 → Has h.got u
  marks_ahead u from near reached bit = dite (ℕ_discrete (held_place (ring key) u) k)
      (λ e. ⊎_elim
      (λ (old : held_bit (ring key) h.words u ≡ 1). s.honest u from near reached old)
      (λ (a : IsAhead key h u). absurd (a.free (reached a.unit a.from a.before)))
      (may.ahead u from near e (sym (this_bit key is h.words k x u (held_short key is h s k may.inside) e) ∙ bit)))
      (λ ne. s.honest u from near reached (sym (other_bit key is h.words k x u ne) ∙ bit))

  pub marks : Sound key (changed h k x h.floor h.got)
  marks = record {
    joined = s.joined;
    long = length-set h.words k x ∙ s.long;
    full = s.full;
    near = s.near;
    fits = s.fits;
    low = s.low;
    spelt = s.spelt;
    apart = s.apart;
    marked = λ f among from. (let a = s.near f among in let b = s.full f among in keeps_bit key is h k x f.unit s may.inside may.keeps from (omega arith) (s.marked f among from));
    honest = marks_ahead;
  }

pub may_mark : (key : Key) (v : View) (k x : ℕ) → IsKey key → v.inserting ≡ 1 → MayMark key v.held k x → May key v k x v.held.floor v.held.got
may_mark key v k x is one may = record {
  inserts = one;
  sound = marks key is v.held k x may;
  grows = λ f a. a;
  stands = λ s y st from. record { from = st.from; reached = st.reached; edge = st.edge };
  seen = inl refl;
}

-- ---- a frame is stored

has_more : (got : List Frame) (f : Frame) (u : ℕ) → Has got u → Has (f ∷ got) u
has_more got f u has = record { frame = has.frame; among = inr has.among; covers = has.covers }

module _ (key : Key) (is : IsKey key) (h : Held) (f : Frame) (k x : ℕ) (may : MayStore key h f k x) (s : Sound key h) where
  inside : k < (ring key) / 64
  inside = subst (λ (y : ℕ). y < (ring key) / 64) may.there (held_low key is f.unit)

  -- the frame, or one that was stored
  each : (P : Frame → Type 0) → P f → ((g : Frame) → Among g h.got → P g) → (g : Frame) → Among g (f ∷ h.got) → P g
  each P mine others g among = ⊎_elim (λ (e : g ≡ f). subst P (sym e) mine) (λ (a : Among g h.got). others g a) among

  apart_now : (g e : Frame) (u : ℕ) → Among g (f ∷ h.got) → Among e (f ∷ h.got) → Covers g u → Covers e u → g ≡ e
  apart_now g e u a b c d = ⊎_elim
      (λ (p : g ≡ f). ⊎_elim
      (λ (q : e ≡ f). p ∙ sym q)
      (λ (q : Among e h.got). absurd (may.free u (subst (λ (y : Frame). Covers y u) p c) record { frame = e; among = q; covers = d }))
      b)
      (λ (p : Among g h.got). ⊎_elim
      (λ (q : e ≡ f). absurd (may.free u (subst (λ (y : Frame). Covers y u) q d) record { frame = g; among = p; covers = c }))
      (λ (q : Among e h.got). s.apart g e u p q c d)
      b)
      a

  pub stores : Sound key (changed h k x h.floor (f ∷ h.got))
  stores = record {
    joined = s.joined;
    long = length-set h.words k x ∙ s.long;
    full = each (λ g. 0 < g.units) may.full s.full;
    near = each (λ g. end_of g < h.floor + (ring key)) may.near s.near;
    fits = each (λ g. length g.bytes ≤ 32 * g.units) may.fits s.fits;
    low = each (λ g. end_of g ≤ 2 ^ 56) may.low s.low;
    spelt = each (IsSpelt key.identity) may.spelt s.spelt;
    apart = apart_now;
    marked = each (λ g. h.floor ≤ g.unit → held_bit (ring key) (set h.words k x) g.unit ≡ 1)
        (λ from. this_bit key is h.words k x f.unit (held_short key is h s k inside) may.there ∙ may.marked)
        (λ g a from. let b = s.near g a in let c = s.full g a in keeps_bit key is h k x g.unit s inside may.keeps from (omega arith) (s.marked g a from));
    honest = λ u from near reached bit. may.honest u from near bit;
  }

  -- nobody stands above a unit that wasn't stored, at or above the floor
  pub stands_still : (u : ℕ) → Stands key h u → Stands key (changed h k x h.floor (f ∷ h.got)) u
  stands_still u st = record {
    from = st.from;
    reached = λ y from lt. has_more h.got f y (st.reached y from lt);
    edge = each (λ g. g.unit < u → end_of g ≤ u)
        (λ lt. let j = s.joined in let a = may.from in let b = may.full in absurd (may.free f.unit (omega arith, omega arith) (st.reached f.unit (omega arith) lt)))
        st.edge;
  }

pub may_store : (key : Key) (v : View) (f : Frame) (k x : ℕ) → IsKey key → v.inserting ≡ 1 → MayStore key v.held f k x → May key v k x v.held.floor (f ∷ v.held.got)
may_store key v f k x is one may = record {
  inserts = one;
  sound = stores key is v.held f k x may;
  grows = λ g a. inr a;
  stands = λ s y st from. stands_still key is v.held f k x may s y st;
  seen = inl refl;
}

-- ---- units that were left are cleared

module _ (key : Key) (is : IsKey key) (h : Held) (seen : List ℕ) (floor k x : ℕ) (may : MayClear key h seen floor k x) (long : length h.words ≡ image_length (ring key)) where
  short_word : k < length h.words
  short_word = let a = may.inside in omega arith

  -- the unit that shares its bit is n before
  pub before : (u : ℕ) → h.floor + (ring key) ≤ u → u < floor + (ring key) → held_bit (ring key) (set h.words k x) u ≡ 0
  before u from lt =
      let d : ℕ = u - (ring key) in let e : d + (ring key) ≡ u = omega arith in let whole = is.whole in
      let there = may.there d (omega arith) (omega arith) in
      let p : u % (ring key) ≡ d % (ring key) = ap (λ (y : ℕ). y % (ring key)) (sym e) ∙ add-mod_right d (ring key) in
      let b : u % 64 ≡ d % 64 = omega arith in
      this_bit key is h.words k x u short_word (ap (λ (y : ℕ). y / 64) p ∙ there) ∙ ap (bit_at x) b ∙ may.gone d (omega arith) (omega arith)

  -- a bit within the old window is as it was
  pub rest_bit : (u : ℕ) → floor ≤ u → u < h.floor + (ring key) → held_bit (ring key) (set h.words k x) u ≡ held_bit (ring key) h.words u
  rest_bit u from near = dite (ℕ_discrete (held_place (ring key) u) k)
      (λ e. this_bit key is h.words k x u short_word e ∙ may.rest u from near e)
      (λ ne. other_bit key is h.words k x u ne)

module _ (key : Key) (is : IsKey key) (h : Held) (seen : List ℕ) (floor k x : ℕ) (may : MayClear key h seen floor k x) (s : Sound key h) where
  pub clears : Sound key (changed h k x floor h.got)
  clears = let up = may.from in record {
    joined = (let a = s.joined in omega arith);
    long = length-set h.words k x ∙ s.long;
    full = s.full;
    near = λ f among. (let a = s.near f among in omega arith);
    fits = s.fits;
    low = s.low;
    spelt = s.spelt;
    apart = s.apart;
    marked = λ f among from. (let a = s.near f among in let b = s.full f among in rest_bit key is h seen floor k x may s.long f.unit from (omega arith) ∙ s.marked f among (omega arith));
    honest = λ u from near reached bit. dite (dec_le (h.floor + (ring key)) u)
        (λ far. let z = before key is h seen floor k x may s.long u far near in absurd (omega arith))
        (λ low. s.honest u (omega arith) (omega arith) reached (sym (rest_bit key is h seen floor k x may s.long u from (omega arith)) ∙ bit));
  }

pub may_clear : (key : Key) (v : View) (floor k x : ℕ) → IsKey key → v.inserting ≡ 1 → MayClear key v.held v.seen floor k x → May key v k x floor v.held.got
may_clear key v floor k x is one may = record {
  inserts = one;
  sound = clears key is v.held v.seen floor k x may;
  grows = λ f a. a;
  stands = λ s y st from. record { from = from; reached = st.reached; edge = st.edge };
  seen = inr may.passed;
}

-- ---- a word of start bits, which readers don't read

module _ (key : Key) (is : IsKey key) (h : Held) (k x : ℕ) (low : (ring key) / 64 ≤ k) (high : k < (ring key) / 64 * 2) where
  start_bits : (u : ℕ) → held_bit (ring key) (set h.words k x) u ≡ held_bit (ring key) h.words u
  start_bits u = other_bit key is h.words k x u (λ e. let a = held_low key is u in omega arith)

  starts : Sound key h → Sound key (changed h k x h.floor h.got)
  starts s = record {
    joined = s.joined;
    long = length-set h.words k x ∙ s.long;
    full = s.full;
    near = s.near;
    fits = s.fits;
    low = s.low;
    spelt = s.spelt;
    apart = s.apart;
    marked = λ f among from. start_bits f.unit ∙ s.marked f among from;
    honest = λ u from near reached bit. s.honest u from near reached (sym (start_bits u) ∙ bit);
  }

pub may_start : (key : Key) (v : View) (k x : ℕ) → IsKey key → v.inserting ≡ 1 → (ring key) / 64 ≤ k → k < (ring key) / 64 * 2 → May key v k x v.held.floor v.held.got
may_start key v k x is one low high = record {
  inserts = one;
  sound = starts key is v.held k x low high;
  grows = λ f a. a;
  stands = λ s y st from. record { from = st.from; reached = st.reached; edge = st.edge };
  seen = inl refl;
}
