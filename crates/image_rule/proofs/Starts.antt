-- Start bits: which stores leave them, how one is set, and how some are cleared.
use Rattle.std.proofs.Common.{◌≡◌, ◌≢◌, ℕ, ◌+◌, ◌-◌, ◌*◌, ◌/◌, ◌%◌, ◌<◌, ◌≤◌, ◌⊎◌, inl, inr, ⊎_elim, List, ◌∷◌, set, length, sym, refl, ap, ◌∙◌, subst, arith, get_or-set_same, get_or-set_other}
use Rattle.std.proofs.Math.Nat.{add-mod_right}
use Rattle.std.specs.Prelude.{slice_index}
use Rattle.std.specs.Int.{bit_at, bit_not, w64}
use Rattle.std.proofs.lemmas.Nat.Bits.{bit_at-lt, bit_at_and, bit_at_not, bit_at_or}
use mathlib.Core.Logic.{dite}
use native.Mathlib.Decide.{dec_le, ℕ_discrete}
use Rattle.image_rule.specs.declared.view.Frame.{Frame}
use Rattle.image_rule.specs.declared.view.Held.{Held}
use Rattle.image_rule.specs.declared.view.Key.{Key}
use Rattle.image_rule.specs.Frames.{Among, StartsAt, held_place, image_length, ring, start_bit, start_place}
use Rattle.image_rule.specs.Rule.{IsKey}
use Rattle.image_rule.specs.Steps.{changed}
use Rattle.image_rule.specs.Bits.{InRun, IsMask, IsStarted, clear_word, set_word}
use Rattle.image_rule.proofs.Stores.{held_low}
use Rattle.image_rule.proofs.Runs.{in_run, one_unit, run_bit, same_word}

module _ (key : Key) (is : IsKey key) where
  pub start_from : (u : ℕ) → (ring key) / 64 ≤ start_place (ring key) u
  start_from u = omega arith

  pub start_low : (u : ℕ) → start_place (ring key) u < (ring key) / 64 * 2
  start_low u = let h = held_low key is u in omega arith

  pub other_start : (ws : List ℕ) (k x u : ℕ) → start_place (ring key) u ≢ k → start_bit (ring key) (set ws k x) u ≡ start_bit (ring key) ws u
  other_start ws k x u ne = ap (λ (w : ℕ). bit_at w (u % 64)) (get_or-set_other ws k (start_place (ring key) u) x 0 ne)

  pub this_start : (ws : List ℕ) (k x u : ℕ) → k < length ws → start_place (ring key) u ≡ k → start_bit (ring key) (set ws k x) u ≡ bit_at x (u % 64)
  this_start ws k x u short e = ap (λ (w : ℕ). bit_at w (u % 64)) (ap (slice_index (set ws k x)) e ∙ get_or-set_same ws k x 0 short)

  -- where a word of held bits was stored
  pub past_held : (ws : List ℕ) (k x u : ℕ) → k < (ring key) / 64 → start_bit (ring key) (set ws k x) u ≡ start_bit (ring key) ws u
  past_held ws k x u lt = other_start ws k x u (λ e. let f = start_from u in omega arith)

  -- the bits, the floor and the frames are the same
  pub started_on : (h g : Held) (low from to : ℕ) → g.floor ≡ h.floor → g.got ≡ h.got → ((u : ℕ) → start_bit (ring key) g.words u ≡ start_bit (ring key) h.words u) → IsStarted key h low from to → IsStarted key g low from to
  started_on h g low from to e d same s = record {
    set = λ u lo hi o. same u ∙ s.set u lo (let x = e in omega arith) (subst (λ (fs : List Frame). StartsAt fs u ⊎ InRun from to u) d o);
    only = λ u lo hi bit. (let x = e in subst (λ (fs : List Frame). (low ≤ u) × (StartsAt fs u ⊎ InRun from to u)) (sym d) (s.only u (omega arith) (omega arith) (sym (same u) ∙ bit)));
  }

  same_held : (u w : ℕ) → start_place (ring key) u ≡ start_place (ring key) w → held_place (ring key) u ≡ held_place (ring key) w
  same_held u w e = omega arith

  same_start : (u w : ℕ) → held_place (ring key) u ≡ held_place (ring key) w → start_place (ring key) u ≡ start_place (ring key) w
  same_start u w e = omega arith

  here : (h : Held) (k u : ℕ) → start_place (ring key) u ≡ k → start_bit (ring key) h.words u ≡ bit_at (slice_index h.words k) (u % 64)
  here h k u e = ap (λ (y : ℕ). bit_at (slice_index h.words y) (u % 64)) e

  -- ---- a frame's bit is set

  module _ (h : Held) (at m : ℕ) (long : length h.words ≡ image_length (ring key)) (from : h.floor ≤ at) (near : at < h.floor + (ring key)) (mask : IsMask m (at % 64) (at % 64 + 1)) (old : IsStarted key h h.floor 0 0) where
    abbrev k : ℕ
    k = start_place (ring key) at

    abbrev x : ℕ
    x = set_word h k m

    short : k < length h.words
    short = let l = start_low at in omega arith

    bits : (b : ℕ) → (bit_at x b ≡ 1) → (bit_at (slice_index h.words k) b ≡ 1) ⊎ (bit_at m b ≡ 1)
    bits b e = let o = bit_at_or (slice_index h.words k) m b in let l = bit_at-lt (slice_index h.words k) b in let r = bit_at-lt m b in
        dite (ℕ_discrete (bit_at m b) 1) (λ y. inr y) (λ ne. inl (omega arith))

    -- the one unit of the mask
    alone : (u : ℕ) → h.floor ≤ u → u < h.floor + (ring key) → start_place (ring key) u ≡ k → bit_at m (u % 64) ≡ 1 → u ≡ at
    alone u lo hi place bit = dite (ℕ_discrete (u % 64) (at % 64))
        (λ e. one_unit key is h.floor u at lo hi from near (same_held u at place) e)
        (λ ne. let z = mask.outside (u % 64) (dite (dec_le (at % 64) (u % 64)) (λ le. inr (omega arith)) (λ gt. inl (omega arith))) in absurd (omega arith))

    mine : bit_at m (at % 64) ≡ 1
    mine = mask.inside (at % 64) (omega arith) (omega arith)

    set_now : (u : ℕ) → h.floor ≤ u → u < h.floor + (ring key) → StartsAt h.got u ⊎ InRun at (at + 1) u → start_bit (ring key) (set h.words k x) u ≡ 1
    set_now u lo hi o = dite (ℕ_discrete (start_place (ring key) u) k)
        (λ e. this_start h.words k x u short e ∙ ⊎_elim
        (λ (s : StartsAt h.got u). let b = sym (here h k u e) ∙ old.set u lo hi (inl s) in let j = bit_at_or (slice_index h.words k) m (u % 64) in let r = bit_at-lt m (u % 64) in omega arith)
        (λ (r : InRun at (at + 1) u). let a = r.0 in let b = r.1 in let same : u ≡ at = omega arith in
        ap (λ (w : ℕ). bit_at (set_word h (start_place (ring key) at) m) (w % 64)) same ∙ (let j = bit_at_or (slice_index h.words k) m (at % 64) in let l = bit_at-lt (slice_index h.words k) (at % 64) in let y = mine in omega arith))
        o)
        (λ ne. other_start h.words k x u ne ∙ ⊎_elim
        (λ (s : StartsAt h.got u). old.set u lo hi (inl s))
        (λ (r : InRun at (at + 1) u). let a = r.0 in let b = r.1 in let same : u ≡ at = omega arith in absurd (ne (ap (start_place (ring key)) same)))
        o)

    only_now : (u : ℕ) → h.floor ≤ u → u < h.floor + (ring key) → start_bit (ring key) (set h.words k x) u ≡ 1 → (h.floor ≤ u) × (StartsAt h.got u ⊎ InRun at (at + 1) u)
    only_now u lo hi bit = (
      lo,
      dite (ℕ_discrete (start_place (ring key) u) k)
          (λ e. ⊎_elim
          (λ (b : bit_at (slice_index h.words k) (u % 64) ≡ 1). stays u (old.only u lo hi (here h k u e ∙ b)).1)
          (λ (b : bit_at m (u % 64) ≡ 1). let same = alone u lo hi e b in inr (omega arith, omega arith))
          (bits (u % 64) (sym (this_start h.words k x u short e) ∙ bit)))
          (λ ne. stays u (old.only u lo hi (sym (other_start h.words k x u ne) ∙ bit)).1),
    )
      where
        stays : (u : ℕ) → StartsAt h.got u ⊎ InRun 0 0 u → StartsAt h.got u ⊎ InRun at (at + 1) u
        stays u o = ⊎_elim (λ (s : StartsAt h.got u). inl s) (λ (r : InRun 0 0 u). let b = r.1 in absurd (omega arith)) o

    pub started_set : IsStarted key (changed h k x h.floor h.got) h.floor at (at + 1)
    started_set = record { set = set_now; only = only_now }

  -- ---- bits from the floor on are cleared

  module _ (h : Held) (at count m : ℕ) (long : length h.words ≡ image_length (ring key)) (floor : at ≡ h.floor) (some : 0 < count) (one : at % 64 + count ≤ 64) (near : at + count ≤ h.floor + (ring key)) (mask : IsMask m (at % 64) (at % 64 + count)) (old : IsStarted key h h.floor 0 0) where
    abbrev kc : ℕ
    kc = start_place (ring key) at

    abbrev xc : ℕ
    xc = clear_word h kc m

    short_c : kc < length h.words
    short_c = let l = start_low at in omega arith

    from_c : h.floor ≤ at
    from_c = omega arith

    set_clear : (u : ℕ) → at + count ≤ u → u < h.floor + (ring key) → StartsAt h.got u ⊎ InRun 0 0 u → start_bit (ring key) (set h.words kc xc) u ≡ 1
    set_clear u lo hi o =
        let was = old.set u (omega arith) hi o in
        dite (ℕ_discrete (start_place (ring key) u) kc)
        (λ e.
        let none : bit_at m (u % 64) ≡ 0 = (let l = bit_at-lt m (u % 64) in dite (ℕ_discrete (bit_at m (u % 64)) 1) (λ y. let r = in_run key is h at count m long from_c near some one mask u (omega arith) hi (same_held u at e) y in let c = r.1 in absurd (omega arith)) (λ ne. omega arith)) in
        let b = sym (here h kc u e) ∙ was in
        let a = bit_at_and (slice_index h.words kc) (bit_not w64 m) (u % 64) in let n = bit_at_not w64 m (u % 64) mask.small (omega arith) in
        this_start h.words kc xc u short_c e ∙ omega arith)
        (λ ne. other_start h.words kc xc u ne ∙ was)

    only_clear : (u : ℕ) → h.floor ≤ u → u < h.floor + (ring key) → start_bit (ring key) (set h.words kc xc) u ≡ 1 → (at + count ≤ u) × (StartsAt h.got u ⊎ InRun 0 0 u)
    only_clear u lo hi bit =
        dite (ℕ_discrete (start_place (ring key) u) kc)
        (λ e.
        let now = sym (this_start h.words kc xc u short_c e) ∙ bit in
        let a = bit_at_and (slice_index h.words kc) (bit_not w64 m) (u % 64) in let n = bit_at_not w64 m (u % 64) mask.small (omega arith) in let l = bit_at-lt (slice_index h.words kc) (u % 64) in let r = bit_at-lt m (u % 64) in
        let was : bit_at (slice_index h.words kc) (u % 64) ≡ 1 = omega arith in (
          dite (dec_le (at + count) u) (λ le. le) (λ gt. let c = run_bit key is h at count m long from_c near some one mask u (omega arith, omega arith) in absurd (omega arith)),
          (old.only u lo hi (here h kc u e ∙ was)).1,
        ))
        (λ ne. let was = old.only u lo hi (sym (other_start h.words kc xc u ne) ∙ bit) in
        (dite (dec_le (at + count) u) (λ le. le) (λ gt. absurd (ne (same_start u at (same_place u (omega arith) (omega arith))))), was.1))
      where
        same_place : (u : ℕ) → at ≤ u → u < at + count → held_place (ring key) u ≡ held_place (ring key) at
        same_place u a b = same_word key is u at (omega arith)

    pub started_clear : IsStarted key (changed h kc xc h.floor h.got) (at + count) 0 0
    started_clear = record { set = set_clear; only = only_clear }

  -- the floor rises to where they were cleared
  pub started_up : (h : Held) (ws : List ℕ) (floor : ℕ) → h.floor ≤ floor → floor ≤ h.floor + (ring key) → ((u : ℕ) → StartsAt h.got u → u < h.floor + (ring key)) → ((u : ℕ) → start_bit (ring key) ws u ≡ start_bit (ring key) h.words u) → IsStarted key h floor 0 0
      → IsStarted key (record h { floor = floor; words = ws }) floor 0 0
  started_up h ws floor up reach below same old = record {
    set = λ u lo hi o. ⊎_elim (λ (s : StartsAt h.got u). same u ∙ old.set u lo (below u s) (inl s)) (λ (r : InRun 0 0 u). let b = r.1 in absurd (omega arith)) o;
    only = λ u lo hi bit. dite (dec_le (h.floor + (ring key)) u)
        (λ far. let d : ℕ = u - (ring key) in let a = old.only d (omega arith) (omega arith) (turned d u (omega arith) ∙ sym (same u) ∙ bit) in let b = a.0 in absurd (omega arith))
        (λ close. old.only u (omega arith) (omega arith) (sym (same u) ∙ bit));
  }
    where
      -- the unit that shares its bit is a ring before
      turned : (d u : ℕ) → d + (ring key) ≡ u → start_bit (ring key) h.words d ≡ start_bit (ring key) h.words u
      turned d u e =
          let whole = is.whole in
          let p : d % (ring key) ≡ u % (ring key) = sym (add-mod_right d (ring key)) ∙ ap (λ (y : ℕ). y % (ring key)) e in
          let b : d % 64 ≡ u % 64 = omega arith in
          (λ j. bit_at (slice_index h.words ((ring key) / 64 + p j / 64)) (b j))

  -- the frame whose bit was set is stored
  pub started_more : (h : Held) (ws : List ℕ) (f : Frame) → ((u : ℕ) → start_bit (ring key) ws u ≡ start_bit (ring key) h.words u) → IsStarted key h h.floor f.unit (f.unit + 1) → IsStarted key (record h { got = f ∷ h.got; words = ws }) h.floor 0 0
  started_more h ws f same old = record {
    set = λ u lo hi o. ⊎_elim
        (λ (s : StartsAt (f ∷ h.got) u). same u ∙ old.set u lo hi (⊎_elim
        (λ (e : s.frame ≡ f). let a = s.here in let b = ap (λ (g : Frame). g.unit) e in inr (omega arith, omega arith))
        (λ (g : Among s.frame h.got). inl record { frame = s.frame; among = g; here = s.here })
        s.among))
        (λ (r : InRun 0 0 u). let b = r.1 in absurd (omega arith))
        o;
    only = λ u lo hi bit. (
      lo,
      inl (⊎_elim
          (λ (s : StartsAt h.got u). record { frame = s.frame; among = inr s.among; here = s.here })
          (λ (r : InRun f.unit (f.unit + 1) u). let a = r.0 in let b = r.1 in record { frame = f; among = inl refl; here = omega arith })
          (old.only u lo hi (sym (same u) ∙ bit)).1),
    );
  }
