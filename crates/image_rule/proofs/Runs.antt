-- Bits of a run of units within one word.
use Rattle.std.proofs.Common.{◌≡◌, ℕ, ◌+◌, ◌-◌, ◌*◌, ◌/◌, ◌%◌, ◌<◌, ◌≤◌, ◌⊎◌, inl, inr, ⊎_elim, set, length, length-set, sym, ap, ◌∙◌, arith, mod-lt, div-add-mod'}
use Rattle.std.proofs.Math.Nat.{mul_left_comm}
use Rattle.std.proofs.lemmas.Nat.{mod-mul-add}
use Rattle.std.specs.Prelude.{bit_or, slice_index}
use Rattle.std.specs.Int.{bit_at}
use Rattle.std.proofs.lemmas.Nat.Bits.{bit_at-lt, bit_at_or}
use mathlib.Core.Logic.{dite}
use native.Mathlib.Decide.{dec_le, ℕ_discrete}
use Rattle.atomic_table.proofs.Lists.{one_turn}
use Rattle.image_rule.specs.declared.view.Frame.{Frame}
use Rattle.image_rule.specs.declared.view.Held.{Held}
use Rattle.image_rule.specs.declared.view.Key.{Key}
use Rattle.image_rule.specs.Frames.{Has, held_bit, held_place, image_length, ring}
use Rattle.image_rule.specs.Rule.{IsKey}
use Rattle.image_rule.specs.Steps.{IsAhead, Keeps, MayMark, changed}
use Rattle.image_rule.specs.Bits.{InRun, IsMarked, IsMask, MayInsert}
use Rattle.image_rule.proofs.Stores.{held_low, other_bit, this_bit}

-- ---- a unit's place in a ring of whole words

-- a unit by its word and its bit
split : (n u : ℕ) → 0 < n → n % 64 ≡ 0 → u % n ≡ 64 * (u / 64 % (n / 64)) + u % 64
split n u pos whole =
    let q : ℕ = n / 64 in let a : ℕ = u / 64 in let qp : 0 < q = omega arith in
    let c : ℕ = a / q * q in let d : ℕ = a % q in
    let e : c + d ≡ a = div-add-mod' a q in let lt : d < q = mod-lt a qp in
    let r : ℕ = 64 * d + u % 64 in
    let nq : n ≡ 64 * q = omega arith in
    let f : u ≡ 64 * c + r = omega arith in
    let g : 64 * c ≡ a / q * n = times (a / q) q n nq in
    ap (λ (x : ℕ). x % n) (f ∙ ap (λ (x : ℕ). x + r) g) ∙ mod-mul-add (a / q) n r (omega arith)
  where
    times : (k q n : ℕ) → n ≡ 64 * q → 64 * (k * q) ≡ k * n
    times k q n e = mul_left_comm 64 k q ∙ ap (λ (x : ℕ). k * x) (sym e)

module _ (key : Key) (is : IsKey key) where
  place_is : (u : ℕ) → held_place (ring key) u ≡ u / 64 % ((ring key) / 64)
  place_is u = let s = split (ring key) u is.some is.whole in let m : ℕ = u % (ring key) in let d : ℕ = u / 64 % ((ring key) / 64) in let s' : m ≡ 64 * d + u % 64 = s in omega arith

  pub same_word : (u w : ℕ) → u / 64 ≡ w / 64 → held_place (ring key) u ≡ held_place (ring key) w
  same_word u w e = place_is u ∙ ap (λ (x : ℕ). x % ((ring key) / 64)) e ∙ sym (place_is w)

  -- within a ring, a unit is known by its word and its bit
  pub one_unit : (c u w : ℕ) → c ≤ u → u < c + (ring key) → c ≤ w → w < c + (ring key) → held_place (ring key) u ≡ held_place (ring key) w → u % 64 ≡ w % 64 → u ≡ w
  one_unit c u w a b d e place bit =
      let p = place_is u in let q = place_is w in let su = split (ring key) u is.some is.whole in let sw = split (ring key) w is.some is.whole in
      let x : ℕ = u / 64 % ((ring key) / 64) in let y : ℕ = w / 64 % ((ring key) / 64) in
      let same : u % (ring key) ≡ w % (ring key) = su ∙ (λ j. 64 * (sym p ∙ place ∙ q) j + bit j) ∙ sym sw in
      dite (dec_le u w) (λ le. one_turn u w (ring key) le (omega arith) same) (λ gt. sym (one_turn w u (ring key) (omega arith) (omega arith) (sym same)))

  module _ (h : Held) (at count m : ℕ) (long : length h.words ≡ image_length (ring key)) (from : h.floor ≤ at) (near : at + count ≤ h.floor + (ring key)) (some : 0 < count) (one : at % 64 + count ≤ 64) (mask : IsMask m (at % 64) (at % 64 + count)) where
    abbrev k : ℕ
    k = held_place (ring key) at

    abbrev x : ℕ
    x = bit_or (slice_index h.words k) m

    short : k < length h.words
    short = let a = held_low key is at in omega arith

    -- a bit of the mask is that of a unit of the run
    pub in_run : (u : ℕ) → h.floor ≤ u → u < h.floor + (ring key) → held_place (ring key) u ≡ k → bit_at m (u % 64) ≡ 1 → InRun at (at + count) u
    in_run u a b place bit =
        dite (dec_le (at % 64) (u % 64))
        (λ le. dite (dec_le (at % 64 + count) (u % 64))
        (λ far. let z = mask.outside (u % 64) (inr far) in absurd (omega arith))
        (λ lt. let w : ℕ = at - at % 64 + u % 64 in let ww : w / 64 ≡ at / 64 = omega arith in let e : u ≡ w = one_unit h.floor u w a b (omega arith) (omega arith) (place ∙ sym (same_word w at ww)) (omega arith) in (omega arith, omega arith)))
        (λ gt. let z = mask.outside (u % 64) (inl (omega arith)) in absurd (omega arith))

    pub run_word : (u : ℕ) → InRun at (at + count) u → held_place (ring key) u ≡ k
    run_word u r = let a = r.0 in let b = r.1 in same_word u at (omega arith)

    pub run_bit : (u : ℕ) → InRun at (at + count) u → bit_at m (u % 64) ≡ 1
    run_bit u r = let a = r.0 in let b = r.1 in mask.inside (u % 64) (omega arith) (omega arith)

    -- a bit of the word that is set
    word_bit : (b : ℕ) → bit_at x b ≡ 1 → (bit_at (slice_index h.words k) b ≡ 1) ⊎ (bit_at m b ≡ 1)
    word_bit b e = let o = bit_at_or (slice_index h.words k) m b in let l = bit_at-lt (slice_index h.words k) b in let r = bit_at-lt m b in
        dite (ℕ_discrete (bit_at m b) 1) (λ y. inr y) (λ ne. inl (omega arith))

    old_bit : (b : ℕ) → bit_at (slice_index h.words k) b ≡ 1 → bit_at x b ≡ 1
    old_bit b e = let o = bit_at_or (slice_index h.words k) m b in let r = bit_at-lt m b in omega arith

    new_bit : (b : ℕ) → bit_at m b ≡ 1 → bit_at x b ≡ 1
    new_bit b e = let o = bit_at_or (slice_index h.words k) m b in let l = bit_at-lt (slice_index h.words k) b in omega arith

    here : (u : ℕ) → held_place (ring key) u ≡ k → held_bit (ring key) h.words u ≡ bit_at (slice_index h.words k) (u % 64)
    here u e = ap (λ (y : ℕ). bit_at (slice_index h.words y) (u % 64)) e

    pub keeps : Keeps key h k x
    keeps u a b place bit = old_bit (u % 64) (sym (here u place) ∙ bit)

    -- the word's bits by units
    pub only_bits : (u : ℕ) → h.floor ≤ u → u < h.floor + (ring key) → held_place (ring key) u ≡ k → bit_at x (u % 64) ≡ 1 → (held_bit (ring key) h.words u ≡ 1) ⊎ InRun at (at + count) u
    only_bits u a b place bit = ⊎_elim (λ (o : bit_at (slice_index h.words k) (u % 64) ≡ 1). inl (here u place ∙ o)) (λ (r : bit_at m (u % 64) ≡ 1). inr (in_run u a b place r)) (word_bit (u % 64) bit)

    pub only_after : (u : ℕ) → h.floor ≤ u → u < h.floor + (ring key) → held_bit (ring key) (set h.words k x) u ≡ 1 → (held_bit (ring key) h.words u ≡ 1) ⊎ InRun at (at + count) u
    only_after u a b bit = dite (ℕ_discrete (held_place (ring key) u) k)
        (λ e. only_bits u a b e (sym (this_bit key is h.words k x u short e) ∙ bit))
        (λ ne. inl (sym (other_bit key is h.words k x u ne) ∙ bit))

    pub set_after : (u : ℕ) → (held_bit (ring key) h.words u ≡ 1) ⊎ InRun at (at + count) u → held_bit (ring key) (set h.words k x) u ≡ 1
    set_after u o = dite (ℕ_discrete (held_place (ring key) u) k)
        (λ e. this_bit key is h.words k x u short e ∙ ⊎_elim (λ (b : held_bit (ring key) h.words u ≡ 1). old_bit (u % 64) (sym (here u e) ∙ b)) (λ (r : InRun at (at + count) u). new_bit (u % 64) (run_bit u r)) o)
        (λ ne. other_bit key is h.words k x u ne ∙ ⊎_elim (λ (b : held_bit (ring key) h.words u ≡ 1). b) (λ (r : InRun at (at + count) u). absurd (ne (run_word u r))) o)

    long_after : length (set h.words k x) ≡ image_length (ring key)
    long_after = length-set h.words k x ∙ long

    -- a run's next part is marked, above a unit that wasn't stored
    module _ (f : Frame) (start : ℕ) (may : MayInsert key h f) (behind : f.unit < start) (onward : start ≤ at) (marked : IsMarked key h start at) where
      pub marks_part : MayMark key h k x
      marks_part = record {
        inside = held_low key is at;
        keeps = keeps;
        ahead = λ u a b place bit. ⊎_elim inl (λ (r : InRun at (at + count) u). let lo = r.0 in let jo = may.from in
            inr (above u (omega arith))) (only_bits u a b place bit);
      }
        where
          above : (u : ℕ) → f.unit < u → IsAhead key h u
          above u lt = record { unit = f.unit; from = (let a = marked.joined in let b = may.from in omega arith); before = lt; free = may.free f.unit (let p = may.full in (omega arith, omega arith)) }

      pub marked_on : IsMarked key (changed h k x h.floor h.got) start (at + count)
      marked_on = record {
        long = long_after;
        joined = marked.joined;
        below = marked.below;
        set = λ u a b o. set_after u (⊎_elim
            (λ (s : Has h.got u). inl (marked.set u a b (inl s)))
            (λ (r : InRun start (at + count) u). let lo = r.0 in let hi = r.1 in dite (dec_le at u) (λ le. inr (le, hi)) (λ gt. inl (marked.set u a b (inr (lo, (omega arith))))))
            o);
        only = λ u a b bit. ⊎_elim
            (λ (old : held_bit (ring key) h.words u ≡ 1). ⊎_elim inl (λ (r : InRun start at u). let lo = r.0 in let hi = r.1 in inr (lo, omega arith)) (marked.only u a b old))
            (λ (r : InRun at (at + count) u). let lo = r.0 in let hi = r.1 in inr (omega arith, hi))
            (only_after u a b bit);
      }
