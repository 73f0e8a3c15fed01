use Rattle.std.proofs.Common.{◌≡◌, ◌+◌, ◌%◌, ◌<◌, ◌≤◌, ℕ, List, length, inl, inr, ap, sym, subst, ◌∙◌, arith}
use Rattle.std.specs.Prelude.{slice_index}
use Rattle.image_rule.specs.declared.view.Key.{Key}
use Rattle.image_rule.specs.declared.view.View.{View}
use Rattle.image_rule.specs.Frames.{held_place, ring, start_place}
use Rattle.image_rule.specs.Rule.{IsKey}
use Rattle.image_rule.specs.Bits.{Cleared, DropsBits, Emptied, IsExact, MayDrop}
use Rattle.image_rule.proofs.Clearing.{cleared_both, cleared_part, emptied_part, may_drop_part, may_empty_part}
use Rattle.image.proofs.inserter.clearing.clear_part.Goals as goal

module _ (key : Key) (is : IsKey key) (v : View) (one : v.inserting ≡ 1) (exact : IsExact key v.held) (at count : ℕ) (here : at ≡ v.held.floor) (some : 0 < count) (short : at % 64 + count ≤ 64) (few : count ≤ ring key) (passed : (j : ℕ) → j < length v.seen → at + count ≤ slice_index v.seen j) where
  near : at + count ≤ v.held.floor + ring key
  near = omega arith

  first : (place : ℕ) → place ≡ start_place (ring key) at → MayDrop key v place at count at v.held.got
  first place e = subst (λ (x : ℕ × ℕ). MayDrop key v x.0 at count x.1 v.held.got) (λ j. (sym e j, sym here j)) (may_empty_part key is v one exact at count here some short near)

  emptied : (place : ℕ) → place ≡ start_place (ring key) at → (w : View) → DropsBits v place at count at v.held.got w → Emptied key v (at + count) w
  emptied place e w d = emptied_part key is v one exact at count here some short near w (subst (λ (x : ℕ × ℕ). DropsBits v x.0 at count x.1 v.held.got w) (λ j. (e j, here j)) d)

  module _ (w : View) (e : Emptied key v (at + count) w) where
    here_on : at ≡ w.held.floor
    here_on = here ∙ sym e.floor

    near_on : at + count ≤ w.held.floor + ring key
    near_on = let f = e.floor in let n = near in omega arith

    passed_on : (j : ℕ) → j < length w.seen → at + count ≤ slice_index w.seen j
    passed_on = subst (λ (s : List ℕ). (j : ℕ) → j < length s → at + count ≤ slice_index s j) (sym (ap (λ (x : View). x.seen) e.after)) passed

    inserts : w.inserting ≡ 1
    inserts = ap (λ (x : View). x.inserting) e.after ∙ one

    second : (place : ℕ) → place ≡ held_place (ring key) at → MayDrop key w place at count (at + count) w.held.got
    second place p = subst (λ (x : ℕ). MayDrop key w x at count (at + count) w.held.got) (sym p) (may_drop_part key is w inserts e.marked at count e.started e.sound here_on some short near_on passed_on)

    both : (place : ℕ) → place ≡ held_place (ring key) at → (y : View) → DropsBits w place at count (at + count) w.held.got y → Cleared key v (at + count) y
    both place p y d = cleared_both key v w y (at + count) e (cleared_part key is w inserts e.marked at count e.started e.sound here_on some short near_on passed_on y (subst (λ (x : ℕ). DropsBits w x at count (at + count) w.held.got y) p d))

pub drop_bits_as-requires-clause-may : goal.drop_bits_as-requires-clause-may
drop_bits_as-requires-clause-may c = let i = c.args.image.now in let h = c.args.hand.now in first i.key i.is_key h.seat.me.0 h.inserts c.requires.exact h.floor c.args.count h.floor_is c.requires.some c.requires.short c.requires.near c.requires.passed _ c.start_word-start.ensures.is

pub drop_bits_as-requires-clause-raise : goal.drop_bits_as-requires-clause-raise
drop_bits_as-requires-clause-raise c = inl c.args.hand.now.floor_is

pub drop_bits_as-requires-2-clause-raise : goal.drop_bits_as-requires-2-clause-raise
drop_bits_as-requires-2-clause-raise c =
    let i = c.args.image.now in let h = c.args.hand.now in let w : View = c.drop_bits_as.new.hand.seat.me.0 in
    let e = emptied i.key i.is_key h.seat.me.0 h.inserts c.requires.exact h.floor c.args.count h.floor_is c.requires.some c.requires.short c.requires.near c.requires.passed _ c.start_word-start.ensures.is w c.drop_bits_as.ensures.drops in
    let f = e.floor in let is = h.floor_is in let n = c.requires.near in
    inr (e.out ∙ c.requires.idle, omega arith, omega arith)

pub drop_bits_as-requires-2-clause-may : goal.drop_bits_as-requires-2-clause-may
drop_bits_as-requires-2-clause-may c =
    let i = c.args.image.now in let h = c.args.hand.now in let w : View = c.drop_bits_as.new.hand.seat.me.0 in
    let e = emptied i.key i.is_key h.seat.me.0 h.inserts c.requires.exact h.floor c.args.count h.floor_is c.requires.some c.requires.short c.requires.near c.requires.passed _ c.start_word-start.ensures.is w c.drop_bits_as.ensures.drops in
    second i.key i.is_key h.seat.me.0 h.inserts c.requires.exact h.floor c.args.count h.floor_is c.requires.some c.requires.short c.requires.near c.requires.passed w e _ c.held_word-held.ensures.is

pub returns-clause-cleared : goal.returns-clause-cleared
returns-clause-cleared c =
    let i = c.args.image.now in let h = c.args.hand.now in let w : View = c.drop_bits_as.new.hand.seat.me.0 in
    let e = emptied i.key i.is_key h.seat.me.0 h.inserts c.requires.exact h.floor c.args.count h.floor_is c.requires.some c.requires.short c.requires.near c.requires.passed _ c.start_word-start.ensures.is w c.drop_bits_as.ensures.drops in
    both i.key i.is_key h.seat.me.0 h.inserts c.requires.exact h.floor c.args.count h.floor_is c.requires.some c.requires.short c.requires.near c.requires.passed w e _ c.held_word-held.ensures.is _ c.drop_bits_as-2.ensures.drops
