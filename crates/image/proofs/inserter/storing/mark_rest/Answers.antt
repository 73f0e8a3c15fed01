use Rattle.std.proofs.Common.{◌≡◌, ◌≤◌, ◌<◌, ◌+◌, ◌-◌, ◌%◌, ◌⊎◌, inl, inr, min, ℕ, refl, sym, subst, ◌∙◌, arith}
use mathlib.Core.Logic.{dite}
use native.Mathlib.Decide.{dec_le}
use Rattle.image_rule.specs.declared.view.View.{View}
use Rattle.image_rule.specs.Bits.{Marked, next_word, rest_end}
use Rattle.image_rule.proofs.Storing.{marked_more, may_mark_part}
use Rattle.image_rule.specs.Bits.{MaySet, SetsBits}
use Rattle.image_rule.specs.declared.view.Frame.{Frame}
use Rattle.image.specs.Drafted.{drafted}
use Rattle.image.proofs.inserter.storing.mark_rest.Goals as goal

-- the units of a run's part lie in one word
part_short : (at end n : ℕ) → (at % 64 ≡ 0) ⊎ (end ≤ at) → at < end → n ≡ min (end - at) 64 → at % 64 + n ≤ 64
part_short at end n (inl e) lt is = omega arith
part_short at end n (inr e) lt is = absurd (omega arith)

part_some : (at end n : ℕ) → at < end → n ≡ min (end - at) 64 → 0 < n
part_some at end n lt is = omega arith

part_low : (at end n : ℕ) → at < end → n ≡ min (end - at) 64 → at + n ≤ end
part_low at end n lt is = omega arith

aligned : (at end n : ℕ) → (at % 64 ≡ 0) ⊎ (end ≤ at) → at < end → n ≡ min (end - at) 64 → ((at + n) % 64 ≡ 0) ⊎ (end ≤ at + n)
aligned at end n (inl e) lt is = dite (dec_le end (at + n)) (λ y. inr y) (λ no'. inl (omega arith))
aligned at end n (inr e) lt is = absurd (omega arith)

pub loop-at-init : goal.loop-at-init
loop-at-init c = (refl, refl, omega arith, omega arith, inl (omega arith), c.requires.marked)

pub set_bits_as-requires-clause-some : goal.set_bits_as-requires-clause-some
set_bits_as-requires-clause-some c = part_some c.loop-at.at (c.args.draft.now.unit + c.args.draft.now.units) c.min-count.result c.loop-at-test.true c.min-count.ensures

pub set_bits_as-requires-clause-short : goal.set_bits_as-requires-clause-short
set_bits_as-requires-clause-short c = part_short c.loop-at.at (c.args.draft.now.unit + c.args.draft.now.units) c.min-count.result c.loop-at.invariant.4 c.loop-at-test.true c.min-count.ensures

pub set_bits_as-requires-clause-may : goal.set_bits_as-requires-clause-may
set_bits_as-requires-clause-may c =
    let i = c.args.image.now in let h = c.args.hand.now in let f : Frame = drafted c.args.draft.now in let v : View = h.seat.me.0 in
    let w : View = c.loop-at.hand.seat.me.0 in let at : ℕ = c.loop-at.at in let n : ℕ = c.min-count.result in let end : ℕ = c.args.draft.now.unit + c.args.draft.now.units in let a = c.loop-at.invariant in
    let some = part_some at end n c.loop-at-test.true c.min-count.ensures in let short = part_short at end n a.4 c.loop-at-test.true c.min-count.ensures in let low = part_low at end n c.loop-at-test.true c.min-count.ensures in
    subst (λ (x : ℕ). MaySet i.key w x at n w.held.floor w.held.got) (sym c.held_word-place.ensures.is) (may_mark_part i.key i.is_key v w f h.inserts c.requires.may at n a.5 a.2 some short low)

pub loop-at-preserved : goal.loop-at-preserved
loop-at-preserved c =
    let i = c.args.image.now in let h = c.args.hand.now in let f : Frame = drafted c.args.draft.now in let v : View = h.seat.me.0 in
    let w : View = c.loop-at.hand.seat.me.0 in let at : ℕ = c.loop-at.at in let n : ℕ = c.min-count.result in let end : ℕ = c.args.draft.now.unit + c.args.draft.now.units in let a = c.loop-at.invariant in
    let some = part_some at end n c.loop-at-test.true c.min-count.ensures in let short = part_short at end n a.4 c.loop-at-test.true c.min-count.ensures in let low = part_low at end n c.loop-at-test.true c.min-count.ensures in
    let y : View = c.set_bits_as.new.hand.seat.me.0 in let first = a.2 in (
      c.set_bits_as.ensures.fits ∙ a.0,
      c.set_bits_as.ensures.slots ∙ a.1,
      omega arith,
      omega arith,
      aligned at end n a.4 c.loop-at-test.true c.min-count.ensures,
      marked_more i.key i.is_key v w f h.inserts c.requires.may at n a.5 a.2 some short low y (subst (λ (x : ℕ). SetsBits w x at n w.held.floor w.held.got y) c.held_word-place.ensures.is c.set_bits_as.ensures.set),
    )

pub returns-clause-marked : goal.returns-clause-marked
returns-clause-marked c =
    let i = c.args.image.now in let h = c.args.hand.now in let f : Frame = drafted c.args.draft.now in let v : View = h.seat.me.0 in
    let a = c.loop-at.invariant in let first = a.2 in let last = a.3 in let stop = c.loop-at-test.false in let end : c.loop-at.at ≡ rest_end f = omega arith in
    subst (λ (x : ℕ). Marked i.key v f (next_word f) x c.loop-at.hand.seat.me.0) end a.5
