use Rattle.std.proofs.Common.{rules, ◌≡◌, ◌+◌, ◌-◌, ◌%◌, ◌<◌, ◌≤◌, ◌⊎◌, min, inl, ℕ, ap, sym, true≢false, ◌∙◌, arith}
use Rattle.std.specs.Prelude.{bit_and, slice_index}
use Rattle.image_rule.specs.declared.view.View.{View}
use Rattle.image_rule.specs.Steps.{Mine}
use Rattle.image_rule.specs.Frames.{held_place, ring}
use Rattle.image_rule.proofs.Clearing.{free_on, free_part}
use Rattle.image.proofs.Looks.{some_part}
use Rattle.image.proofs.inserter.looking.units_free.Goals as goal

part_some : (at to n : ℕ) → at < to → n ≡ min (64 - at % 64) (to - at) → 0 < n
part_some at to n lt is = omega arith

part_short : (at n to : ℕ) → n ≡ min (64 - at % 64) (to - at) → at % 64 + n ≤ 64
part_short at n to is = omega arith

part_low : (at to n : ℕ) → at < to → n ≡ min (64 - at % 64) (to - at) → at + n ≤ to
part_low at to n lt is = omega arith

on_end : (at n to from : ℕ) → at + n ≤ to → (at + n ≤ to) ⊎ (at + n ≡ from)
on_end at n to from le = inl le

pub loop-at-preserved : goal.loop-at-preserved
loop-at-preserved c =
    let i = c.args.image.now in let v : View = c.args.hand.now.seat.me.0 in let w : View = c.loop-at.hand.seat.me.0 in let at : ℕ = c.loop-at.at in let n : ℕ = c.min-count.result in let to : ℕ = c.args.to in let a = c.loop-at.invariant in
    let same : w ≡ v = ap (λ (m : Mine). m.0) a.1 in let low = part_low at to n c.loop-at-test.true c.min-count.ensures in let from = a.2 in let floor = c.args.hand.now.floor_is in let start = c.requires.low in let near = c.requires.near in
    let word : c.fetch_as-word.result ≡ slice_index v.held.words (held_place (ring i.key) at) = c.fetch_as-word.ensures.told.0 ∙ (λ j. slice_index (same j).held.words (c.held_word-place.ensures.is j)) in
    let none : bit_and (slice_index v.held.words (held_place (ring i.key) at)) c.mask.result ≡ 0 = ap (λ (x : ℕ). bit_and x c.mask.result) (sym word) ∙ c.if-word-mask-ne0.false in (
      c.fetch_as-word.ensures.fits ∙ a.0,
      (λ j. (c.fetch_as-word.ensures.told.1 j, c.fetch_as-word.ensures.slots j)) ∙ a.1,
      omega arith,
      inl low,
      free_on v.held c.args.from at (at + n) a.4 (free_part i.key v.held at n c.mask.result i.is_key c.requires.exact (omega arith) (omega arith) (part_some at to n c.loop-at-test.true c.min-count.ensures) (part_short at n to c.min-count.ensures) c.mask.ensures none),
    )

pub returns-then-word-mask-ne0-clause-free : goal.returns-then-word-mask-ne0-clause-free
returns-then-word-mask-ne0-clause-free c =
    let i = c.args.image.now in let v : View = c.args.hand.now.seat.me.0 in let w : View = c.loop-at.hand.seat.me.0 in let at : ℕ = c.loop-at.at in let n : ℕ = c.min-count.result in let to : ℕ = c.args.to in let a = c.loop-at.invariant in
    let same : w ≡ v = ap (λ (m : Mine). m.0) a.1 in let low = part_low at to n c.loop-at-test.true c.min-count.ensures in let from = a.2 in let floor = c.args.hand.now.floor_is in let start = c.requires.low in let near = c.requires.near in
    let word : c.fetch_as-word.result ≡ slice_index v.held.words (held_place (ring i.key) at) = c.fetch_as-word.ensures.told.0 ∙ (λ j. slice_index (same j).held.words (c.held_word-place.ensures.is j)) in
    (λ yes'. absurd (true≢false (sym yes')), λ free. absurd (some_part i.key i.is_key v.held c.requires.exact at n c.mask.result c.fetch_as-word.result (omega arith) (omega arith) (part_short at n to c.min-count.ensures) c.mask.ensures (search rules) word c.if-word-mask-ne0.true (λ u lo hi has. free u (omega arith) (omega arith) has)))

pub returns-clause-free : goal.returns-clause-free
returns-clause-free c = let a = c.loop-at.invariant in let stop = c.loop-at-test.false in (λ yes' u lo hi has. a.4 u lo (omega arith) has, λ free. search rules)
