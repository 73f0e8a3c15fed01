use Rattle.std.proofs.Common.{◌≡◌, ◌≤◌, ◌<◌, ◌+◌, ◌-◌, ◌%◌, min, ℕ, List, length, ap, refl, sym, subst, ◌∙◌, arith}
use Rattle.std.specs.Prelude.{slice_index}
use Rattle.image_rule.specs.declared.view.View.{View}
use Rattle.image_rule.specs.Bits.{Cleared}
use Rattle.image_rule.specs.Frames.{ring}
use Rattle.image_rule.proofs.Clearing.{cleared_none, cleared_on}
use Rattle.image.proofs.inserter.clearing.clear_units.Goals as goal

part_some : (at to n : ℕ) → at < to → n ≡ min (to - at) (64 - at % 64) → 0 < n
part_some at to n lt is = omega arith

part_short : (at n to : ℕ) → n ≡ min (to - at) (64 - at % 64) → at % 64 + n ≤ 64
part_short at n to is = omega arith

part_low : (at to n : ℕ) → at < to → n ≡ min (to - at) (64 - at % 64) → at + n ≤ to
part_low at to n lt is = omega arith

part_near : (at n units to : ℕ) → 0 < units → units % 64 ≡ 0 → n ≡ min (to - at) (64 - at % 64) → n ≤ units
part_near at n units to some whole is = omega arith

passed : (v w : View) (x to : ℕ) → w ≡ record v { held = w.held } → x ≤ to → ((j : ℕ) → j < length v.seen → to ≤ slice_index v.seen j) → (j : ℕ) → j < length w.seen → x ≤ slice_index w.seen j
passed v w x to same le all = subst (λ (s : List ℕ). (j : ℕ) → j < length s → x ≤ slice_index s j) (sym (ap (λ (y : View). y.seen) same)) (λ j lt. let a = all j lt in omega arith)

pub loop-at-init : goal.loop-at-init
loop-at-init c = let v : View = c.args.hand.now.seat.me.0 in let r = c.requires.rise.from in let f = c.args.hand.now.floor_is in (refl, refl, omega arith, subst (λ (x : ℕ). Cleared c.args.image.now.key v x v) (sym f) (cleared_none c.args.image.now.key v c.requires.exact))

pub clear_part-requires-clause-short : goal.clear_part-requires-clause-short
clear_part-requires-clause-short c = let f = c.loop-at.hand.floor_is in let a = c.loop-at.invariant.3.floor_is in let e : c.loop-at.hand.floor ≡ c.loop-at.at = f ∙ a in subst (λ (x : ℕ). x % 64 + c.min-count.result ≤ 64) (sym e) (part_short c.loop-at.at c.min-count.result c.args.to c.min-count.ensures)

pub clear_part-requires-clause-low : goal.clear_part-requires-clause-low
clear_part-requires-clause-low c = let f = c.loop-at.hand.floor_is in let a = c.loop-at.invariant.3.floor_is in let l = part_low c.loop-at.at c.args.to c.min-count.result c.loop-at-test.true c.min-count.ensures in let t = c.requires.low in omega arith

pub clear_part-requires-clause-near : goal.clear_part-requires-clause-near
clear_part-requires-clause-near c = let is = c.args.image.now.is_key in part_near c.loop-at.at c.min-count.result (ring c.args.image.now.key) c.args.to is.some is.whole c.min-count.ensures

pub clear_part-requires-clause-some : goal.clear_part-requires-clause-some
clear_part-requires-clause-some c = part_some c.loop-at.at c.args.to c.min-count.result c.loop-at-test.true c.min-count.ensures

pub clear_part-requires-clause-idle : goal.clear_part-requires-clause-idle
clear_part-requires-clause-idle c = c.loop-at.invariant.3.out ∙ c.requires.idle

pub clear_part-requires-clause-exact : goal.clear_part-requires-clause-exact
clear_part-requires-clause-exact c = c.loop-at.invariant.3.exact

pub clear_part-requires-clause-passed : goal.clear_part-requires-clause-passed
clear_part-requires-clause-passed c =
    let v : View = c.args.hand.now.seat.me.0 in let w : View = c.loop-at.hand.seat.me.0 in let a = c.loop-at.invariant.3 in let f = c.loop-at.hand.floor_is in let g = a.floor_is in
    let l = part_low c.loop-at.at c.args.to c.min-count.result c.loop-at-test.true c.min-count.ensures in
    passed v w (c.loop-at.hand.floor + c.min-count.result) c.args.to a.after (omega arith) c.requires.rise.passed

pub loop-at-preserved : goal.loop-at-preserved
loop-at-preserved c =
    let key = c.args.image.now.key in let v : View = c.args.hand.now.seat.me.0 in let w : View = c.loop-at.hand.seat.me.0 in let at : ℕ = c.loop-at.at in let n : ℕ = c.min-count.result in let a = c.loop-at.invariant.3 in let y : View = c.clear_part.new.hand.seat.me.0 in
    let e : c.loop-at.hand.floor ≡ at = c.loop-at.hand.floor_is ∙ a.floor_is in (
      c.clear_part.ensures.fits ∙ c.loop-at.invariant.0,
      c.clear_part.ensures.slots ∙ c.loop-at.invariant.1,
      part_low at c.args.to n c.loop-at-test.true c.min-count.ensures,
      cleared_on key v w y at (at + n) a (subst (λ (x : ℕ). Cleared key w (x + n) y) e c.clear_part.ensures.cleared),
    )

pub returns-clause-cleared : goal.returns-clause-cleared
returns-clause-cleared c = let i = c.loop-at.invariant in let last = i.2 in let stop = c.loop-at-test.false in let end : c.loop-at.at ≡ c.args.to = omega arith in
    subst (λ (x : ℕ). Cleared c.args.image.now.key c.args.hand.now.seat.me.0 x c.loop-at.hand.seat.me.0) end i.3
