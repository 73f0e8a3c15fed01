use Rattle.std.proofs.Common.{rules, ◌≡◌, ◌+◌, ◌*◌, ◌/◌, ◌^◌, ◌<◌, min, ℕ, sym, subst, ◌∙◌, arith}
use Rattle.image_rule.specs.declared.view.View.{View}
use Rattle.image_rule.specs.Bits.{Sweeps}
use Rattle.image_rule.proofs.Clearing.{first_seen, next_seen}
use Rattle.image.proofs.inserter.clearing.see_all.Goals as goal

small : (n : ℕ) → n < 2 ^ 64 → 32 * (n / 32) < 2 ^ 64
small n lt = omega arith

lower : (a n m : ℕ) → 32 * a < 2 ^ 64 → m ≡ min a (n / 32) → 32 * m < 2 ^ 64
lower a n m lt e = omega arith

pub loop-number-init : goal.loop-number-init
loop-number-init c = let v : View = c.args.hand.now.seat.me.0 in let s = c.requires.seen in let p = c.requires.some in (c.see_as-least.ensures.fits, c.see_as-least.ensures.slots, omega arith, first_seen c.args.image.now.key v c.see_as-least.result c.see_as-least.new.hand.seat.me.0 (omega arith) (c.requires.looks ∙ sym c.requires.seen) c.see_as-least.ensures.told, small c.see_as-least.result (search rules))

pub loop-number-preserved : goal.loop-number-preserved
loop-number-preserved c =
    let key = c.args.image.now.key in let v : View = c.args.hand.now.seat.me.0 in let w : View = c.loop-number.hand.seat.me.0 in let i : ℕ = c.loop-number.number in let s = c.requires.seen in let lt = c.loop-number-test.true in let a = c.loop-number.invariant.2 in (
      c.see_as.ensures.fits ∙ c.loop-number.invariant.0,
      c.see_as.ensures.slots ∙ c.loop-number.invariant.1,
      omega arith,
      subst (λ (x : ℕ). Sweeps key v (i + 1) x c.see_as.new.hand.seat.me.0) (sym c.min-least.ensures)
          (next_seen key v w c.see_as.new.hand.seat.me.0 i c.loop-number.least c.see_as.result (omega arith) (c.requires.looks ∙ sym c.requires.seen) c.loop-number.invariant.3 c.see_as.ensures.told),
      lower c.loop-number.least c.see_as.result c.min-least.result c.loop-number.invariant.4 c.min-least.ensures,
    )

pub returns-clause-sweeps : goal.returns-clause-sweeps
returns-clause-sweeps c =
    let end : c.loop-number.number ≡ c.args.image.now.key.consumers = (let t = c.loop-number-test.false in let s = c.requires.some in omega arith) in
    subst (λ (x : ℕ). Sweeps c.args.image.now.key c.args.hand.now.seat.me.0 x c.loop-number.least c.loop-number.hand.seat.me.0) end c.loop-number.invariant.3
