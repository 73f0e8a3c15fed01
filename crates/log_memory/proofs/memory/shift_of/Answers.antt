use Rattle.std.proofs.Common.{◌/◌, ℕ, ◌∙◌, subst, sym, arith}
use Rattle.std.specs.Int.{IsPowerOfTwo}
use Rattle.log_memory.proofs.UnitPlaces.{shift_power, unit_power}
use Rattle.log_memory.proofs.memory.shift_of.Goals as goal

pub returns-clause-power : goal.returns-clause-power
returns-clause-power c =
    let legal = c.term_length.ensures.legal in let whole = c.term_length.ensures.whole in let value = c.term_length.ensures.value in let greatest = legal.term.greatest in
    let power = shift_power (c.term_length.result / 32) (subst (λ (t : ℕ). IsPowerOfTwo (t / 32)) (sym value) (unit_power c.args.geometry.now.term_length legal.term.power legal.term.least)) (omega arith) in
    let e = power.0 in
    omega (arith, e) ∙ value

pub returns-clause-low : goal.returns-clause-low
returns-clause-low c =
    let legal = c.term_length.ensures.legal in let value = c.term_length.ensures.value in let greatest = legal.term.greatest in
    (shift_power (c.term_length.result / 32) (subst (λ (t : ℕ). IsPowerOfTwo (t / 32)) (sym value) (unit_power c.args.geometry.now.term_length legal.term.power legal.term.least)) (omega arith)).1
