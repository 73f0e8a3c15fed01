use Rattle.std.proofs.Common.{◌<◌, ◌≤◌, length, subst, arith}
use Rattle.subscriber.specs.Repeats.{Repeating, Steps}
use Rattle.subscriber.proofs.Repeaters.{no_place, steps_at}
use Rattle.subscriber.proofs.repeating.repeater.StatusRepeater.turn.Goals as goal

pub returns-then-place-len-clause-step : goal.returns-then-place-len-clause-step
returns-then-place-len-clause-step c =
    let none : length c.self.inside.repeaters.items ≤ c.args.place = omega arith in
    rw (← c.self.view_is) (no_place c.args.place c.args.now c.args.news c.self.inside.repeaters.items none)

pub returns-in-Some-clause-step : goal.returns-in-Some-clause-step
returns-in-Some-clause-step c =
    let low : c.args.place < length c.self.inside.repeaters.items = omega arith in
    rw (← c.self.view_is) (steps_at c.args.place c.args.now c.args.news c.self.inside.repeaters.items c.index_mut.result.now c.step-sent.new.self c.step-sent.result low
    (subst (λ (r : Repeating). Steps c.args.now c.args.news r c.step-sent.result c.step-sent.new.self) c.index_mut.ensures.value c.step-sent.ensures))

pub returns-in_default-clause-step : goal.returns-in_default-clause-step
returns-in_default-clause-step c =
    let low : c.args.place < length c.self.inside.repeaters.items = omega arith in
    rw (← c.self.view_is) (steps_at c.args.place c.args.now c.args.news c.self.inside.repeaters.items c.index_mut.result.now c.step-sent.new.self c.step-sent.result low
    (subst (λ (r : Repeating). Steps c.args.now c.args.news r c.step-sent.result c.step-sent.new.self) c.index_mut.ensures.value c.step-sent.ensures))
