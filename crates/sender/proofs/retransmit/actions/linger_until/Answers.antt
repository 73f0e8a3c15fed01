use Rattle.std.proofs.Common.{◌<◌, length, false, arith}
use Rattle.sender.specs.declared.retransmit.action.Action.{Action}
use Rattle.sender.specs.Resending.Handler.{action_of, lingering_until}
use Rattle.sender.proofs.Resending.Due.{written, written_rest}
use Rattle.sender.proofs.retransmit.actions.linger_until.Goals as goal

abbrev none : Action
none = record { at = 0; length = 0; lingers = false; until = 0 }

pub loop-action-preserved : goal.loop-action-preserved
loop-action-preserved c =
    let i = c.loop-action.action-index in
    let xs = c.loop-action.actions in
    let ys = c.args.actions.now in
    let same = c.loop-action.auto.actions in
    let lx : i < length xs = omega (arith, same, c.loop-action-test.true) in
    let ly : i < length ys = omega (arith, same, c.loop-action-test.true) in
    record {
      done = written action_of (lingering_until c.args.at c.args.until) xs ys i c.lingering.result none lx ly c.loop-action.invariant.done c.loop-action.invariant.rest c.lingering.ensures;
      rest = written_rest xs ys i c.lingering.result none lx ly c.loop-action.invariant.rest;
    }
