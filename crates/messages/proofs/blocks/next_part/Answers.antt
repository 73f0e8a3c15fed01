use Rattle.std.proofs.Common.{◌<◌, length, rules}
use Rattle.messages.proofs.Shown.{at_fault, part_broken_off}
use Rattle.messages.proofs.blocks.next_part.Goals as goal

pub returns-in_err-take_shown-clause-fault : goal.returns-in_err-take_shown-clause-fault
returns-in_err-take_shown-clause-fault g c =
    let i = c.loop-turn.invariant in
    let short : length c.loop-turn.message.items < c.args.length = search rules in
    at_fault c.from_residual.result _ _ c.from_residual.ensures.1 (part_broken_off _ _ _ _ _ _ _ i.taken short c.in_err-take_shown.ensures.fault)
