use Rattle.std.proofs.Common.{sym, ◌∙◌}
use Rattle.sender.proofs.Resending.Ascending.{kept_from_first}
use Rattle.sender.proofs.retransmit.starts.forget_below.Goals as goal

pub returns-clause-others : goal.returns-clause-others
returns-clause-others c =
    let s = c.loop-starts.invariant.spaced in
    sym (kept_from_first s.0 s.1 c.args.from c.loop-starts.starts.items s.2 (let e = c.begins_below.ensures in let f = c.loop-starts-test.false in sym e ∙ f)) ∙ c.loop-starts.invariant.others
