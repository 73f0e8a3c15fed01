use Rattle.std.proofs.Common.{◌≡◌}
use Rattle.flow_control.specs.Group.{are_heard}
use Rattle.flow_control.proofs.least.LeastFlowFlowControl.heard.Given as goal

abbrev pub invariant-loop-number : goal.invariant-loop-number
invariant-loop-number l = l.all ≡ are_heard l.number l.self.members
