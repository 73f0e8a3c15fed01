use Rattle.std.proofs.Common.{◌≡◌}
use Rattle.flow_control.specs.Group.{least_live}
use Rattle.flow_control.proofs.least.LeastFlow.least_live.Given as goal

abbrev pub invariant-loop-number : goal.invariant-loop-number
invariant-loop-number l = l.least ≡ least_live l.number l.self.clock l.self.members
