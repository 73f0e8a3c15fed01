use Rattle.flow_control.proofs.Enough.{group_keeps_enough, one_keeps_enough}
use Rattle.flow_control.proofs.keeps_enough.Goals as goal

pub returns : goal.returns
returns c = record { one = one_keeps_enough; group = group_keeps_enough }
