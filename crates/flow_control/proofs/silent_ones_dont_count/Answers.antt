use Rattle.flow_control.proofs.Silent.{dont_count}
use Rattle.flow_control.proofs.silent_ones_dont_count.Goals as goal

pub returns : goal.returns
returns g = dont_count
