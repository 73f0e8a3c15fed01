use Rattle.channel.proofs.Exact.{exact}
use Rattle.channel.proofs.channel.read_channel.Goals as goal

pub returns-clause-only : goal.returns-clause-only
returns-clause-only c = exact c.args.text.now c.read.result c.read.ensures.read c.read.ensures.fault
