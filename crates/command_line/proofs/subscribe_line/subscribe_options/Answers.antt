use Rattle.std.proofs.Common.{List, subst}
use Rattle.clap.specs.Words.{Row}
use Rattle.command_line.specs.Lines.{IsSubscribeOf, subscribe_app}
use Rattle.command_line.proofs.Simple.{subscribe_free, subscribe_simple}
use Rattle.command_line.proofs.subscribe_line.subscribe_options.Goals as goal

pub returns-in-Ok-clause-told : goal.returns-in-Ok-clause-told
returns-in-Ok-clause-told c = subst (λ (rows : List Row). IsSubscribeOf rows c.subscribe_of.result) (c.in-Ok.ensures.found subscribe_app c.command.ensures subscribe_simple).0 c.subscribe_of.ensures.told

pub returns-in-Ok-clause-passed : goal.returns-in-Ok-clause-passed
returns-in-Ok-clause-passed c = c.in-Ok.ensures.passed subscribe_app c.command.ensures subscribe_free

pub returns-in-Err-clause-fault : goal.returns-in-Err-clause-fault
returns-in-Err-clause-fault c = c.in-Err.ensures.fault subscribe_app c.command.ensures subscribe_free
