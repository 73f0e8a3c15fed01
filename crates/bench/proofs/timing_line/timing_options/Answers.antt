use Rattle.std.proofs.Common.{List, subst}
use Rattle.clap.specs.Words.{Row}
use Rattle.bench.specs.TimingLines.{IsTimingOf, timing_app}
use Rattle.bench.proofs.Simple.{timing_simple}
use Rattle.bench.proofs.timing_line.timing_options.Goals as goal

pub returns-in-Ok : goal.returns-in-Ok
returns-in-Ok c =
    let app = timing_app c.args.subject in
    subst (λ (rows : List Row). IsTimingOf rows c.timing_of.result) (c.in-Ok.ensures.found app c.command.ensures (timing_simple c.args.subject)).0 c.timing_of.ensures
