-- The verdicts of the code as those of the theory.
use Rattle.theory.specs.Loss as meant
use Rattle.loss_injector.specs.declared.rates.Verdict.{Verdict}
use Rattle.loss_injector.specs.declared.rates.Verdict.TheVariants.{Pass, Drop, Repeat, Hold}

abbrev pub verdict_of : Verdict → meant.Verdict
verdict_of Pass = meant.Pass
verdict_of Drop = meant.Drop
verdict_of Repeat = meant.Repeat
verdict_of Hold = meant.Hold
