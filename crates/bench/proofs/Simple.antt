-- What is read of the two commands is simple enough for all that the parser promises.
use Rattle.std.proofs.Common.{◌≡◌, true, refl}
use Rattle.clap.specs.Words.{is_simple}
use Rattle.clap.proofs.OnLiterals.{clap_on_literals}
use Rattle.bench.specs.TimingLines.{timing_app}
use Rattle.bench.specs.declared.timing.Subject.{Subject}
use Rattle.bench.specs.declared.timing.Subject.TheVariants.{Log, Driver}

pub timing_simple : (s : Subject) → is_simple (timing_app s) ≡ true
unfolding clap_on_literals
timing_simple Log = refl
timing_simple Driver = refl
