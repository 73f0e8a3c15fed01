-- All passes of a log that they close together.
use Rattle.std.specs.List.{AllByRecursion}
use Rattle.shared_log.specs.Steps.Handles.{LogValue}
use Rattle.stream_tests.specs.Consumers.{IsSingle}
use Rattle.claims_tests.specs.Passes.{IsKeeping, IsPart}
use Rattle.consumer_tests.specs.declared.passes.Passes.{Passes}

-- all passes are of this log, and have claimed nothing
pub record ArePasses (l : LogValue) (p : Passes) : Type 0 where
  pub publisher : IsPart l 176 p.publisher
  pub others : AllByRecursion (IsPart l 120) p.others
  pub reader : IsSingle l p.reader
  pub keeper : IsKeeping l p.keeper
