use Rattle.std.specs.List.{AllByRecursion}
use Rattle.stream_tests.specs.Consumers.{IsSingle}
use Rattle.claims_tests.specs.Passes.{IsKeeping}
use Rattle.consumer_tests.proofs.joins.join_again.Given as goal

abbrev pub invariant-loop-number : goal.invariant-loop-number
invariant-loop-number g l = IsKeeping l.log l.keeper × AllByRecursion (IsSingle l.log) l.readers.items
