use Rattle.claims_tests.specs.Passes.{IsPart}
use Rattle.claims_tests.proofs.stalls_among_threads.publish.Given as goal

abbrev pub invariant-loop : goal.invariant-loop
invariant-loop l = IsPart l.log 120 l.claimant
