use Rattle.log_tests.specs.Stays.{IsRested}
use Rattle.log_tests.proofs.meetings.publish.Given as goal

abbrev pub invariant-loop : goal.invariant-loop
invariant-loop l = IsRested l.log l.publisher
