use Rattle.std.proofs.Common.{◌≡◌, suc}
use Rattle.shared_log.specs.Steps.Handles.{IsOf}
use Rattle.log_tests.proofs.turns.turn.Given as goal

abbrev pub invariant-loop : goal.invariant-loop
invariant-loop l = IsOf l.log l.publisher × (l.words ≡ l.log) × (l.publisher.pass.seen.full ≡ suc l.count)
