use Rattle.std.proofs.Common.{◌≡◌}
use Rattle.run_parties.specs.Passes.{IsKept}
use Rattle.run_parties.proofs.conductor_turns.steer.Given as goal

abbrev pub invariant-loop-turn : goal.invariant-loop-turn
invariant-loop-turn g l = IsKept l.context.state.now.log l.keeper × (l.taker.queue ≡ l.context.state.now.conductor)
