use Rattle.run_parties.specs.Receptions.{HasPolledOn}
use Rattle.run_parties.proofs.subscriber_turns.subscribe_on.Given as goal

abbrev pub invariant-loop : goal.invariant-loop
invariant-loop g l = HasPolledOn l.wanted l.initial.poller l.poller
