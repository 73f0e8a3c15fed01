use Rattle.std.proofs.Common.{◌≡◌}
use Rattle.agents.specs.LogSenders.{SendsLog}
use Rattle.run_parties.proofs.sender_turns.send_on.Given as goal

abbrev pub invariant-loop-turn : goal.invariant-loop-turn
invariant-loop-turn g l = SendsLog l.context.state.now.log l.agent × (l.duty.mtu ≡ l.context.state.now.log.identity.geometry.mtu) × (l.client.queue ≡ l.context.state.now.conductor)
