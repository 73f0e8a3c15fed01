use Rattle.std.proofs.Common.{◌≡◌, ℕ, length}
use Rattle.agents.specs.LogSenders.{SendsLog}
use Rattle.sender_meaning.specs.StreamLives.{StreamLived}
use Rattle.publisher.specs.Openings.{ArePasses}
use Rattle.publisher.specs.Turns.{TurnsMany}
use Rattle.publisher.proofs.sender_thread.send_all.Given as goal

abbrev pub invariant-loop : goal.invariant-loop
invariant-loop g l = record {
  agent : SendsLog l.context.state.now.log l.sender.agent;
  lives : StreamLived (length l.fn.sender.passes.duty.device.ways) l.fn.sender.agent.core l.sender.agent.core;
  peer : l.sender.peer ≡ l.fn.sender.peer;
  passes : ArePasses l.context.state.now.log l.context.conductor.now l.sender.passes;
  turns : (count : ℕ) × TurnsMany l.context.plan.now count l.fn.sender (record { begun = l.begun; reading = l.reading; ended = l.progress.ended }) l.sender;
}
