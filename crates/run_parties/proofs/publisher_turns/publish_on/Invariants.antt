use Rattle.std.proofs.Common.{◌≡◌, ◌≤◌, ◌-◌, drop, length}
use Rattle.std.specs.Prelude.{replicate}
use Rattle.run_parties.specs.Messages.{HasPublished}
use Rattle.run_parties.proofs.publisher_turns.publish_on.Given as goal

abbrev pub invariant-loop-turn : goal.invariant-loop-turn
invariant-loop-turn g l = record {
  published : HasPublished l.context.state.now.log l.task.length l.count l.initial.publisher l.publisher;
  most : l.count ≤ l.task.messages;
  long : length l.message ≡ l.task.length;
  rest : drop 8 l.message ≡ replicate (l.task.length - 8) 0;
  number : l.number ≡ l.initial.publisher.pass.number;
}
