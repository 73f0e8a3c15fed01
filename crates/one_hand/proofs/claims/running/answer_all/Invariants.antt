use Rattle.std.proofs.Common.{◌≡◌, ◌≤◌, length, take, vec_len, vec_capacity}
use Rattle.one_hand.specs.Commands.{after_all, answers_of}
use Rattle.one_hand.proofs.claims.running.answer_all.Given as goal

-- these are the answers to the commands so far, and this is the stream behind them
abbrev pub invariant-loop-command : goal.invariant-loop-command
invariant-loop-command g l = record {
  answers : l.answers.items ≡ answers_of (g.L.Claims.stream l.initial.log) (take l.command-index l.commands);
  after : g.L.Claims.stream l.log ≡ after_all (g.L.Claims.stream l.initial.log) (take l.command-index l.commands);
  count : vec_len l.answers ≡ l.command-index;
  room : length l.commands ≤ vec_capacity l.answers;
}
