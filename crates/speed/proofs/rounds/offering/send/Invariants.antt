use Rattle.std.proofs.Common.{◌≡◌, ◌≤◌}
use Rattle.speed.specs.Rounds.{Claims, IsSender}
use Rattle.speed.proofs.rounds.offering.send.Given as goal

abbrev pub invariant-loop : goal.invariant-loop
invariant-loop l = record { same : l.words ≡ l.log; sender : IsSender l.log l.publisher; claims : Claims l.log l.fn.publisher l.accepted l.publisher; low : l.accepted ≤ l.counter }
