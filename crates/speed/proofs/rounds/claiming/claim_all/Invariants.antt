use Rattle.std.proofs.Common.{◌≤◌}
use Rattle.speed.specs.Rounds.{Claims, IsSender}
use Rattle.speed.proofs.rounds.claiming.claim_all.Given as goal

abbrev pub invariant-loop : goal.invariant-loop
invariant-loop l = record { sender : IsSender l.log l.claimant; claims : Claims l.log l.fn.claimant l.accepted l.claimant; low : l.accepted ≤ l.counter }
