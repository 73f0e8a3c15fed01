use Rattle.std.proofs.Common.{◌≡◌, map, take}
use Rattle.std.specs.Option.{option_map}
use Rattle.theory.specs.Resend.{first_due}
use Rattle.sender.specs.Resending.Handler.{action_of}
use Rattle.sender.proofs.retransmit.actions.first_waiting.Given as goal

abbrev pub invariant-loop-action : goal.invariant-loop-action
invariant-loop-action l = option_map action_of l.first ≡ first_due (map action_of (take l.action-index l.actions))
