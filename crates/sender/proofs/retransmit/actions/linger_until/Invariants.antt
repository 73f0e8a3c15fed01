use Rattle.std.proofs.Common.{◌≡◌, map, take, drop}
use Rattle.sender.specs.Resending.Handler.{action_of, lingering_until}
use Rattle.sender.proofs.retransmit.actions.linger_until.Given as goal

abbrev pub invariant-loop-action : goal.invariant-loop-action
invariant-loop-action l = record { done : map action_of (take l.action-index l.actions) ≡ map (lingering_until l.at l.until) (map action_of (take l.action-index l.fn.actions)); rest : drop l.action-index l.actions ≡ drop l.action-index l.fn.actions }
