use Rattle.std.proofs.Common.{false, map, take, get_or, sym, ap, ◌∙◌}
use Rattle.std.specs.Option.{option_map}
use Rattle.std.proofs.lemmas.List.{map_more}
use Rattle.theory.specs.Resend.{first_due}
use Rattle.sender.specs.declared.retransmit.action.Action.{Action}
use Rattle.sender.specs.Resending.Handler.{action_of}
use Rattle.sender.proofs.Resending.Due.{due_of_first, due_of_others}
use Rattle.sender.proofs.retransmit.actions.first_waiting.Goals as goal
use Rattle.sender.proofs.retransmit.actions.first_waiting.Goals.{then-not-action, else-not-action}

abbrev none : Action
none = record { at = 0; length = 0; lingers = false; until = 0 }

pub loop-action-preserved : goal.loop-action-preserved
loop-action-preserved c =
    let i = c.loop-action.action-index in
    let xs = c.args.actions.now in
    let a = action_of (get_or xs i none) in
    let more = ap first_due (map_more action_of xs i none c.loop-action-test.true) in
    elim c.if-not-action.branch [
      | then-not-action w ↦ ap (option_map action_of) w.first-is ∙ sym (more ∙ due_of_first (map action_of (take i xs)) a w.if-not-action.true)
      | else-not-action w ↦ ap (option_map action_of) w.first-is ∙ c.loop-action.invariant ∙ sym (more ∙ due_of_others (map action_of (take i xs)) a w.if-not-action.false)
    ]
