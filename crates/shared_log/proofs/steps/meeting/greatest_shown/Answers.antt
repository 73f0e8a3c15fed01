use Rattle.std.proofs.Common.{rules, ◌∙◌, ap, ℕ, subst}
use Rattle.publication.specs.declared.pass.Pass.{Pass}
use Rattle.log_rule.specs.Meetings.{was_shown}
use Rattle.shared_log.specs.Steps.Meets.{Shows}
use Rattle.shared_log.proofs.Together.{sees_tails, three_shown}
use Rattle.shared_log.proofs.steps.meeting.greatest_shown.Goals as goal

pub returns-clause-stays : goal.returns-clause-stays
returns-clause-stays c =
    let a = c.shown-zeroth.ensures.stays in let b = c.shown-first.ensures.stays in let d = c.shown-second.ensures.stays in record {
      of = d.of ∙ b.of ∙ a.of;
      seat = d.seat ∙ b.seat ∙ a.seat;
      carried = d.carried ∙ b.carried ∙ a.carried;
      pass = three_shown c.args.seat.now.me.0.view.pass c.shown-zeroth.new.seat.me.0.view.pass c.shown-first.new.seat.me.0.view.pass c.shown-second.new.seat.me.0.view.pass c.shown-zeroth.result c.shown-first.result c.shown-second.result _ (search rules) a.pass b.pass d.pass;
      sure = d.sure ∙ b.sure ∙ a.sure;
      part = d.part ∙ b.part ∙ a.part;
      room = d.room ∙ b.room ∙ a.room;
      parked = d.parked ∙ b.parked ∙ a.parked;
    }

pub returns-clause-told : goal.returns-clause-told
returns-clause-told c =
    let v : Pass = c.args.seat.now.me.0.view.pass in let x : ℕ = c.shown-zeroth.result in let y : ℕ = c.shown-first.result in
    let one = c.shown-zeroth.ensures.stays.pass in let two = c.shown-first.ensures.stays.pass ∙ ap (was_shown y) one in
    let none = c.args.seat.now.me.0.view.controls in let zeroth = c.shown-zeroth.new.seat.me.0.view.controls in let first = c.shown-first.new.seat.me.0.view.controls in let second = c.shown-second.new.seat.me.0.view.controls in
    sees_tails v none zeroth first second x y c.shown-second.result _ c.shown-zeroth.ensures.told
    (subst (λ (u : Pass). Shows u 1 zeroth first y) one c.shown-first.ensures.told)
    (subst (λ (u : Pass). Shows u 2 first second c.shown-second.result) two c.shown-second.ensures.told) (search rules)
