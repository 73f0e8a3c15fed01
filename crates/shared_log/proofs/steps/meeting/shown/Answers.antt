use Rattle.std.proofs.Common.{◌%◌, ℕ, ap, sym, ◌∙◌, subst}
use Rattle.theory.specs.Position.{Geometry}
use Rattle.publication.specs.declared.pass.Pass.{Pass}
use Rattle.publication.specs.Steps.{shown_position}
use Rattle.log_rule.specs.Meetings.{ShowsTail, was_shown}
use Rattle.shared_log.proofs.steps.meeting.shown.Goals as goal

pub returns-clause-stays : goal.returns-clause-stays
returns-clause-stays c =
    let t = c.show-word.ensures.told in let v : Pass = c.args.seat.now.me.0.view.pass in let is = c.position_shown.ensures ∙ ap (λ (y : Geometry). shown_position y c.show-word.result) (sym c.requires.shape) in record {
      of = c.show-word.ensures.seat.0;
      seat = c.show-word.ensures.seat.1;
      carried = t.carried;
      pass = t.told.0.3.after ∙ ap (λ (n : ℕ). was_shown n v) (sym is);
      sure = t.told.0.2.sure;
      part = t.part;
      room = t.room;
      parked = t.parked;
    }

pub returns-clause-told : goal.returns-clause-told
returns-clause-told c =
    let t = c.show-word.ensures.told in let told = t.told.0.3 in let v : Pass = c.args.seat.now.me.0.view.pass in let is = c.position_shown.ensures ∙ ap (λ (y : Geometry). shown_position y c.show-word.result) (sym c.requires.shape) in record {
      word = c.show-word.result;
      loaded = t.told.2;
      noted = t.told.1;
      told = subst (λ (x : Pass). ShowsTail v (c.args.partition % 3) c.show-word.result x) (told.after ∙ ap (λ (n : ℕ). was_shown n v) (sym is)) told;
      is = is;
    }
