use Rattle.std.proofs.Common.{⊎_elim, IsTrue, arith, inl, inr, subst, Bool}
use Rattle.subscriber.specs.declared.ending.Ending.TheVariants.{Lost}
use Rattle.commands.specs.Done.{IsSubscribed}
use Rattle.commands.proofs.subscribe_command.subscribe_told.Goals as goal

pub returns-in-Ok-clause-told : goal.returns-in-Ok-clause-told
returns-in-Ok-clause-told g c = λ three. let one = c.failed.ensures in absurd (omega (arith, one, three))

pub returns-in-Ok-2-clause-told : goal.returns-in-Ok-2-clause-told
returns-in-Ok-2-clause-told g c = λ three.
    ⊎_elim
    (λ (once : IsTrue c.in-Ok.field-0.once). inl (subst (λ (b : Bool). IsTrue b) c.in-Ok.ensures.made.2.once once))
    (λ (lost : IsSubscribed c.in-Ok.field-0 (g.W.Write.contents c.args.output.now) (g.W.Write.contents c.subscribe_planned.new.output) Lost). inr (record {
      drawn = c.drawn_ids-given.result.0;
      plan = c.in-Ok.field-0;
      planned = c.in-Ok.ensures.made;
      subscribed = lost;
    }))
    (c.subscribe_planned.ensures.short three)

pub returns-in-Err-clause-told : goal.returns-in-Err-clause-told
returns-in-Err-clause-told g c = λ three. let two = c.unplanned.ensures in absurd (omega (arith, two, three))

pub returns-in-Ok-clause-ended : goal.returns-in-Ok-clause-ended
returns-in-Ok-clause-ended g c = λ not no. absurd (not c.failed.ensures)

pub returns-in-Ok-2-clause-ended : goal.returns-in-Ok-2-clause-ended
returns-in-Ok-2-clause-ended g c = λ not no.
    let so = c.subscribe_planned.ensures.ended not in (
      so.0,
      so.1,
      record {
        drawn = c.drawn_ids-given.result.0;
        plan = c.in-Ok.field-0;
        planned = c.in-Ok.ensures.made;
        subscribed = so.2;
      },
    )

pub returns-in-Err-clause-ended : goal.returns-in-Err-clause-ended
returns-in-Err-clause-ended g c = λ not no. absurd (no c.unplanned.ensures)
