use Rattle.std.proofs.Common.{◌∙◌, ap, length, map, subst, sym, arith}
use Rattle.std.specs.List.{AllByRecursion}
use Rattle.theory.specs.Position.{Geometry}
use Rattle.run.specs.Outcomes.{IsBook, IsPolled, told_of}
use Rattle.run.specs.Beginnings.{CanClose}
use Rattle.run.specs.declared.passes.Size.{Size}
use Rattle.run.proofs.Receivers.{told_many}
use Rattle.run.proofs.planned_run.left.Goals as goal

pub closed-requires : goal.closed-requires
closed-requires g c = subst (λ (s : Size). CanClose c.args.log s c.args.returned.parties.published c.args.returned.keeper c.args.others.items) (sym c.size_of-size.ensures.value) c.requires.closes

pub returns-clause-outcome : goal.returns-clause-outcome
returns-clause-outcome g c =
    let plan = c.args.plan.now in
    let size = c.size_of-size.ensures.value in
    let rs = c.args.returned.parties.received.items in
    let told = c.in_ok-tallies.ensures ∙ ap (map told_of) c.deref.ensures.value in
    record {
      publishers = omega (arith, c.len-publishers.ensures, c.requires.closes.many, c.args.returned.parties.published.publishers.ok.0);
      messages = ap (λ (s : Size). s.task.messages) size;
      wanted = ap (λ (s : Size). s.wanted) size;
      receivers = ap length told ∙ told_many rs ∙ c.requires.many;
      tallies = subst (AllByRecursion (IsPolled _)) (sym told) (subst (λ (s : Size). AllByRecursion (IsPolled s.wanted) (map told_of rs)) (sym size) c.requires.polled);
      book = subst (λ (u : Geometry × Size). IsBook u.0 u.1.task.length u.1.publishers c.args.returned.parties.published.accepted c.in_ok-book.book) (λ j. (c.requires.shape j, size j)) c.in_ok-book.ensures.is;
    }
