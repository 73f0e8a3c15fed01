use Rattle.std.proofs.Common.{OnOk, rules, subst}
use Rattle.std.proofs.lemmas.Int.{to_z-of_z}
use Rattle.std.specs.Int.{w32}
use Rattle.std.specs.Io.KnownBytes.{Appends}
use Rattle.std.specs.Prelude.{FitsSigned}
use Rattle.subscriber.specs.Standing.{StandsHere}
use Rattle.subscriber.specs.Texts.{lost_line}
use Rattle.subscriber.specs.declared.images.session.Session.{Session}
use Rattle.subscriber.proofs.images.session.Session.tell_loss.Goals as goal

pub returns-clause-told : goal.returns-clause-told
returns-clause-told g c =
    let session : FitsSigned w32 c.judge.new.self.opening.session = search rules in
    let told = simp to_z-of_z at c.tell.ensures in
    λ _. (
      c.place.result,
      subst (λ (j : Session). StandsHere j.follower.subscriber c.place.result) c.judge.ensures.same c.place.ensures,
      subst (λ (j : Session). OnOk c.tell.result (Appends (g.E.Write.contents c.args.errors.now) (g.E.Write.contents c.tell.new.errors) (lost_line j.opening.session c.place.result))) c.judge.ensures.same told,
    )
