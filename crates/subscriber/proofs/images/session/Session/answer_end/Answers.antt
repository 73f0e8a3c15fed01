use Rattle.std.proofs.Common.{ap, subst, sym}
use Rattle.subscriber.specs.declared.images.follower.Follower.{Follower}
use Rattle.subscriber.specs.declared.images.session.Session.{Session}
use Rattle.subscriber.proofs.Leaving.{listens_none}
use Rattle.subscriber.specs.Leavings.{ListensOn}
use Rattle.subscriber.proofs.images.session.Session.answer_end.Goals as goal

pub returns-then-before-clause-listens : goal.returns-then-before-clause-listens
returns-then-before-clause-listens g c =
    subst (λ (f : Follower). ListensOn c.args.self.now.follower f) (sym (ap (λ (j : Session). j.follower) c.note_all.ensures.same)) (listens_none c.args.self.now.follower)
