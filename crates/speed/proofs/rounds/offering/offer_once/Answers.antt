use Rattle.std.proofs.Common.{subst, sym}
use Rattle.std.proofs.lemmas.Result.{IfErr-weaker, IfOk-weaker}
use Rattle.std.specs.Prelude.{length}
use Rattle.publication.specs.Claims.{Justified}
use Rattle.publication.specs.Offers.{Offered}
use Rattle.publication.specs.Steps.{geometry_of}
use Rattle.theory.specs.Bytes.{Identity}
use Rattle.theory.specs.Position.{IsGeometry}
use Rattle.speed.specs.Rounds.{Claims}
use Rattle.speed.proofs.Messages.{claims, offered, offered_idle, one_frame, refused, refused_idle}
use Rattle.speed.proofs.rounds.offering.offer_once.Goals as goal

pub returns-clause-accepted : goal.returns-clause-accepted
returns-clause-accepted c =
    let l = c.args.words.now in let p = c.args.publisher.now in let q = c.offer.new.pass in let m = c.offer.ensures.called.moved in let s = c.requires.sender in
    let legal : IsGeometry (geometry_of p.pass) = subst (λ (i : Identity). IsGeometry i.geometry) (sym s.done.idle.of.identity) c.requires.legal in
    IfOk-weaker c.offer.result (λ end. Offered p.pass c.args.message.now end q.pass) (λ end. Claims l p 1 q)
    (λ end h. claims l _ p q 1 s m.same m.still (offered_idle p.pass c.args.message.now end q.pass h) (offered p.pass c.args.message.now end q.pass (one_frame _ _ legal c.requires.size) h)) c.offer.ensures.accepted

pub returns-clause-refused : goal.returns-clause-refused
returns-clause-refused c =
    let l = c.args.words.now in let p = c.args.publisher.now in let q = c.offer.new.pass in let m = c.offer.ensures.called.moved in let s = c.requires.sender in
    IfErr-weaker c.offer.result (λ why. Justified p.pass (length c.args.message.now) why q.pass) (λ why. Claims l p 0 q)
    (λ why h. claims l _ p q 0 s m.same m.still (refused_idle p.pass (length c.args.message.now) why q.pass h s.done.idle.unarmed) (refused p.pass (length c.args.message.now) why q.pass h)) c.offer.ensures.refused
