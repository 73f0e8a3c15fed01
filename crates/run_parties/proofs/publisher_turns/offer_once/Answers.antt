use Rattle.std.proofs.Common.{◌+◌, ◌∙◌, length}
use Rattle.std.proofs.lemmas.Result.{IfErr-weaker, IfOk-weaker}
use Rattle.publication.specs.Claims.{Justified}
use Rattle.publication.specs.Offers.{Offered}
use Rattle.run_parties.specs.Messages.{HasPublished}
use Rattle.run_parties.proofs.Publishing.{accepted, accepted_ends, refused, refused_ends}
use Rattle.run_parties.proofs.publisher_turns.offer_once.Goals as goal

pub returns-clause-accepted : goal.returns-clause-accepted
returns-clause-accepted c p n is says =
    let l = c.args.log.now in let m = c.args.message.now in let q = c.args.publisher.now in let r = c.offer.new.pass in let moved = c.offer.ensures.called.moved in
    IfOk-weaker c.offer.result (λ end. Offered q.pass m end r.pass) (λ end. HasPublished l (length m) (n + 1) p r)
    (λ end h. accepted l n end m p q r is (accepted_ends l _ q r m end c.requires.done (moved.same ∙ c.new.ensures) moved.still h) says h) c.offer.ensures.accepted

pub returns-clause-refused : goal.returns-clause-refused
returns-clause-refused c p n is =
    let l = c.args.log.now in let m = c.args.message.now in let q = c.args.publisher.now in let r = c.offer.new.pass in let moved = c.offer.ensures.called.moved in
    IfErr-weaker c.offer.result (λ why. Justified q.pass (length m) why r.pass) (λ why. HasPublished l (length m) n p r)
    (λ why h. refused l (length m) n (length m) why p q r is (refused_ends l _ q r (length m) why c.requires.done (moved.same ∙ c.new.ensures) moved.still h) h) c.offer.ensures.refused
