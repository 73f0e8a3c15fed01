use Rattle.std.proofs.lemmas.Result.{on_ok_weaker}
use Rattle.std.specs.Prelude.{is_some}
use Rattle.subscriber.proofs.Due.{counters_told, told_due}
use Rattle.subscriber.proofs.subscription.Subscription.tell.Goals as goal

pub returns-in-Some-clause-tells : goal.returns-in-Some-clause-tells
returns-in-Some-clause-tells g c =
    told_due c.args.self.now.plan c.args.written c.in-Some.since c.args.watch.now c.tells.new.self c.tells.result _ _ c.in-Some.is c.tells.ensures.due c.tells.ensures.begins
    (on_ok_weaker c.tell_counters_of.result (λ told. counters_told (is_some c.tells.result) c.args.sessions.now c.args.watch.now c.tells.new.self c.args.written c.in-Some.since _ _ c.tells.ensures.begins c.in-Some.ensures.since told) c.tell_counters_of.ensures)
