use Rattle.std.proofs.lemmas.Result.{err_from_is_err_and}
use Rattle.subscriber.proofs.Placed.{all_written, ends_with}
use Rattle.subscriber.proofs.subscription.Subscription.follow_all.Goals as goal

pub returns-clause-lives : goal.returns-clause-lives
returns-clause-lives g c = all_written _ _ _ _ _ c.in_ok-messages.ensures.places c.in_ok-messages.ensures.lives

pub returns-clause-ended : goal.returns-clause-ended
returns-clause-ended g c = ends_with _ _ _ _ c.follow-followed.new.sessions.list.items c.in_ok-messages.ensures.some c.in_ok-messages.ensures.places c.in_ok-messages.ensures.apart c.in_ok-messages.ensures.lives c.in_ok-messages.ensures.stood c.in_ok-messages.ensures.ended

pub returns-in_err-messages-clause-broken : goal.returns-in_err-messages-clause-broken
returns-in_err-messages-clause-broken g c =
    let p = err_from_is_err_and c.from_residual.result c.from_residual.ensures.1 in
    rw p.1 c.in_err-messages.ensures.broken
