use Rattle.std.proofs.Common.{arith}
use Rattle.subscriber.proofs.Settled.{settled_at}
use Rattle.subscriber.proofs.subscription.+are_settled.Goals as goal

pub returns-in-len1-up : goal.returns-in-len1-up
returns-in-len1-up t c = let some = c.in-len1-up.len_at_least in settled_at c.args.plan.now c.args.sessions.now _ _ _ _ (omega (arith, some)) c.first-item.is c.is_settled.ensures c.stand.ensures c.are_settled-rest.ensures
