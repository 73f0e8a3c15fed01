use Rattle.std.proofs.Common.{◌∙◌, List, length, ap, arith, inr, subst, sym}
use Rattle.std.specs.Prelude.{IfSome}
use Rattle.std.specs.List.{AllByRecursion}
use Rattle.std.proofs.lemmas.Result.{IfOk-weaker, err_from_is_err_and}
use Rattle.subscriber.specs.Apart.{AreApart}
use Rattle.subscriber.specs.Calls.{IsJoined}
use Rattle.subscriber.specs.Living.{FollowsAll}
use Rattle.subscriber.specs.Sessions.{IsBegun}
use Rattle.subscriber.specs.Watches.{Seen, beginning}
use Rattle.subscriber.specs.declared.images.session.Session.{Session}
use Rattle.subscriber.proofs.Faults.{listened_run}
use Rattle.subscriber.proofs.Placed.{before_image, joined_all, none_written}
use Rattle.subscriber.proofs.subscription.Subscription.listen_and_follow.Goals as goal

pub follow_all-requires-clause-begins : goal.follow_all-requires-clause-begins
follow_all-requires-clause-begins g c =
    let joined = (subst (λ found. IfSome found (IsJoined c.args.self.now.plan 0 1 c.listen.new.watch.moment)) c.in-Some.is c.in_ok-listen.ensures.joined).joined in
    subst (AllByRecursion IsBegun) (sym c.in_ok-sessions-in-Some.ensures.0)
    (record { sized = ap (λ d. d.mtu) joined.duty; going = joined.ended; fresh = joined.watch ∙ ap beginning (sym (ap (λ (s : Seen). s.moment) joined.watch)) }, tt)

pub follow_all-requires-clause-some : goal.follow_all-requires-clause-some
follow_all-requires-clause-some g c = let size = ap length c.in_ok-sessions-in-Some.ensures.0 in omega (arith, size)

pub follow_all-requires-clause-places : goal.follow_all-requires-clause-places
follow_all-requires-clause-places g c = let size = ap length c.in_ok-sessions-in-Some.ensures.0 in omega (arith, size)

pub follow_all-requires-clause-apart : goal.follow_all-requires-clause-apart
follow_all-requires-clause-apart g c = subst AreApart (sym c.in_ok-sessions-in-Some.ensures.0) (tt, tt)

pub follow_all-requires-clause-begun : goal.follow_all-requires-clause-begun
follow_all-requires-clause-begun g c =
    let joined = subst (λ found. IfSome found (IsJoined c.args.self.now.plan 0 1 c.listen.new.watch.moment)) c.in-Some.is c.in_ok-listen.ensures.joined in
    subst (λ (zs : List Session). FollowsAll c.args.self.now.plan (g.W.Write.contents c.args.output.now) 0 zs (g.W.Write.contents c.args.output.now)) (sym c.in_ok-sessions-in-Some.ensures.0)
    (joined_all c.args.self.now.plan (g.W.Write.contents c.args.output.now) c.listen.new.watch.moment c.in-Some.session joined)

pub returns-in_ok-sessions-in-Some-clause-ended : goal.returns-in_ok-sessions-in-Some-clause-ended
returns-in_ok-sessions-in-Some-clause-ended g c = IfOk-weaker c.follow_all.result _ _ (λ s ended. inr ended) c.follow_all.ensures.ended

pub returns-in_err-listen-clause-broken : goal.returns-in_err-listen-clause-broken
returns-in_err-listen-clause-broken g c = before_image _ _ c.from_residual.result

pub returns-in-None-clause-lives : goal.returns-in-None-clause-lives
returns-in-None-clause-lives g c = none_written c.args.self.now.plan (g.W.Write.contents c.args.output.now)

pub returns-in_err-sessions-in-Some-clause-broken : goal.returns-in_err-sessions-in-Some-clause-broken
returns-in_err-sessions-in-Some-clause-broken g c = before_image _ _ c.from_residual-in_err-sessions-in-Some.result

pub returns-in_err-listen-clause-caused : goal.returns-in_err-listen-clause-caused
returns-in_err-listen-clause-caused g c =
    let p = err_from_is_err_and c.from_residual.result c.from_residual.ensures.1 in
    rw (p.1, p.2) (listened_run c.args.self.now.plan _ c.listen.new.reception.socket c.in_err-listen.ensures.caused)
