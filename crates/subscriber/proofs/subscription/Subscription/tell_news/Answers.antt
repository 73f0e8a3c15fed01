use Rattle.std.proofs.Common.{◌≡◌, ◌<◌, ◌≤◌, length, arith}
use Rattle.std.proofs.lemmas.Slice.Zip.{AllZip-map}
use Rattle.subscriber.specs.Sessions.{news_told}
use Rattle.subscriber.specs.declared.images.session.Session.{Session}
use Rattle.subscriber.proofs.Along.{all_along, more_along}
use Rattle.subscriber.proofs.subscription.Subscription.tell_news.Goals as goal

pub loop-place-preserved : goal.loop-place-preserved
loop-place-preserved g c =
    let l = c.loop-place in
    let same = l.auto.sessions in
    let low : l.place < length l.sessions = omega (arith, same, l.auto.place-end, c.loop-place-test.true) in
    more_along (λ (j k : Session). k ≡ news_told j) l.place c.args.sessions.now l.sessions c.index-sessions-place.result _ l.invariant low c.tell_news_of.ensures

pub returns : goal.returns
returns g c =
    let l = c.loop-place in
    let same = l.auto.sessions in
    let end : length l.sessions ≤ l.place = omega (arith, same, l.auto.place-end, c.loop-place-test.false) in
    AllZip-map news_told c.args.sessions.now l.sessions (all_along (λ (j k : Session). k ≡ news_told j) l.place c.args.sessions.now l.sessions l.invariant end)
