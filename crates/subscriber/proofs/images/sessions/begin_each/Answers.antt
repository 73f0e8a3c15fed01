use Rattle.std.proofs.Common.{◌≡◌, ◌<◌, ◌≤◌, length, get_or, ap, arith}
use Rattle.std.proofs.lemmas.Slice.Zip.{AllZip-map}
use Rattle.subscriber.specs.Sessions.{turn_begun}
use Rattle.subscriber.specs.Watches.{Seen}
use Rattle.subscriber.specs.declared.images.session.Session.{Session}
use Rattle.subscriber.proofs.Along.{all_along, more_along}
use Rattle.subscriber.proofs.images.sessions.begin_each.Goals as goal

pub loop-session-preserved : goal.loop-session-preserved
loop-session-preserved c =
    let l = c.loop-session in
    let same = l.auto.sessions in
    let low : l.session-index < length l.sessions = omega (arith, same, c.loop-session-test.true) in
    let here = get_or l.sessions l.session-index c.session-item.result in
    more_along (λ (j k : Session). k ≡ turn_begun c.args.now j) l.session-index c.args.sessions.now l.sessions c.session-item.result (record here { watch = c.begin_turn.new.self }) l.invariant low
    (ap (λ (w : Seen). record here { watch = w }) c.begin_turn.ensures)

pub returns : goal.returns
returns c =
    let l = c.loop-session in
    let same = l.auto.sessions in
    let end : length l.sessions ≤ l.session-index = omega (arith, same, c.loop-session-test.false) in
    AllZip-map (turn_begun c.args.now) c.args.sessions.now l.sessions (all_along (λ (j k : Session). k ≡ turn_begun c.args.now j) l.session-index c.args.sessions.now l.sessions l.invariant end)
