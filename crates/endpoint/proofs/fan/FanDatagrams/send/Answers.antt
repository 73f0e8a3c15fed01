use Rattle.std.proofs.Common.{◌≡◌, ◌<◌, length, length-set, set, subst, sym, Ok, Err, arith}
use Rattle.endpoint.specs.Fans.{AllLive, AllSend, SendsOne, StopsAlong, all_still}
use Rattle.endpoint.proofs.FanLemmas.{all_along, given_back, none_sent, one_failed, one_lives, one_sent}
use Rattle.endpoint.proofs.fan.FanDatagrams.send.Goals as goal

pub loop-way-init : goal.loop-way-init
loop-way-init g c = record {
  sent = none_sent g.D.Datagrams.device g.D.Datagrams.tells c.deref_mut-way-items.result.now c.args.datagram.now;
  lives = all_still g.D.Datagrams.lives g.met.D.Datagrams.lives_still c.deref_mut-way-items.result.now;
}

pub returns-in-Err-clause-along : goal.returns-in-Err-clause-along
returns-in-Err-clause-along g c =
    let l = c.loop-way in
    let start = c.deref_mut-way-items in
    let low : l.way-index < length l.way-items = omega (arith, l.auto.way-items, c.loop-way-test.true) in
    let many : c.self.inside.ways.len ≡ length (set l.way-items l.way-index c.send.new.self) = omega (arith, length-set l.way-items l.way-index c.send.new.self, l.auto.way-items, start.ensures.len) in
    rw (← c.self.view_is) (given_back (λ a b. StopsAlong g.D.Datagrams.device g.D.Datagrams.tells a c.args.datagram.now c.in-Err.failed b) start.result.now (set l.way-items l.way-index c.send.new.self) c.self.inside.ways.items c.self.inside.ways.len start.ensures.value many
    (one_failed g.D.Datagrams.device g.D.Datagrams.tells start.result.now l.way-items c.args.datagram.now l.way-index c.way-item.result c.send.new.self c.in-Err.failed l.invariant.sent low c.way-item.is
    (subst (λ w. SendsOne g.D.Datagrams.device g.D.Datagrams.tells w c.args.datagram.now (Err c.in-Err.failed) c.send.new.self) (sym c.way-item.is) (record { sends = c.in-Err.ensures.sends; still_tells = c.in-Err.ensures.still_tells }))))

pub loop-way-preserved : goal.loop-way-preserved
loop-way-preserved g c =
    let l = c.loop-way in
    let start = c.deref_mut-way-items.result.now in
    let low : l.way-index < length l.way-items = omega (arith, l.auto.way-items, c.loop-way-test.true) in
    record {
      sent = one_sent g.D.Datagrams.device g.D.Datagrams.tells start l.way-items c.args.datagram.now l.way-index c.way-item.result c.send.new.self l.invariant.sent low c.way-item.is
          (subst (λ w. SendsOne g.D.Datagrams.device g.D.Datagrams.tells w c.args.datagram.now (Ok tt) c.send.new.self) (sym c.way-item.is) (record { sends = c.in_default.ensures.sends; still_tells = c.in_default.ensures.still_tells }));
      lives = one_lives g.D.Datagrams.lives g.met.D.Datagrams.lives_on start l.way-items l.way-index c.way-item.result c.send.new.self l.invariant.lives low c.way-item.is (subst (λ w. g.D.Datagrams.lives w c.send.new.self) (sym c.way-item.is) c.send.ensures.lives);
    }

pub returns-in-Err-clause-lives : goal.returns-in-Err-clause-lives
returns-in-Err-clause-lives g c =
    let l = c.loop-way in
    let start = c.deref_mut-way-items in
    let low : l.way-index < length l.way-items = omega (arith, l.auto.way-items, c.loop-way-test.true) in
    let many : c.self.inside.ways.len ≡ length (set l.way-items l.way-index c.send.new.self) = omega (arith, length-set l.way-items l.way-index c.send.new.self, l.auto.way-items, start.ensures.len) in
    rw (← c.self.view_is) (given_back (AllLive g.D.Datagrams.lives) start.result.now (set l.way-items l.way-index c.send.new.self) c.self.inside.ways.items c.self.inside.ways.len start.ensures.value many
    (one_lives g.D.Datagrams.lives g.met.D.Datagrams.lives_on start.result.now l.way-items l.way-index c.way-item.result c.send.new.self l.invariant.lives low c.way-item.is (subst (λ w. g.D.Datagrams.lives w c.send.new.self) (sym c.way-item.is) c.send.ensures.lives)))

pub returns-clause-along : goal.returns-clause-along
returns-clause-along g c =
    let l = c.loop-way in
    let start = c.deref_mut-way-items in
    let many : c.self.inside.ways.len ≡ length l.way-items = omega (arith, l.auto.way-items, start.ensures.len) in
    rw (← c.self.view_is) (given_back (λ a b. AllSend g.D.Datagrams.device g.D.Datagrams.tells a c.args.datagram.now b) start.result.now l.way-items c.self.inside.ways.items c.self.inside.ways.len start.ensures.value many
    (all_along g.D.Datagrams.device g.D.Datagrams.tells start.result.now l.way-items c.args.datagram.now l.way-index l.invariant.sent (λ low. absurd (omega (arith, low, l.auto.way-items, c.loop-way-test.false)))))

pub returns-clause-lives : goal.returns-clause-lives
returns-clause-lives g c =
    let l = c.loop-way in
    let start = c.deref_mut-way-items in
    let many : c.self.inside.ways.len ≡ length l.way-items = omega (arith, l.auto.way-items, start.ensures.len) in
    rw (← c.self.view_is) (given_back (AllLive g.D.Datagrams.lives) start.result.now l.way-items c.self.inside.ways.items c.self.inside.ways.len start.ensures.value many l.invariant.lives)
