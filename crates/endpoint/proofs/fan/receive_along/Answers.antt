use Rattle.std.proofs.Common.{◌<◌, length, arith, subst, sym}
use Rattle.endpoint.specs.Fans.{all_still}
use Rattle.endpoint.proofs.FanLemmas.{one_lives, received_one}
use Rattle.endpoint.proofs.fan.receive_along.Goals as goal

pub returns-clause-receives : goal.returns-clause-receives
returns-clause-receives g c =
    let low = c.if-turn-ways.false in (
      (λ _. received_one g.D.Datagrams.device g.D.Datagrams.tells c.args.ways.now c.args.turn c.args.buffer.now c.recv.new.buffer c.recv.result c.index-ways-turn.result c.recv.new.self c.index-ways-turn.is c.recv.ensures.receives c.recv.ensures.still_tells),
      (λ high. absurd (omega (arith, low, high))),
    )

pub returns-clause-lives : goal.returns-clause-lives
returns-clause-lives g c =
    let low = c.if-turn-ways.false in
    let within : c.args.turn < length c.args.ways.now = omega (arith, low) in
    one_lives g.D.Datagrams.lives g.met.D.Datagrams.lives_on c.args.ways.now c.args.ways.now c.args.turn c.index-ways-turn.result c.recv.new.self (all_still g.D.Datagrams.lives g.met.D.Datagrams.lives_still c.args.ways.now) within c.index-ways-turn.is
    (subst (λ w. g.D.Datagrams.lives w c.recv.new.self) (sym c.index-ways-turn.is) c.recv.ensures.lives)

pub returns-then-turn-ways-clause-lives : goal.returns-then-turn-ways-clause-lives
returns-then-turn-ways-clause-lives g c = all_still g.D.Datagrams.lives g.met.D.Datagrams.lives_still c.args.ways.now
