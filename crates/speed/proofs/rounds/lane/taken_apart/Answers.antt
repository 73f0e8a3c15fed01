use Rattle.std.proofs.Common.{rules, ◌≡◌, length, map, ap}
use Rattle.speed.specs.Rounds.{publisher_in}
use Rattle.claims.proofs.Eights.{eight}
use Rattle.speed.proofs.rounds.lane.taken_apart.Goals as goal

pub returns-clause-publishers : goal.returns-clause-publishers
returns-clause-publishers c =
    let long : length c.args.lanes ≡ 8 = search rules in
    ap (map publisher_in) (eight c.args.lanes c.zero-1.given.0 c.one-1.given.0 c.two-1.given.0 c.three-1.given.0 c.four-1.given.0 c.five-1.given.0 c.six-1.given.0 c.seven-1.given.0 long c.zero-1.given.1 c.one-1.given.1 c.two-1.given.1 c.three-1.given.1 c.four-1.given.1 c.five-1.given.1 c.six-1.given.1 c.seven-1.given.1)
