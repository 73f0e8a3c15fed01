use Rattle.std.proofs.Common.{rules, ◌≡◌, [], ◌∷◌, length, ◌∙◌}
use Rattle.claims.proofs.Eights.{eight}
use Rattle.speed.proofs.rounds.lane.lanes_of.Goals as goal

pub returns-clause-publishers : goal.returns-clause-publishers
returns-clause-publishers c =
    let long : length c.args.publishers ≡ 8 = search rules in
    (λ i. c.lane_of.ensures.publisher i ∷ c.lane_of-2.ensures.publisher i ∷ c.lane_of-3.ensures.publisher i ∷ c.lane_of-4.ensures.publisher i ∷ c.lane_of-5.ensures.publisher i ∷ c.lane_of-6.ensures.publisher i ∷ c.lane_of-7.ensures.publisher i ∷ c.lane_of-8.ensures.publisher i ∷ [])
    ∙ eight c.args.publishers c.zero-1.given.0 c.one-1.given.0 c.two-1.given.0 c.three-1.given.0 c.four-1.given.0 c.five-1.given.0 c.six-1.given.0 c.seven-1.given.0 long c.zero-1.given.1 c.one-1.given.1 c.two-1.given.1 c.three-1.given.1 c.four-1.given.1 c.five-1.given.1 c.six-1.given.1 c.seven-1.given.1
