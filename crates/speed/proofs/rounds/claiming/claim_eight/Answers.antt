use Rattle.std.proofs.Common.{rules, ◌≡◌, length, ap, arith}
use Rattle.log_rule.specs.Claims.Sums.{total}
use Rattle.speed.specs.Rounds.{job_parts, parts_of}
use Rattle.claims.proofs.Eights.{eight}
use Rattle.speed.proofs.Lanes.{sum_four}
use Rattle.speed.proofs.rounds.claiming.claim_eight.Goals as goal

pub returns-clause-parts : goal.returns-clause-parts
returns-clause-parts g c =
    let long : length c.args.jobs ≡ 8 = search rules in
    let jobs = ap (total job_parts) (eight c.args.jobs c.zero-1.given.0 c.one-1.given.0 c.two-1.given.0 c.three-1.given.0 c.four-1.given.0 c.five-1.given.0 c.six-1.given.0 c.seven-1.given.0 long c.zero-1.given.1 c.one-1.given.1 c.two-1.given.1 c.three-1.given.1 c.four-1.given.1 c.five-1.given.1 c.six-1.given.1 c.seven-1.given.1) in
    let few : length c.join-low.result.0 ≡ 4 = search rules in
    let more : length c.join-low.result.1 ≡ 4 = search rules in
    let low = sum_four parts_of c.join-low.result.0 c.zero-2-1.given.0 c.one-2-1.given.0 c.two-2-1.given.0 c.three-2-1.given.0 few c.zero-2-1.given.1 c.one-2-1.given.1 c.two-2-1.given.1 c.three-2-1.given.1 in
    let high = sum_four parts_of c.join-low.result.1 c.four-2-1.given.0 c.five-2-1.given.0 c.six-2-1.given.0 c.seven-2-1.given.0 more c.four-2-1.given.1 c.five-2-1.given.1 c.six-2-1.given.1 c.seven-2-1.given.1 in
    omega (arith, jobs, low, high, c.join-low.ensures.first.1, c.join-low.ensures.second.1)
