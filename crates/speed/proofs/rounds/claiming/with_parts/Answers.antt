use Rattle.std.proofs.Common.{rules, ◌≡◌, [], ◌∷◌, length, ◌∙◌}
use Rattle.claims.proofs.Eights.{eight}
use Rattle.speed.proofs.rounds.claiming.with_parts.Goals as goal

pub returns : goal.returns
returns c =
    let long : length c.args.claimants ≡ 8 = search rules in
    (λ i. c.job_of.ensures i ∷ c.job_of-2.ensures i ∷ c.job_of-3.ensures i ∷ c.job_of-4.ensures i ∷ c.job_of-5.ensures i ∷ c.job_of-6.ensures i ∷ c.job_of-7.ensures i ∷ c.job_of-8.ensures i ∷ [])
    ∙ eight c.args.claimants c.zero-1.given.0 c.one-1.given.0 c.two-1.given.0 c.three-1.given.0 c.four-1.given.0 c.five-1.given.0 c.six-1.given.0 c.seven-1.given.0 long c.zero-1.given.1 c.one-1.given.1 c.two-1.given.1 c.three-1.given.1 c.four-1.given.1 c.five-1.given.1 c.six-1.given.1 c.seven-1.given.1
