use Rattle.std.proofs.Common.{rules, ◌≡◌, ◌++◌, length, ◌∙◌}
use Rattle.claims.proofs.Eights.{eight, four}
use Rattle.claims.proofs.parts.with_blocks.Goals as goal

pub returns : goal.returns
returns c =
    let long : length c.args.publishers ≡ 8 = search rules in
    let front = four c.in_ok-front.front _ _ _ _ (search rules) c.zero-2-1.given.1 c.one-2-1.given.1 c.two-2-1.given.1 c.three-2-1.given.1 ∙ c.in_ok-front.ensures in
    let back = four c.in_ok-back.back _ _ _ _ (search rules) c.four-2-1.given.1 c.five-2-1.given.1 c.six-2-1.given.1 c.seven-2-1.given.1 ∙ c.in_ok-back.ensures in
    (λ i. front i ++ back i)
    ∙ eight c.args.publishers _ _ _ _ _ _ _ _ long c.zero-1.given.1 c.one-1.given.1 c.two-1.given.1 c.three-1.given.1 c.four-1.given.1 c.five-1.given.1 c.six-1.given.1 c.seven-1.given.1
