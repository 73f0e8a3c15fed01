use Rattle.std.proofs.Common.{◌∙◌}
use Rattle.agent_tests.proofs.way.send.Goals as goal

pub returns : goal.returns
returns g c =
    let e = c.cycle-answer.ensures in
    record { stands = e.stands.0; from = e.stands.1; size = e.size.1 ∙ c.requires.size }
