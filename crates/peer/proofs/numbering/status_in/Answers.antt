use Rattle.theory.specs.Wire.{SM}
use Rattle.peer.proofs.Numbered.{by_some, no_some}
use Rattle.peer.proofs.numbering.status_in.Goals as goal

pub returns-in_default-clause-only : goal.returns-in_default-clause-only
returns-in_default-clause-only c = λ flags m spells. absurd (no_some c.frame_in.result _ c.in_default.is (c.frame_in.ensures.only (SM flags m) spells))

pub returns-clause-only : goal.returns-clause-only
returns-clause-only c = λ flags m spells. c.status_of.ensures.only flags m (by_some c.frame_in.result _ c.in-Some.frame c.in-Some.is (c.frame_in.ensures.only (SM flags m) spells))
