use Rattle.std.proofs.Common.{rules, subst}
use Rattle.theory.specs.Position.{IsGeometry}
use Rattle.theory.specs.Bytes.{Identity}
use Rattle.frame_source.specs.Sources.{Passes}
use Rattle.shared_log.specs.Steps.Handles.{LogValue}
use Rattle.shared_log.specs.Sourced.{source_of}
use Rattle.shared_log.proofs.Sourced.{advance_looked, passes}
use Rattle.claims.proofs.passes.source.ReaderPassFrameSource.advance.Goals as goal

pub returns-clause-passes : goal.returns-clause-passes
returns-clause-passes g c =
    let l : LogValue = c.deref-log.result.now in let r = c.args.self.now.reader in
    let legal : IsGeometry l.identity.geometry = subst (λ (i : Identity). IsGeometry i.geometry) c.identity.ensures.is (subst IsGeometry c.geometry-shape.ensures.value c.geometry-shape.ensures.legal) in
    subst (λ (m : LogValue). Passes (source_of m r) c.advance.result (source_of m c.advance.new.reader)) c.deref-log.ensures (passes l r c.advance.new.reader c.advance.result legal (search rules) c.advance.ensures.advances c.advance.ensures.answer)

pub returns-clause-leaves : goal.returns-clause-leaves
returns-clause-leaves g c = (record { log = search rules; number = search rules; looked = advance_looked c.args.self.now.reader c.advance.new.reader c.advance.ensures.advances }, search rules)
