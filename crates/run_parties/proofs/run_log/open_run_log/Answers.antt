use Rattle.std.proofs.Common.{◌∙◌, ap, refl, subst}
use Rattle.theory.specs.Position.{Geometry, IsGeometry}
use Rattle.theory.specs.Bytes.{Identity}
use Rattle.agents.specs.NewPasses.{AreNewPasses}
use Rattle.run_parties.proofs.NewRunLogs.{is_new}
use Rattle.run_parties.proofs.run_log.open_run_log.Goals as goal

pub returns : goal.returns
returns c = is_new c.args.geometry c.args.count c.in_ok-log.field-0 _ c.requires (subst (λ (g : Geometry). IsGeometry g) (c.geometry-geometry.ensures.value ∙ ap (λ (i : Identity). i.geometry) c.new-identity.ensures) c.geometry-geometry.ensures.legal) (subst (λ (i : Identity). AreNewPasses i 0 c.in_ok-log.field-0) c.new-identity.ensures c.in_ok-log.ensures) refl c.in_ok-others.ensures.items c.in_ok-others.ensures.tail refl refl
