use Rattle.std.proofs.Common.{◌≡◌, ◌∙◌, ap, arith, inl, refl}
use Rattle.std.proofs.lemmas.Result.{on_ok_weaker}
use Rattle.theory.specs.Position.{max_payload}
use Rattle.script.specs.Meaning as commands
use Rattle.simulation.specs.declared.line.Line.TheVariants as lines
use Rattle.simulation.proofs.Simulations.{log_answered, seen_as, too_long, unchanged}
use Rattle.simulation.proofs.simulation.Simulation.claim.Goals as goal

pub returns-then-size-from : goal.returns-then-size-from
returns-then-size-from c =
    let command = commands.Claim c.args.publisher.number c.args.size in
    let before = c.args.lines.now.items in
    let after = c.add_line.new.lines.items in
    let most : c.from.result ≡ max_payload c.self.inside.log.identity.geometry = c.from.ensures ∙ c.max_payload.ensures.value ∙ ap max_payload c.geometry.ensures.value in
    on_ok_weaker c.add_line.result (λ told. unchanged _ _ command before after c.self.view_is
    (too_long _ command (λ l. max_payload l.identity.geometry) c.args.size lines.Bad before after refl (omega (arith, most, c.if-size-from.true)) (λ s long. inl (inl long, (refl, refl))) told)) c.add_line.ensures

pub returns : goal.returns
returns c =
    let command = commands.Claim c.args.publisher.number c.args.size in
    let before = c.args.lines.now.items in
    let after = c.add_line-2.new.lines.items in
    on_ok_weaker c.add_line-2.result (λ told. seen_as _ _ _ command before after c.self.view_is (log_answered _ c.claim_line-line.new.log command c.claim_line-line.result before after c.claim_line-line.ensures.still c.claim_line-line.ensures.leads told)) c.add_line-2.ensures
