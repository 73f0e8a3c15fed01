use Rattle.std.proofs.Common.{◌≡◌, ◌+◌, ap, sym, ◌∙◌, refl, arith}
use Rattle.theory.specs.Bytes.{Identity}
use Rattle.theory.specs.Position.{Geometry, framed_length}
use Rattle.publication.specs.declared.pass.Pass.{Pass}
use Rattle.log_rule.specs.Shares.{claimed_bytes}
use Rattle.log_rule.proofs.Shares.{adds_share}
use Rattle.shared_log.specs.Steps.Handles.{LogValue, PublisherValue}
use Rattle.shared_log.proofs.Holding.{publisher_kept}
use Rattle.shared_log.proofs.Owned.{adds_owns}
use Rattle.shared_log.proofs.publisher.calls.OnLogWordCalls.add.Goals as goal

pub overflow_add-pass : goal.overflow_add-pass
overflow_add-pass c =
    let g : Geometry = c.self.inside.log.now.identity.geometry in
    let shape : c.pass.inside.handle.pass.pass.identity.geometry ≡ g = ap (λ (p : PublisherValue). p.pass.identity.geometry) c.pass.view_is ∙ ap (λ (i : Identity). i.geometry) (c.requires.fits.identity ∙ sym (ap (λ (l : LogValue). l.identity) c.self.view_is)) in
    let grown : c.pass.inside.share + c.from.result ≡ claimed_bytes c.add-word.new.pass.pass =
    adds_share c.pass.inside.handle.pass.pass c.add-word.new.pass.pass c.args.size c.add-word.result.0 g shape c.identity.ensures.legal c.add-word.ensures.told c.pass.inside.share (framed_length g c.args.size) c.from.result c.pass.invariant.publishing.share_is refl (c.from.ensures ∙ c.add-word.ensures.taken) in
    let low = c.add-word.ensures.low in omega (arith, low, grown)

pub invariant_of-pass : goal.invariant_of-pass
invariant_of-pass c =
    let g : Geometry = c.self.inside.log.now.identity.geometry in
    let shape : c.pass.inside.handle.pass.pass.identity.geometry ≡ g = ap (λ (p : PublisherValue). p.pass.identity.geometry) c.pass.view_is ∙ ap (λ (i : Identity). i.geometry) (c.requires.fits.identity ∙ sym (ap (λ (l : LogValue). l.identity) c.self.view_is)) in
    let grown : c.pass.inside.share + c.from.result ≡ claimed_bytes c.add-word.new.pass.pass =
    adds_share c.pass.inside.handle.pass.pass c.add-word.new.pass.pass c.args.size c.add-word.result.0 g shape c.identity.ensures.legal c.add-word.ensures.told c.pass.inside.share (framed_length g c.args.size) c.from.result c.pass.invariant.publishing.share_is refl (c.from.ensures ∙ c.add-word.ensures.taken) in
    let v : Pass = c.pass.inside.handle.pass.pass in let step = c.add-word.ensures.stepped in let was = c.pass.invariant.publishing in
    publisher_kept c.pass.invariant step.of step.freed step.same.identity step.same.start record {
      owns = adds_owns v c.args.size c.add-word.result.0 c.add-word.new.pass.pass c.add-word.ensures.told was.owns;
      parts = (let e = step.same.parts in let able = was.parts in omega (arith, e, able));
      number_is = was.number_is ∙ sym step.same.number;
      share_is = grown;
    }
