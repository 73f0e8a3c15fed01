use Rattle.std.proofs.Common.{◌≡◌, ap, ◌∙◌, subst, arith}
use Rattle.theory.specs.Bytes.{Identity}
use Rattle.theory.specs.Position.{IsGeometry}
use Rattle.publication.specs.Steps.{geometry_of}
use Rattle.publication.proofs.claiming.add_range.Goals as goal

pub add_frames-requires-clause-short : goal.add_frames-requires-clause-short
add_frames-requires-clause-short g c =
    let geometry : c.geometry.result ≡ geometry_of (g.W.WordCalls.pass_of c.args.words.now c.args.pass.now) = c.geometry.ensures.value ∙ ap (λ (i : Identity). i.geometry) c.identity.ensures in
    let legal : IsGeometry (geometry_of (g.W.WordCalls.pass_of c.args.words.now c.args.pass.now)) = subst IsGeometry geometry c.geometry.ensures.legal in
    omega (arith, c.requires.short, legal.mtu.within, legal.mtu.greatest, legal.mtu.least)
