use Rattle.std.proofs.Common.{◌≡◌, ℕ, arith, ap, ◌∙◌, subst}
use Rattle.std.proofs.lemmas.Result.{IfErr-weaker, IfOk-weaker}
use Rattle.theory.specs.Bytes.{Identity}
use Rattle.theory.specs.Position.{IsGeometry, framed_length}
use Rattle.theory.specs.Refusal.{IsJustified}
use Rattle.publication.specs.declared.refusal.Refusal.{Refusal}
use Rattle.publication.specs.Steps.{geometry_of}
use Rattle.publication.specs.Refusals.{sights, why_of}
use Rattle.publication.specs.Claims.{Claimed, Justified}
use Rattle.publication.specs.Offers.{Opened}
use Rattle.publication.proofs.Justifying.{justified}
use Rattle.publication.proofs.Offering.{opened_one}
use Rattle.publication.proofs.offers.try_claim.Goals as goal

pub claim-requires-clause-short : goal.claim-requires-clause-short
claim-requires-clause-short g c =
    let geometry : c.geometry.result ≡ geometry_of (g.W.WordCalls.pass_of c.args.words.now c.args.pass.now) = c.geometry.ensures.value ∙ ap (λ (i : Identity). i.geometry) c.identity.ensures in
    let legal : IsGeometry (geometry_of (g.W.WordCalls.pass_of c.args.words.now c.args.pass.now)) = subst IsGeometry geometry c.geometry.ensures.legal in
    omega (arith, c.requires.short, legal.mtu.within, legal.mtu.greatest, legal.mtu.least)

pub returns-clause-accepted : goal.returns-clause-accepted
returns-clause-accepted g c =
    IfOk-weaker c.claim.result (λ (start : ℕ). Claimed (g.W.WordCalls.pass_of c.args.words.now c.args.pass.now) c.args.size start (g.W.WordCalls.pass_of c.claim.new.words c.claim.new.pass)) (λ (start : ℕ). Opened (g.W.WordCalls.pass_of c.args.words.now c.args.pass.now) c.args.size start (g.W.WordCalls.pass_of c.claim.new.words c.claim.new.pass))
    (λ start h. opened_one (g.W.WordCalls.pass_of c.args.words.now c.args.pass.now) (g.W.WordCalls.pass_of c.claim.new.words c.claim.new.pass) c.args.size start h c.requires.short) c.claim.ensures.accepted

pub returns-clause-justified : goal.returns-clause-justified
returns-clause-justified g c =
    IfErr-weaker c.claim.result (λ (why : Refusal). Justified (g.W.WordCalls.pass_of c.args.words.now c.args.pass.now) c.args.size why (g.W.WordCalls.pass_of c.claim.new.words c.claim.new.pass))
    (λ (why : Refusal). IsJustified (geometry_of (g.W.WordCalls.pass_of c.args.words.now c.args.pass.now)) (framed_length (geometry_of (g.W.WordCalls.pass_of c.args.words.now c.args.pass.now)) c.args.size) (sights (g.W.WordCalls.pass_of c.claim.new.words c.claim.new.pass).call) (why_of why))
    (λ why h. justified (g.W.WordCalls.pass_of c.args.words.now c.args.pass.now) (g.W.WordCalls.pass_of c.claim.new.words c.claim.new.pass) c.args.size why h) c.claim.ensures.refused
