use Rattle.std.proofs.Common.{◌≡◌, ℕ, ◌+◌, ◌≤◌, arith, rules, refl, ap, ◌∙◌, length, List, IfErr}
use Rattle.std.proofs.lemmas.Result.{IfErr-weaker}
use Rattle.theory.specs.Bytes.{Identity}
use Rattle.theory.specs.Position.{Geometry, cuts_of, framed_length}
use Rattle.theory.specs.Refusal.{IsJustified}
use Rattle.publication.specs.declared.refusal.Refusal.{Refusal}
use Rattle.publication.specs.declared.step.WordStep.{WordStep}
use Rattle.publication.specs.Steps.{geometry_of}
use Rattle.publication.specs.Refusals.{sights, why_of}
use Rattle.publication.specs.Claims.{Justified, message_stores, padding_stores}
use Rattle.publication.proofs.Steppings.{calls_further}
use Rattle.publication.proofs.Justifying.{justified}
use Rattle.publication.proofs.Offering.{claimed_blanks, claimed_identity, claimed_nothing, filled_call, offered}
use Rattle.publication.proofs.offers.offer.Goals as goal

pub returns-in_err-start-clause-justified : goal.returns-in_err-start-clause-justified
returns-in_err-start-clause-justified g c =
    let refused : IfErr c.from_residual.result (λ (why : Refusal). Justified (g.W.WordCalls.pass_of c.args.words.now c.args.pass.now) (length c.args.message.now) why (g.W.WordCalls.pass_of c.claim.new.words c.claim.new.pass)) = search rules in
    IfErr-weaker c.from_residual.result (λ (why : Refusal). Justified (g.W.WordCalls.pass_of c.args.words.now c.args.pass.now) (length c.args.message.now) why (g.W.WordCalls.pass_of c.claim.new.words c.claim.new.pass))
    (λ (why : Refusal). IsJustified (geometry_of (g.W.WordCalls.pass_of c.args.words.now c.args.pass.now)) (framed_length (geometry_of (g.W.WordCalls.pass_of c.args.words.now c.args.pass.now)) (length c.args.message.now)) (sights (g.W.WordCalls.pass_of c.claim.new.words c.claim.new.pass).call) (why_of why))
    (λ why h. justified (g.W.WordCalls.pass_of c.args.words.now c.args.pass.now) (g.W.WordCalls.pass_of c.claim.new.words c.claim.new.pass) (length c.args.message.now) why h) refused

pub write_message-requires-clause-blanks : goal.write_message-requires-clause-blanks
write_message-requires-clause-blanks g c = claimed_blanks (g.W.WordCalls.pass_of c.args.words.now c.args.pass.now) (g.W.WordCalls.pass_of c.claim.new.words c.claim.new.pass) (length c.args.message.now) c.in_ok-start.start c.in_ok-start.ensures.accepted

pub returns-clause-accepted : goal.returns-clause-accepted
returns-clause-accepted g c =
    let geometry : c.geometry-geometry.result ≡ geometry_of (g.W.WordCalls.pass_of c.args.words.now c.args.pass.now) = c.geometry-geometry.ensures.value ∙ ap (λ (i : Identity). i.geometry) c.identity.ensures in
    let covered : c.from.result ≡ framed_length (geometry_of (g.W.WordCalls.pass_of c.args.words.now c.args.pass.now)) (length c.args.message.now) = c.from.ensures ∙ c.framed_length.ensures ∙ ap (λ (h : Geometry). framed_length h (length c.args.message.now)) geometry in
    offered (g.W.WordCalls.pass_of c.args.words.now c.args.pass.now) (g.W.WordCalls.pass_of c.claim.new.words c.claim.new.pass) (length c.args.message.now) c.in_ok-start.start c.in_ok-start.ensures.accepted (g.W.WordCalls.pass_of c.write_message.new.words c.write_message.new.pass) c.args.message.now (c.in_ok-start.start + c.from.result) refl c.write_message.ensures.fills (ap (λ (n : ℕ). c.in_ok-start.start + n) covered)

pub returns-clause-called : goal.returns-clause-called
returns-clause-called g c =
    let claimed = c.in_ok-start.ensures.accepted in
    let few : length (g.W.WordCalls.pass_of c.write_message.new.words c.write_message.new.pass).call ≤ 7 = (let same : length (g.W.WordCalls.pass_of c.write_message.new.words c.write_message.new.pass).call ≡ length (g.W.WordCalls.pass_of c.claim.new.words c.claim.new.pass).call = ap (λ (l : List WordStep). length l) (filled_call (g.W.WordCalls.pass_of c.claim.new.words c.claim.new.pass) (g.W.WordCalls.pass_of c.write_message.new.words c.write_message.new.pass) c.in_ok-start.start c.args.message.now (claimed_blanks (g.W.WordCalls.pass_of c.args.words.now c.args.pass.now) (g.W.WordCalls.pass_of c.claim.new.words c.claim.new.pass) (length c.args.message.now) c.in_ok-start.start c.in_ok-start.ensures.accepted) c.write_message.ensures.fills) in omega (arith, same, c.in_ok-start.ensures.called.few)) in
    calls_further g.W.WordCalls.fits g.W.WordCalls.pass_of g.W.WordCalls.name g.W.WordCalls.id g.W.WordCalls.took g.met.W.WordCalls.more _ _ _ _ _ _ padding_stores (message_stores (length c.args.message.now)) (message_stores (length c.args.message.now)) c.in_ok-start.ensures.called c.write_message.ensures.part few
    (ap (λ (n : ℕ). n + length (cuts_of (geometry_of (g.W.WordCalls.pass_of c.claim.new.words c.claim.new.pass)) (length c.args.message.now))) (claimed_nothing (g.W.WordCalls.pass_of c.args.words.now c.args.pass.now) (g.W.WordCalls.pass_of c.claim.new.words c.claim.new.pass) (length c.args.message.now) c.in_ok-start.start claimed)
    ∙ (let e : 0 + length (cuts_of (geometry_of (g.W.WordCalls.pass_of c.claim.new.words c.claim.new.pass)) (length c.args.message.now)) ≡ length (cuts_of (geometry_of (g.W.WordCalls.pass_of c.claim.new.words c.claim.new.pass)) (length c.args.message.now)) = omega arith in e)
    ∙ ap (λ (i : Identity). length (cuts_of i.geometry (length c.args.message.now))) (claimed_identity (g.W.WordCalls.pass_of c.args.words.now c.args.pass.now) (g.W.WordCalls.pass_of c.claim.new.words c.claim.new.pass) (length c.args.message.now) c.in_ok-start.start claimed))
