use Rattle.std.proofs.Common.{◌≡◌, ◌∙◌, ap, refl, rules}
use Rattle.std.specs.Prelude.{ℤ}
use Rattle.theory.specs.Position.{position_of}
use Rattle.sender.specs.Resending.Answers.{nak_result}
use Rattle.sender.specs.Resending.Handler.{nak_answer_of}
use Rattle.sender.specs.Sending.{Sending}
use Rattle.sender.proofs.sender_core.SenderCore.on_nak.Goals as goal

pub returns-clause-answer : goal.returns-clause-answer
returns-clause-answer g c =
    let S = Sending g.row.R.Denot g.row.F.Denot in
    let o = c.self.inside in
    let nak = c.args.nak.now in
    let position : c.position-position.result ≡ position_of o.identity.geometry nak.term_id nak.term_offset = search rules in
    let answer : nak_result c.on_nak.result ≡ nak_answer_of o.handler o.clock c.position-position.result nak.length = search rules in
    (c.on_nak.result, refl, answer ∙ ap (λ (p : ℤ). nak_answer_of o.handler o.clock p nak.length) position ∙ ap (λ (s : S). nak_answer_of s.handler s.clock (position_of s.identity.geometry nak.term_id nak.term_offset) nak.length) c.self.view_is)
