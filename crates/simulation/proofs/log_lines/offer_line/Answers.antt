use Rattle.std.proofs.Common.{[], ◌∷◌, ◌∙◌, refl, rules, subst, sym}
use Rattle.script_meaning.specs.Answers.{Offered}
use Rattle.script_meaning.specs.LineContents.{Position, Refused}
use Rattle.simulation.proofs.Offers.{all_bytes, has_claim, no_claim, offers, some_claim}
use Rattle.simulation.proofs.log_lines.offer_line.Goals as goal

pub returns-then-is_some-clause-leads : goal.returns-then-is_some-clause-leads
returns-then-is_some-clause-leads c = has_claim _ c.args.publisher.number c.args.message.now (some_claim _ _ _ c.claimed.ensures c.is_some.ensures c.if-is_some.true)

pub returns-in-Ok-clause-leads : goal.returns-in-Ok-clause-leads
returns-in-Ok-clause-leads c = offers _ _ c.args.publisher.number c.args.message.now (Position c.in-Ok.position)
    (record { legal = c.is_whole.ensures; publisher = search rules; bytes = all_bytes c.args.message.now c.type_inv.message; short = c.requires })
    (no_claim _ _ _ c.claimed.ensures c.is_some.ensures c.if-is_some.false)
    (λ s t e. subst (λ a. Offered s c.args.publisher.number c.args.message.now a (Position c.in-Ok.position ∷ []) t) (sym c.in-Ok.is ∙ c.offer.ensures.answer) (refl, e)) c.offer.ensures.after

pub returns-in-Err-clause-leads : goal.returns-in-Err-clause-leads
returns-in-Err-clause-leads c = offers _ _ c.args.publisher.number c.args.message.now (Refused c.in-Err.refusal)
    (record { legal = c.is_whole.ensures; publisher = search rules; bytes = all_bytes c.args.message.now c.type_inv.message; short = c.requires })
    (no_claim _ _ _ c.claimed.ensures c.is_some.ensures c.if-is_some.false)
    (λ s t e. subst (λ a. Offered s c.args.publisher.number c.args.message.now a (Refused c.in-Err.refusal ∷ []) t) (sym c.in-Err.is ∙ c.offer.ensures.answer) (refl, e)) c.offer.ensures.after
