use Rattle.std.proofs.Common.{inl, inr, refl, sym, ◌∙◌, subst, pos}
use mir.Syntax.{w32}
use mir.Val.{of_z, to_z}
use Rattle.pechvang.proofs.Coded.{coded}
use Rattle.std.specs.declared.option.Option.TheVariants.{Some}
use Rattle.pechvang.specs.declared.held.Pass.{Pass}
use Rattle.pechvang.specs.declared.held.Pass.TheVariants.{Claim, Publisher}
use Rattle.pechvang.specs.Publishing.{Claims}
use Rattle.pechvang.proofs.publishing.claim_by.Goals as goal

pub returns-in-Ok : goal.returns-in-Ok
returns-in-Ok c = subst (λ (x : Pass). Claims (Some x) c.args.size c.args.start.now (pos 0) c.start.result (Some (Claim c.in-Ok.claim))) (sym (sym c.replace.ensures.value ∙ c.in-Publisher.is)) (inl record { after = c.in-Ok.claim; held = refl; code_is = refl; did = (c.in-Ok.ensures.opened, c.start.ensures) })

pub returns-in-Err : goal.returns-in-Err
returns-in-Err c = subst (λ (x : Pass). Claims (Some x) c.args.size c.args.start.now (to_z w32 (of_z w32 c.code.result)) c.args.start.now (Some (Publisher c.in-Err.publisher))) (sym (sym c.replace.ensures.value ∙ c.in-Publisher.is)) (inr (record { fault = c.in-Err.fault; after = c.in-Err.publisher; held = refl; code_is = coded c.in-Err.fault c.code.result c.code.ensures; why = c.in-Err.ensures.declined }, refl))
