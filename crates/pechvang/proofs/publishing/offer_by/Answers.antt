use Rattle.std.proofs.Common.{inl, inr, refl, sym, subst, pos}
use mir.Syntax.{w32}
use mir.Val.{of_z, to_z}
use Rattle.pechvang.proofs.Coded.{coded}
use Rattle.std.specs.declared.option.Option.TheVariants.{Some}
use Rattle.pechvang.specs.declared.held.Pass.{Pass}
use Rattle.pechvang.specs.declared.held.Pass.TheVariants.{Publisher}
use Rattle.pechvang.specs.Publishing.{Offers}
use Rattle.pechvang.proofs.publishing.offer_by.Goals as goal

pub returns-in-Ok : goal.returns-in-Ok
returns-in-Ok c = subst (λ (x : Pass). Offers (Some x) c.args.message.now c.args.position.now (pos 0) c.in-Ok.end (Some (Publisher c.offer.new.self))) (sym (c.in-Publisher.is)) (inl record { after = c.offer.new.self; held = refl; code_is = refl; did = c.in-Ok.ensures.accepted })

pub returns-in-Err : goal.returns-in-Err
returns-in-Err c = subst (λ (x : Pass). Offers (Some x) c.args.message.now c.args.position.now (to_z w32 (of_z w32 c.code.result)) c.args.position.now (Some (Publisher c.offer.new.self))) (sym (c.in-Publisher.is)) (inr (record { fault = c.in-Err.fault; after = c.offer.new.self; held = refl; code_is = coded c.in-Err.fault c.code.result c.code.ensures; why = c.in-Err.ensures.declined }, refl))
