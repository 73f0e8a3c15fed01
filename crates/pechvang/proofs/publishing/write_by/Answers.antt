use Rattle.std.proofs.Common.{inl, inr, refl, sym, subst, pos}
use mir.Syntax.{w32}
use mir.Val.{of_z, to_z}
use Rattle.pechvang.proofs.Coded.{coded}
use Rattle.std.specs.declared.option.Option.TheVariants.{Some}
use Rattle.pechvang.specs.declared.held.Pass.{Pass}
use Rattle.pechvang.specs.declared.held.Pass.TheVariants.{Claim}
use Rattle.pechvang.specs.Publishing.{WritesPart}
use Rattle.pechvang.proofs.publishing.write_by.Goals as goal

pub returns-in-Ok : goal.returns-in-Ok
returns-in-Ok c = subst (λ (x : Pass). WritesPart (Some x) c.args.offset c.args.part.now (pos 0) (Some (Claim c.write.new.self))) (sym (c.in-Claim.is)) (inl record { after = c.write.new.self; held = refl; code_is = refl; did = c.in-Ok.ensures.written })

pub returns-in-Err : goal.returns-in-Err
returns-in-Err c = subst (λ (x : Pass). WritesPart (Some x) c.args.offset c.args.part.now (to_z w32 (of_z w32 c.code.result)) (Some (Claim c.write.new.self))) (sym (c.in-Claim.is)) (inr record { fault = c.in-Err.fault; after = c.write.new.self; held = refl; code_is = coded c.in-Err.fault c.code.result c.code.ensures; why = c.in-Err.ensures.declined })
