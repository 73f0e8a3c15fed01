use Rattle.std.proofs.Common.{inl, inr, refl, sym, subst, pos}
use Rattle.std.specs.Prelude.{negsuc}
use mir.Syntax.{w32}
use mir.Val.{of_z, to_z}
use Rattle.pechvang.proofs.Coded.{coded}
use Rattle.std.specs.declared.option.Option.TheVariants.{Some}
use Rattle.pechvang.specs.declared.held.Pass.{Pass}
use Rattle.pechvang.specs.declared.held.Pass.TheVariants.{Keeper}
use Rattle.claims.specs.declared.passes.fault.Fault.TheVariants.{Memory}
use Rattle.pechvang.specs.Keeping.{Joins}
use Rattle.pechvang.proofs.keeping.join_by.Goals as goal

pub returns-in_default : goal.returns-in_default
returns-in_default c = subst (λ (x : Pass). Joins (Some x) c.args.reader.now.held (negsuc 18) (Some (Keeper c.in-Keeper.keeper)) c.args.reader.now.held) (sym (c.in-Keeper.is)) (inr (record { fault = Memory; after = c.in-Keeper.keeper; held = refl; code_is = refl; why = refl }, refl))

pub returns-in-Ok-join : goal.returns-in-Ok-join
returns-in-Ok-join c = subst (λ (x : Pass). Joins (Some x) c.args.reader.now.held (pos 0) (Some (Keeper c.join.new.self)) c.put_new.new.handle.held) (sym (c.in-Keeper.is)) (inl record { after = c.join.new.self; given = c.in-Ok-join.joined; held = refl; out_is = c.put_new.ensures; code_is = refl; did = c.in-Ok-join.ensures.joined })

pub returns-in-Err : goal.returns-in-Err
returns-in-Err c = subst (λ (x : Pass). Joins (Some x) c.args.reader.now.held (to_z w32 (of_z w32 c.code.result)) (Some (Keeper c.join.new.self)) c.args.reader.now.held) (sym (c.in-Keeper.is)) (inr (record { fault = c.in-Err.fault; after = c.join.new.self; held = refl; code_is = coded c.in-Err.fault c.code.result c.code.ensures; why = c.in-Err.ensures.declined }, refl))
