use Rattle.std.proofs.Common.{refl, sym, subst, pos}
use Rattle.std.specs.declared.option.Option.TheVariants.{Some}
use Rattle.pechvang.specs.declared.held.Pass.{Pass}
use Rattle.pechvang.specs.declared.held.Pass.TheVariants.{Keeper}
use Rattle.pechvang.specs.Keeping.{CleansTo}
use Rattle.pechvang.proofs.keeping.clean_by.Goals as goal

pub returns-in-Keeper : goal.returns-in-Keeper
returns-in-Keeper c = subst (λ (x : Pass). CleansTo (Some x) c.args.limit.now (pos 0) c.clean_and_limit.result (Some (Keeper c.clean_and_limit.new.self))) (sym (c.in-Keeper.is)) (record { after = c.clean_and_limit.new.self; held = refl; code_is = refl; did = c.clean_and_limit.ensures })
