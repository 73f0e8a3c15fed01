use Rattle.std.proofs.Common.{refl, sym, subst, pos}
use Rattle.std.specs.declared.option.Option.TheVariants.{Some}
use Rattle.pechvang.specs.declared.held.Pass.{Pass}
use Rattle.pechvang.specs.declared.held.Pass.TheVariants.{Keeper}
use Rattle.pechvang.specs.Keeping.{Connects}
use Rattle.pechvang.proofs.keeping.connect_by.Goals as goal

pub returns-in-Keeper : goal.returns-in-Keeper
returns-in-Keeper c = subst (λ (x : Pass). Connects c.args.connected (Some x) (pos 0) (Some (Keeper c.set_connected.new.self))) (sym (c.in-Keeper.is)) (record { after = c.set_connected.new.self; held = refl; code_is = refl; did = c.set_connected.ensures })
