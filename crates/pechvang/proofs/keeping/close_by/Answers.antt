use Rattle.std.proofs.Common.{refl, sym, subst, pos}
use Rattle.std.specs.declared.option.Option.TheVariants.{Some}
use Rattle.pechvang.specs.declared.held.Pass.{Pass}
use Rattle.pechvang.specs.declared.held.Pass.TheVariants.{Keeper}
use Rattle.pechvang.specs.Keeping.{Closes}
use Rattle.pechvang.proofs.keeping.close_by.Goals as goal

pub returns-in-Keeper : goal.returns-in-Keeper
returns-in-Keeper c = subst (λ (x : Pass). Closes (Some x) (pos 0) (Some (Keeper c.set_closed.new.self))) (sym (c.in-Keeper.is)) (record { after = c.set_closed.new.self; held = refl; code_is = refl; did = c.set_closed.ensures })
