use Rattle.std.proofs.Common.{inl, inr, refl, sym, subst, pos}
use Rattle.std.specs.declared.option.Option.TheVariants.{Some}
use Rattle.pechvang.specs.declared.held.Pass.{Pass}
use Rattle.pechvang.specs.declared.held.Pass.TheVariants.{Reader}
use Rattle.pechvang.specs.Reading.{Advances}
use Rattle.pechvang.proofs.reading.advance_by.Goals as goal

pub returns-then-advance : goal.returns-then-advance
returns-then-advance c = subst (λ (x : Pass). Advances (Some x) (pos 1) (Some (Reader c.advance.new.self))) (sym (c.in-Reader.is)) (inl record { after = c.advance.new.self; held = refl; code_is = refl; did = c.if-advance.ensures })

pub returns-else-advance : goal.returns-else-advance
returns-else-advance c = subst (λ (x : Pass). Advances (Some x) (pos 0) (Some (Reader c.advance.new.self))) (sym (c.in-Reader.is)) (inr record { after = c.advance.new.self; held = refl; code_is = refl; did = c.if-advance.ensures })
