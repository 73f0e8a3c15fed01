use Rattle.std.proofs.Common.{inl, inr, refl, sym, subst, pos}
use Rattle.std.specs.Prelude.{negsuc}
use mir.Syntax.{w32}
use mir.Val.{of_z, to_z}
use Rattle.pechvang.proofs.Coded.{coded}
use Rattle.std.specs.declared.option.Option.TheVariants.{Some}
use Rattle.pechvang.specs.declared.held.Pass.{Pass}
use Rattle.pechvang.specs.declared.held.Pass.TheVariants.{Opened}
use Rattle.claims.specs.declared.passes.fault.Fault.TheVariants.{Memory}
use Rattle.pechvang.specs.Opening.{ReaderTaken}
use Rattle.pechvang.proofs.opening.take_reader_by.Goals as goal

pub returns-in_default : goal.returns-in_default
returns-in_default c = subst (λ (x : Pass). ReaderTaken (Some x) c.args.reader.now.held (negsuc 18) (Some (Opened c.in-Opened.opened)) c.args.reader.now.held) (sym (c.in-Opened.is)) (inr (record { fault = Memory; after = c.in-Opened.opened; held = refl; code_is = refl; why = refl }, refl))

pub returns-in-Ok-take_reader : goal.returns-in-Ok-take_reader
returns-in-Ok-take_reader c = subst (λ (x : Pass). ReaderTaken (Some x) c.args.reader.now.held (pos 0) (Some (Opened c.take_reader.new.self)) c.put_new.new.handle.held) (sym (c.in-Opened.is)) (inl record { after = c.take_reader.new.self; given = c.in-Ok-take_reader.taken; held = refl; out_is = c.put_new.ensures; code_is = refl; did = c.in-Ok-take_reader.ensures.taken })

pub returns-in-Err : goal.returns-in-Err
returns-in-Err c = subst (λ (x : Pass). ReaderTaken (Some x) c.args.reader.now.held (to_z w32 (of_z w32 c.code.result)) (Some (Opened c.take_reader.new.self)) c.args.reader.now.held) (sym (c.in-Opened.is)) (inr (record { fault = c.in-Err.fault; after = c.take_reader.new.self; held = refl; code_is = coded c.in-Err.fault c.code.result c.code.ensures; why = c.in-Err.ensures.declined }, refl))
