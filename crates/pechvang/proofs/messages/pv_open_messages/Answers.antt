use Rattle.std.proofs.Common.{inl, inr, refl, sym, ap, ◌∙◌, subst, pos}
use mir.Syntax.{w32}
use mir.Val.{of_z, to_z}
use Rattle.std.specs.declared.option.Option.TheVariants.{Some}
use Rattle.pechvang.specs.Owned.{Held}
use Rattle.pechvang.specs.Messages.{MessagesOpen}
use Rattle.pechvang.proofs.Coded.{coded_core}
use Rattle.pechvang.proofs.messages.pv_open_messages.Goals as goal

pub returns-in-Ok : goal.returns-in-Ok
returns-in-Ok c =
    subst (λ (h : Held). MessagesOpen h c.args.greatest c.args.messages.now.held (pos 0) c.take.new.handle.held c.put_new.new.handle.held) (sym (c.in-Some.ensures.is ∙ ap Some (sym c.replace.ensures.value ∙ c.in-Reader.is)))
    (inl (record { after = c.in-Ok.opened; held = c.put_new.ensures; code_is = refl; did = c.in-Ok.ensures.begun }, c.in-Some.ensures.empty))

pub returns-in-Err : goal.returns-in-Err
returns-in-Err c =
    subst (λ (h : Held). MessagesOpen h c.args.greatest c.args.messages.now.held (to_z w32 (of_z w32 c.code.result)) c.put_new-in-Err.new.handle.held c.args.messages.now.held) (sym (c.in-Some.ensures.is ∙ ap Some (sym c.replace.ensures.value ∙ c.in-Reader.is)))
    (inr (record { fault = c.in-Err.fault; after = c.in-Err.taken; held = c.put_new-in-Err.ensures; code_is = coded_core c.in-Err.fault c.code.result c.code.ensures; why = c.in-Err.ensures.declined }, refl))
