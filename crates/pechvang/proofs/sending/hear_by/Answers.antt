use Rattle.std.proofs.Common.{ℤ, inl, inr, refl, sym, subst, pos, rules, FitsSigned}
use mir.Syntax.{w32}
use mir.Val.{of_z, to_z}
use Rattle.std.proofs.lemmas.Int.{to_z-of_z}
use Rattle.std.specs.Box.{with_value}
use Rattle.std.specs.declared.option.Option.TheVariants.{Some}
use Rattle.cores.specs.Senders.{SenderValue}
use Rattle.cores.specs.Sending.{Hears, IsUnsent}
use Rattle.pechvang.specs.declared.held.Pass.{Pass}
use Rattle.pechvang.specs.declared.held.Pass.TheVariants.{Sender}
use Rattle.pechvang.specs.Ends.{HearsOne}
use Rattle.pechvang.proofs.Coded.{coded_core}
use Rattle.pechvang.proofs.sending.hear_by.Goals as goal

pub returns-in-Ok : goal.returns-in-Ok
returns-in-Ok c =
    let q = with_value c.in-Sender.sender c.on_datagram.new.self in
    let fits : FitsSigned w32 c.in-Ok.number = search rules in
    subst (λ (x : Pass). HearsOne (Some x) c.args.datagram.now c.args.now c.args.outcome.now (pos 0) (to_z w32 (of_z w32 c.in-Ok.number)) (Some (Sender q))) (sym c.in-Sender.is) (inl record { after = q; held = refl; code_is = refl; did = subst (λ (x : SenderValue × ℤ). Hears x.0 c.args.now c.args.datagram.now x.1 c.on_datagram.new.self) (λ j. (c.deref_mut.ensures.value j, sym (to_z-of_z w32 c.in-Ok.number fits) j)) c.in-Ok.ensures.heard })

pub returns-in-Err : goal.returns-in-Err
returns-in-Err c =
    let q = with_value c.in-Sender.sender c.on_datagram.new.self in
    subst (λ (x : Pass). HearsOne (Some x) c.args.datagram.now c.args.now c.args.outcome.now (to_z w32 (of_z w32 c.code.result)) c.args.outcome.now (Some (Sender q))) (sym c.in-Sender.is) (inr (record { fault = c.in-Err.fault; after = q; held = refl; code_is = coded_core c.in-Err.fault c.code.result c.code.ensures; why = subst (λ (v : SenderValue). IsUnsent v c.in-Err.fault c.on_datagram.new.self) c.deref_mut.ensures.value c.in-Err.ensures.refused }, refl))
