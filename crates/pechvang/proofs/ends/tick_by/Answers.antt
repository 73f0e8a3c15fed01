use Rattle.std.proofs.Common.{inl, inr, refl, sym, subst, pos}
use mir.Syntax.{w32}
use mir.Val.{of_z, to_z}
use Rattle.std.specs.Box.{with_value}
use Rattle.std.specs.declared.option.Option.TheVariants.{Some}
use Rattle.cores.specs.Senders.{SenderValue}
use Rattle.cores.specs.Sending.{IsUnsent, Ticks}
use Rattle.pechvang.specs.declared.held.Pass.{Pass}
use Rattle.pechvang.specs.declared.held.Pass.TheVariants.{Sender}
use Rattle.pechvang.specs.Ends.{TicksAt}
use Rattle.pechvang.proofs.Coded.{coded_core}
use Rattle.pechvang.proofs.ends.tick_by.Goals as goal

pub returns-in-Ok-tick : goal.returns-in-Ok-tick
returns-in-Ok-tick c =
    let q = with_value c.in-Sender.sender c.tick-in-Sender.new.self in
    subst (λ (x : Pass). TicksAt (Some x) c.args.now (pos 0) (Some (Sender q))) (sym c.in-Sender.is) (inl record { after = q; held = refl; code_is = refl; did = subst (λ (v : SenderValue). Ticks v c.args.now c.tick-in-Sender.new.self) c.deref_mut-in-Sender.ensures.value c.in-Ok-tick.ensures.ticked })

pub returns-in-Err-tick : goal.returns-in-Err-tick
returns-in-Err-tick c =
    let q = with_value c.in-Sender.sender c.tick-in-Sender.new.self in
    subst (λ (x : Pass). TicksAt (Some x) c.args.now (to_z w32 (of_z w32 c.code-in-Err-tick.result)) (Some (Sender q))) (sym c.in-Sender.is) (inr record { fault = c.in-Err-tick.fault; after = q; held = refl; code_is = coded_core c.in-Err-tick.fault c.code-in-Err-tick.result c.code-in-Err-tick.ensures; why = subst (λ (v : SenderValue). IsUnsent v c.in-Err-tick.fault c.tick-in-Sender.new.self) c.deref_mut-in-Sender.ensures.value c.in-Err-tick.ensures.refused })
