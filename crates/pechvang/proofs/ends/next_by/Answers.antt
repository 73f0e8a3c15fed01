use Rattle.std.proofs.Common.{◌≡◌, ℕ, ℤ, inl, inr, refl, sym, subst}
use Rattle.std.specs.Prelude.{Option, Result, IfErr, IfNone, IfOk, IfSome}
use mir.Syntax.{w32}
use mir.Val.{of_z, to_z}
use Rattle.std.specs.Box.{with_value}
use Rattle.std.specs.declared.option.Option.TheVariants as options
use Rattle.cores.specs.Departures.{Departs, NoneDeparts, WontDepart}
use Rattle.cores.specs.Senders.{SenderValue}
use Rattle.cores.specs.declared.fault.Fault.{Fault}
use Rattle.pechvang.specs.declared.held.Pass.{Pass}
use Rattle.pechvang.specs.declared.held.Pass.TheVariants.{Sender}
use Rattle.pechvang.specs.Ends.{GivesDatagram}
use Rattle.pechvang.proofs.Coded.{by_what_is_told, coded_core}
use Rattle.pechvang.proofs.ends.next_by.Goals as goal

pub returns-in-Sender : goal.returns-in-Sender
returns-in-Sender c =
    let b = c.in-Sender.sender in let t = c.next_datagram-in-Sender.new.self in let q = with_value b t in let value = c.deref_mut-in-Sender.ensures.value in let d = c.next_datagram-in-Sender.ensures in
    let w = c.next_datagram-in-Sender.result in let code = c.told-in-Sender.result in let room = c.next_datagram-in-Sender.new.room in let length = c.told-in-Sender.new.length in let was = c.deref_mut-in-Sender.result.now in
    let goes = λ (n : ℕ) (z : ℤ). GivesDatagram (options.Some (Sender b)) c.args.room.now c.args.length.now z room n (options.Some (Sender q)) in
    subst (λ (x : Pass). GivesDatagram (options.Some x) c.args.room.now c.args.length.now (to_z w32 (of_z w32 code)) room length (options.Some (Sender q))) (sym c.in-Sender.is)
    (by_what_is_told w c.args.length.now code length goes c.told-in-Sender.ensures
    (λ n e. inl record {
      after = q;
      held = refl;
      code_is = refl;
      did = subst (λ (v : SenderValue). Departs v.left c.args.room.now n room t.left × (t.core ≡ v.core)) value
          (subst (λ (r : Result (Option ℕ) Fault). IfOk r (λ got. IfSome got (λ k. Departs was.left c.args.room.now k room t.left))) e d.given, d.core);
    })
    (λ e. inr (
      inl record {
        after = q;
        held = refl;
        code_is = refl;
        did = subst (λ (v : SenderValue). NoneDeparts v.left c.args.room.now room t.left × (t.core ≡ v.core)) value
            (subst (λ (r : Result (Option ℕ) Fault). IfOk r (λ got. IfNone got (NoneDeparts was.left c.args.room.now room t.left))) e d.none, d.core);
      },
      refl,
    ))
    (λ fault e. inr (
      inr record {
        fault = fault;
        after = q;
        held = refl;
        code_is = coded_core fault _ refl;
        why = subst (λ (v : SenderValue). WontDepart v.left c.args.room.now fault room t.left × (t.core ≡ v.core)) value
            (subst (λ (r : Result (Option ℕ) Fault). IfErr r (λ f. WontDepart was.left c.args.room.now f room t.left)) e d.longer, d.core);
      },
      refl,
    )))
