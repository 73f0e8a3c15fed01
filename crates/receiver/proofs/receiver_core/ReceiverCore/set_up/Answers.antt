use Rattle.std.proofs.Common.{◌≡◌, ◌∙◌, false, true, Option, None, Some, refl, sym, subst}
use Rattle.std.specs.Option.{is_some}
use Rattle.theory.specs.Bytes.{Identity}
use Rattle.theory.specs.Setup.{OpensAt}
use Rattle.image.specs.Seen.{IsJoin}
use Rattle.frames.specs.Frames.{setup_of}
use Rattle.receiver.specs.contracts.receiver_core.ReceiverCore.{the_view}
use Rattle.receiver.proofs.Joins.{opens_join}
use Rattle.receiver.proofs.Meeting.{core_opened, setup_kept, setup_met, setup_refused}
use Rattle.receiver.proofs.receiver_core.ReceiverCore.set_up.Goals as goal

pub open-requires-clause-join : goal.open-requires-clause-join
open-requires-clause-join c = subst (λ (i : Identity). IsJoin i.geometry c.in-Ok.named.1) (sym c.new-identity.ensures) (opens_join _ _ _ _ c.in-Ok.ensures.opens)

is_none : {X : Type 0} (o : Option X) → is_some o ≡ false → o ≡ None
is_none None e = refl
is_none (Some x) e = cc

pub returns-in_ok-image-in-Ok-clause-met : goal.returns-in_ok-image-in-Ok-clause-met
returns-in_ok-image-in-Ok-clause-met c =
    let none : c.self.inside.image ≡ None = is_none c.self.inside.image (sym c.is_some.ensures ∙ c.if-is_some.false) in
    let opens = subst (λ (i : Identity). OpensAt (setup_of c.args.setup.now) c.self.inside.window i.geometry c.in-Ok.named.1) (sym c.new-identity.ensures) c.in-Ok.ensures.opens in
    let unit = (opens_join _ _ _ _ c.in-Ok.ensures.opens).unit in
    rw (← c.self.view_is) (setup_met _ (setup_of c.args.setup.now) c.new-identity.result c.in-Ok.named.1 c.in_ok-image-in-Ok.image none opens unit c.in_ok-image-in-Ok.ensures)

is_there : {X : Type 0} (o : Option X) → is_some o ≡ true → (x : X) × (o ≡ Some x)
is_there None e = absurd (cc)
is_there (Some x) e = (x, refl)

pub returns-then-is_some-clause-met : goal.returns-then-is_some-clause-met
returns-then-is_some-clause-met c =
    let some = is_there c.self.inside.image (sym c.is_some.ensures ∙ c.if-is_some.true) in
    rw (← c.self.view_is) (setup_kept _ (setup_of c.args.setup.now) some.0 some.1)

pub returns-in-Err-clause-met : goal.returns-in-Err-clause-met
returns-in-Err-clause-met c =
    let none : c.self.inside.image ≡ None = is_none c.self.inside.image (sym c.is_some.ensures ∙ c.if-is_some.false) in
    rw (← c.self.view_is) (setup_refused _ (setup_of c.args.setup.now) c.in-Err.error none c.in-Err.ensures.fault)

pub invariant_of-self : goal.invariant_of-self
invariant_of-self c = core_opened (the_view c.self.inside) _ c.new-identity.result c.in-Ok.named.1 c.in_ok-image-in-Ok.image c.self.invariant c.in_ok-image-in-Ok.ensures refl refl refl refl refl
