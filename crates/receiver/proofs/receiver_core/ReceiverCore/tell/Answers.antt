use Rattle.std.proofs.Common.{rules, sym, subst, ap, ◌∙◌, refl, FitsSigned, w32, w64}
use Rattle.std.specs.Option.{option_map, option_to_list}
use Rattle.std.proofs.lemmas.Int.{to_z-of_z}
use Rattle.theory.specs.Timing.{is_status_due}
use Rattle.receiver.specs.Receiving.{told_after}
use Rattle.receiver.specs.Representing.{Represents, last_status_of}
use Rattle.receiver.specs.contracts.receiver_core.ReceiverCore.{the_view}
use Rattle.theory.specs.Wire.{SM}
use Rattle.frames.specs.Frames.{status_of}
use Rattle.image.specs.Rebuilding.{geometry_of}
use Rattle.receiver.proofs.Meeting.{core_on, imaged, looked_at, looks_image, looks_nowhere, none_noted, none_told, not_told, sees_image, sees_same, status_same, told_at, told_now}
use Rattle.receiver.proofs.receiver_core.ReceiverCore.tell.Goals as goal

pub returns-then-not-is_due-clause-told : goal.returns-then-not-is_due-clause-told
returns-then-not-is_due-clause-told c =
    let j = c.least-position.new.self in
    let due = c.is_due.ensures ∙ ap (λ p. is_status_due (option_to_list (option_map last_status_of c.self.inside.told)) c.self.inside.window p c.self.inside.clock) c.least-position.ensures.value in
    rw (← c.self.view_is) (λ r s. (not_told (imaged (the_view c.self.inside) j) j c.is_due.result refl due c.if-not-is_due.true r (looked_at (the_view c.self.inside) _ j c.in-Some.is c.least-position.ensures.shown r s)).0)

pub returns-then-not-is_due-clause-state : goal.returns-then-not-is_due-clause-state
returns-then-not-is_due-clause-state c =
    let j = c.least-position.new.self in
    let due = c.is_due.ensures ∙ ap (λ p. is_status_due (option_to_list (option_map last_status_of c.self.inside.told)) c.self.inside.window p c.self.inside.clock) c.least-position.ensures.value in
    rw (← c.self.view_is) (λ r s. (not_told (imaged (the_view c.self.inside) j) j c.is_due.result refl due c.if-not-is_due.true r (looked_at (the_view c.self.inside) _ j c.in-Some.is c.least-position.ensures.shown r s)).1)

pub returns-then-not-is_due-clause-sees : goal.returns-then-not-is_due-clause-sees
returns-then-not-is_due-clause-sees c = rw (← c.self.view_is) (sees_image (the_view c.self.inside) (imaged (the_view c.self.inside) c.least-position.new.self) _ c.least-position.new.self c.in-Some.is refl c.least-position.ensures.sees)

pub returns-else-not-is_due-clause-sees : goal.returns-else-not-is_due-clause-sees
returns-else-not-is_due-clause-sees c = rw (← c.self.view_is) (sees_image (the_view c.self.inside) (imaged (the_view c.self.inside) c.least-position.new.self) _ c.least-position.new.self c.in-Some.is refl c.least-position.ensures.sees)

pub returns-else-not-is_due-clause-told : goal.returns-else-not-is_due-clause-told
returns-else-not-is_due-clause-told c =
    let j = c.least-position.new.self in
    let due = c.is_due.ensures ∙ ap (λ p. is_status_due (option_to_list (option_map last_status_of c.self.inside.told)) c.self.inside.window p c.self.inside.clock) c.least-position.ensures.value in
    let session : FitsSigned w32 c.self.inside.session = search rules in
    let stream : FitsSigned w32 c.self.inside.stream = search rules in
    let receiver : FitsSigned w64 c.self.inside.receiver = search rules in
    let message = c.status_in-status.ensures ∙ status_same {g = geometry_of j} {m = j.window} refl (to_z-of_z w32 c.self.inside.session session) (to_z-of_z w32 c.self.inside.stream stream) c.least-position.ensures.value refl (to_z-of_z w64 c.self.inside.receiver receiver) in
    let width = c.least-position.ensures.sees.window ∙ c.self.invariant.width _ c.in-Some.is in
    rw (← c.self.view_is) (λ r s. (told_now (imaged (the_view c.self.inside) j) j c.is_due.result (SM 0 (status_of c.status_in-status.result)) refl width due c.if-not-is_due.false message r (looked_at (the_view c.self.inside) _ j c.in-Some.is c.least-position.ensures.shown r s)).0)

pub returns-else-not-is_due-clause-state : goal.returns-else-not-is_due-clause-state
returns-else-not-is_due-clause-state c =
    let j = c.least-position.new.self in
    let due = c.is_due.ensures ∙ ap (λ p. is_status_due (option_to_list (option_map last_status_of c.self.inside.told)) c.self.inside.window p c.self.inside.clock) c.least-position.ensures.value in
    let session : FitsSigned w32 c.self.inside.session = search rules in
    let stream : FitsSigned w32 c.self.inside.stream = search rules in
    let receiver : FitsSigned w64 c.self.inside.receiver = search rules in
    let message = c.status_in-status.ensures ∙ status_same {g = geometry_of j} {m = j.window} refl (to_z-of_z w32 c.self.inside.session session) (to_z-of_z w32 c.self.inside.stream stream) c.least-position.ensures.value refl (to_z-of_z w64 c.self.inside.receiver receiver) in
    let width = c.least-position.ensures.sees.window ∙ c.self.invariant.width _ c.in-Some.is in
    rw (← c.self.view_is) (λ r s. subst (λ p. Represents (told_at (imaged (the_view c.self.inside) j) p) (record r { told = told_after r.image r })) (sym c.least-position.ensures.value) (told_now (imaged (the_view c.self.inside) j) j c.is_due.result (SM 0 (status_of c.status_in-status.result)) refl width due c.if-not-is_due.false message r (looked_at (the_view c.self.inside) _ j c.in-Some.is c.least-position.ensures.shown r s)).1)

pub returns-then-not-is_due-clause-looks : goal.returns-then-not-is_due-clause-looks
returns-then-not-is_due-clause-looks c = rw (← c.self.view_is) (looks_image (the_view c.self.inside) (imaged (the_view c.self.inside) c.least-position.new.self) _ c.least-position.new.self c.in-Some.is refl c.least-position.ensures.looks)

pub returns-else-not-is_due-clause-looks : goal.returns-else-not-is_due-clause-looks
returns-else-not-is_due-clause-looks c = rw (← c.self.view_is) (looks_image (the_view c.self.inside) (imaged (the_view c.self.inside) c.least-position.new.self) _ c.least-position.new.self c.in-Some.is refl c.least-position.ensures.looks)

pub invariant_of-self : goal.invariant_of-self
invariant_of-self c = c.self.invariant

pub invariant_of-self-then-not-is_due : goal.invariant_of-self-then-not-is_due
invariant_of-self-then-not-is_due c = core_on (the_view c.self.inside) _ _ c.least-position.new.self c.self.invariant c.in-Some.is c.least-position.ensures.sees refl refl refl refl refl

pub invariant_of-self-in-Some : goal.invariant_of-self-in-Some
invariant_of-self-in-Some c = core_on (the_view c.self.inside) _ _ c.least-position.new.self c.self.invariant c.in-Some.is c.least-position.ensures.sees refl refl refl refl refl

pub returns-in-None-clause-told : goal.returns-in-None-clause-told
returns-in-None-clause-told c = rw (← c.self.view_is) (none_told _ c.in-None.is)

pub returns-in-None-clause-state : goal.returns-in-None-clause-state
returns-in-None-clause-state c = rw (← c.self.view_is) (none_noted _ c.in-None.is)

pub returns-in-None-clause-sees : goal.returns-in-None-clause-sees
returns-in-None-clause-sees c = rw (← c.self.view_is) (sees_same _)

pub returns-in-None-clause-looks : goal.returns-in-None-clause-looks
returns-in-None-clause-looks c = rw (← c.self.view_is) (looks_nowhere (the_view c.self.inside) (the_view c.self.inside) c.in-None.is)
