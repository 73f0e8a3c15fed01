use Rattle.std.proofs.Common.{subst, sym, ◌∙◌}
use Rattle.publication.specs.declared.refusal.Refusal.{Refusal}
use Rattle.shared_log.specs.Steps.Handles.{PublisherValue}
use Rattle.claims.specs.Holdings.{ArmedValue, ClaimValue}
use Rattle.claims.specs.Claimings.{AddsRange, ArmsFor, OpensClaim, TripsTerm}
use Rattle.claims.proofs.Boxed.{armed_is, may_add}
use Rattle.claims.proofs.Halves.{adds, denies, opens, trips}
use Rattle.claims.proofs.Rests.{tripped_rests}
use Rattle.claims.proofs.armed.Armed.add.Goals as goal

pub new-requires-in-Err : goal.new-requires-in-Err
new-requires-in-Err c = tripped_rests c.as_mut.result.now.publisher c.add_range.new.pass _ c.self.inside.count c.self.inside.size c.in-Err.refusal (may_add c.as_mut.ensures.value c.self.invariant) c.in-Err.ensures.refused

pub returns-in-Ok-clause-accepted : goal.returns-in-Ok-clause-accepted
returns-in-Ok-clause-accepted c =
    let l = c.args.log.now in let q = c.add_range.new.pass in let part = c.in-Ok.ensures.part in
    let a : ArmedValue = record { publisher = c.as_mut.result.now.publisher; count = c.self.inside.count; size = c.self.inside.size } in
    let claim : ClaimValue = record { publisher = q; start = c.in-Ok.start; bytes = c.fill.new.bytes.items } in
    let added : AddsRange l a claim = adds l c.add_range.new.words a claim (part.moved.same ∙ c.new.ensures) part.moved.still part.took.noted part.took.steps part.took.call c.in-Ok.ensures.accepted c.fill.ensures.zeros in
    subst (λ (z : ArmedValue × ClaimValue). (p : PublisherValue) → ArmsFor l p z.0.size z.0 → OpensClaim l p z.0.size z.1) (λ j. (armed_is c.as_mut.ensures.value c.self.view_is j, sym c.new-in-Ok.ensures j))
    (λ p arms. opens l p a.size a arms claim (may_add c.as_mut.ensures.value c.self.invariant).short added)

pub returns-in-Err-clause-tripped : goal.returns-in-Err-clause-tripped
returns-in-Err-clause-tripped c =
    let l = c.args.log.now in let q = c.add_range.new.pass in let part = c.in-Err.ensures.part in
    let a : ArmedValue = record { publisher = c.as_mut.result.now.publisher; count = c.self.inside.count; size = c.self.inside.size } in
    subst (λ (z : ArmedValue × Refusal × PublisherValue). TripsTerm l z.0 z.1 z.2) (λ j. (armed_is c.as_mut.ensures.value c.self.view_is j, sym c.new-in-Err.ensures.refusal j, sym c.new-in-Err.ensures.claimant j))
    (trips l c.add_range.new.words a q c.in-Err.refusal (part.moved.same ∙ c.new.ensures) part.moved.still part.took.noted part.took.steps part.took.call c.in-Err.ensures.refused)

pub returns-in-Err-clause-denied : goal.returns-in-Err-clause-denied
returns-in-Err-clause-denied c = λ p arms. denies c.args.log.now p c.args.self.size c.args.self arms c.new-in-Err.result.claimant c.new-in-Err.result.refusal (returns-in-Err-clause-tripped c)
