use Rattle.std.proofs.Common.{◌≡◌, ◌++◌, ◌∷◌, [], ◌<◌, ◌^◌, ◌+◌, ◌∙◌, ℕ, List, Ok, length, ap, subst, arith}
use Rattle.image.specs.Handles.{misses_of}
use Rattle.receiver.specs.Reading.{Answers}
use Rattle.run_parties.specs.Receptions.{PollerState}
use Rattle.run_parties.specs.Tallies.{IsTallyOf}
use Rattle.run_parties.proofs.Polling.{polled_message, polled_nothing, polled_refused}
use Rattle.run_parties.proofs.poller.Poller.poll.Goals as goal

pub invariant_of-self : goal.invariant_of-self
invariant_of-self c =
    let i = c.self.inside in let message = c.in-Ok-Some.message.bytes.items in
    let old : i.tally.polled ≡ c.args.self.now.tally.polled = ap (λ (p : PollerState). p.tally.polled) c.self.view_is in
    let room : i.tally.polled < 2 ^ 63 = omega (arith, old, c.requires.room) in
    let takes = subst (λ (m : List ℕ). (ms : List (List ℕ)) → length ms < 2 ^ 63 → IsTallyOf ms i.tally → IsTallyOf (ms ++ m ∷ []) c.take.new.self) c.deref.ensures.value c.take.ensures.tally in
    let gives = subst (λ o. Answers i.reader (Ok o) c.next.new.self) c.in-Ok-Some.field-0-is c.in-Ok-Some.ensures.answers in
    polled_message i.reader c.next.new.self c.pass.new.self i.tally c.take.new.self i.refused message room takes gives c.pass.ensures.passes c.self.invariant

pub invariant_of-self-in-Ok-None : goal.invariant_of-self-in-Ok-None
invariant_of-self-in-Ok-None c =
    let i = c.self.inside in
    let gives = subst (λ o. Answers i.reader (Ok o) c.next.new.self) c.in-Ok-None.field-0-is c.in-Ok-None.ensures.answers in
    polled_nothing i.reader c.next.new.self i.tally i.refused gives c.self.invariant

pub invariant_of-self-in-Err : goal.invariant_of-self-in-Err
invariant_of-self-in-Err c =
    let i = c.self.inside in
    polled_refused i.reader c.next.new.self i.tally i.refused c.saturating_add-self-inside.result c.in-Err.error c.saturating_add-self-inside.ensures c.in-Err.ensures.answers c.self.invariant

pub returns-in-Ok-None-clause-looked : goal.returns-in-Ok-None-clause-looked
returns-in-Ok-None-clause-looked c is =
    let i = c.self.inside in
    let gives = subst (λ o. Answers i.reader (Ok o) c.next.new.self) c.in-Ok-None.field-0-is c.in-Ok-None.ensures.answers in
    gives.misses ∙ ap (λ (p : PollerState). misses_of p.reader.seat + 1) c.self.view_is
