use Rattle.std.proofs.Common.{◌≡◌, ◌∷◌, [], true, rules, subst, sym, ap, ◌∙◌}
use Rattle.std.specs.Prelude.{Ok, is_some}
use Rattle.image.specs.Handles.{position_of}
use Rattle.receiver.specs.Seating.{AreSeated}
use Rattle.receiver.specs.declared.assembling.Joiner.{Joiner}
use Rattle.receiver.specs.declared.subscriber.Subscriber.TheInside.{Inside}
use Rattle.receiver.specs.contracts.receiver_core.ReceiverCore.{the_view}
use Rattle.receiver.proofs.Polled.{HasRead, begins, ends_refused, ends_there, ends_unseated, ends_with, goes_further, has_read, met_there, reads_onwards, stands_there}
use Rattle.receiver.proofs.subscriber.Subscriber.poll.Goals as goal
use Rattle.receiver.proofs.subscriber.Subscriber.poll.Goals.{After-read_past_with, In-Some-read_past_with}

pub loop-self-init : goal.loop-self-init
loop-self-init c =
    let e = c.self-inside.view_is in
    let some : is_some c.self.inside.core.image ≡ true = search rules in
    begins c.args.self.now (the_view c.self-inside.inside.0.0) c.self-inside.inside.0.1.0 c.self-inside.inside.0.1.1.0.assembler ((λ k. record { core = (e k).core; assembler = (e k).joiner.assembler }) ∙ c.self.view_is)
    (subst (λ (x : Inside). is_some x.core.image ≡ true) (sym e) some) c.self-inside.invariant (ap (λ (x : Inside). x.core.consumers) e ∙ c.self.invariant.0) (subst (λ (x : Inside). AreSeated x.core.image x.reader) (sym e) c.self.invariant.1)

pub returns-in_default-clause-polled : goal.returns-in_default-clause-polled
returns-in_default-clause-polled c =
    let l = c.loop-self in
    ends_unseated c.args.self.now (the_view l.self-inside-inside.0.0) l.self-inside-inside.0.1.0 l.self-inside-inside.0.1.1.0.assembler l.invariant c.in_default.is

met : (c : After-read_past_with) → c.opened.inside.inserter.seen ≡ position_of c.in-Some.reader ∷ []
met c = met_there c.opened.inside.inserter c.in-Some-image.opened c.in-Some.reader _ _ c.loop-self.invariant.seated c.in-Some-image.is c.in-Some.is c.opened.view_is

pub returns-in_default-read_past_with-clause-polled : goal.returns-in_default-read_past_with-clause-polled
returns-in_default-read_past_with-clause-polled c =
    let l = c.loop-self in
    let none = c.in_default-read_past_with.ensures.none in
    let end = stands_there c.opened.inside.inserter c.in-Some-image.opened c.in-Some.reader c.opened.view_is (met c.before) none.0.ends in
    ends_there c.args.self.now (the_view l.self-inside-inside.0.0) l.self-inside-inside.0.1.0 l.self-inside-inside.0.1.1.0.assembler c.read_past_with.new.handler.assembler c.in-Some-image.opened c.read_past_with.new.inserter l.invariant c.in-Some-image.is (none.0.inserter ∙ c.opened.view_is) (ap (λ (x : Joiner). x.assembler) none.1) end

read : (c : In-Some-read_past_with) → HasRead c.in-Some-image.opened c.read_past_with.new.inserter c.read_past_with.new.reader c.loop-self.self-inside-inside.0.1.1.0.assembler c.read_past_with.new.handler.step c.read_past_with.new.handler.assembler
read c = has_read _ c.opened.inside.inserter c.in-Some-image.opened c.read_past_with.new.inserter c.in-Some.reader c.read_past_with.new.reader _ _ _ c.in-Some-read_past_with.field-0 c.opened.view_is (met c.before) c.in-Some-read_past_with.ensures.read c.read_past_with.ensures.alone

pub loop-self-smaller : goal.loop-self-smaller
loop-self-smaller c =
    goes_further c.opened.inside.inserter c.in-Some-image.opened c.read_past_with.new.inserter c.in-Some.reader c.read_past_with.new.reader _ c.high_water.result c.geometry.result c.in-Some-read_past_with.field-0 _
    c.in-Some-image.is c.opened.view_is (met c.before.before.before.before) c.in-Some-read_past_with.ensures.read.1 c.stored_apart.ensures.fit c.high_water.ensures.value c.high_water.ensures.low c.geometry.ensures.value c.geometry.ensures.legal

pub loop-self-preserved : goal.loop-self-preserved
loop-self-preserved c =
    let l = c.loop-self in
    reads_onwards c.args.self.now (the_view l.self-inside-inside.0.0) l.self-inside-inside.0.1.0 l.self-inside-inside.0.1.1.0.assembler c.read_past_with.new.handler.assembler c.take_step.new.self.assembler c.in-Some-image.opened c.read_past_with.new.inserter c.read_past_with.new.reader c.read_past_with.new.handler.step l.invariant c.in-Some-image.is (read c.before.before.before)
    (sym c.in-Ok-None.ensures.step ∙ ap (λ x. Ok x) c.in-Ok-None.field-0-is) c.in-Ok-None.ensures.assembler

pub returns-in-Ok-Some-clause-polled : goal.returns-in-Ok-Some-clause-polled
returns-in-Ok-Some-clause-polled c =
    let l = c.loop-self in
    ends_with c.args.self.now (the_view l.self-inside-inside.0.0) l.self-inside-inside.0.1.0 l.self-inside-inside.0.1.1.0.assembler c.read_past_with.new.handler.assembler c.take_step.new.self.assembler c.in-Some-image.opened c.read_past_with.new.inserter c.read_past_with.new.reader c.read_past_with.new.handler.step c.in-Ok-Some.message l.invariant c.in-Some-image.is (read c.before.before.before)
    (sym c.in-Ok-Some.ensures.step ∙ ap (λ x. Ok x) c.in-Ok-Some.field-0-is) c.in-Ok-Some.ensures.assembler

pub returns-in-Err-clause-polled : goal.returns-in-Err-clause-polled
returns-in-Err-clause-polled c =
    let l = c.loop-self in
    ends_refused c.args.self.now (the_view l.self-inside-inside.0.0) l.self-inside-inside.0.1.0 l.self-inside-inside.0.1.1.0.assembler c.read_past_with.new.handler.assembler c.take_step.new.self.assembler c.in-Some-image.opened c.read_past_with.new.inserter c.read_past_with.new.reader c.read_past_with.new.handler.step c.in-Err.error l.invariant c.in-Some-image.is (read c.before.before.before)
    (sym c.in-Err.ensures.step) c.in-Err.ensures.assembler
