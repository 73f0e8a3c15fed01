use Rattle.std.proofs.Common.{rules, ◌≡◌, ◌≤◌, refl, arith}
use Rattle.theory.specs.Position.{max_message}
use Rattle.publisher.specs.declared.offering.reading.ReadingFault.TheVariants.{Input}
use Rattle.publisher.proofs.Inputs.{of_message}
use Rattle.publisher.proofs.Offers.{at_fault, at_full, one_more, unplaced, unpublished, unreadable}
use Rattle.publisher.proofs.offering.reader.offer_all.Goals as goal

pub returns-in_err-read_message-clause-fault : goal.returns-in_err-read_message-clause-fault
returns-in_err-read_message-clause-fault g c =
    let i = c.loop-number.invariant.1 in
    let size : c.max_message-greatest.result ≡ max_message c.args.context.now.state.now.log.identity.geometry = search rules in
    let count = i.count in
    let low : 1 ≤ c.loop-number.number = omega (arith, count) in
    let why = rw size at c.in_err-read_message.ensures.fault in
    at_fault c.from_residual.result (Input c.in_err-read_message.field-0.0) _ c.from_residual.ensures.1
    (of_message c.args.context.now.state.now.log.identity.geometry _ _ _ _ _ _ _ low refl why, unreadable _ _ _ _ _ _ _ _ _ _ _ _ i why)

pub returns-in_err-tail-clause-fault : goal.returns-in_err-tail-clause-fault
returns-in_err-tail-clause-fault g c =
    let i = c.loop-number.invariant.1 in
    let h = c.in_err-tail.ensures.fault in
    let size : c.max_message-greatest.result ≡ max_message c.args.context.now.state.now.log.identity.geometry = search rules in
    let gives = rw (size, c.if-not-branch.false) at c.in_ok-read_message.ensures.gives in
    let given_up = rw c.deref.ensures.value at h.2 in
    at_full c.from_residual-in_err-tail.result c.in_err-tail.field-0.0 _ c.from_residual-in_err-tail.ensures.1 h.0
    (tt, unplaced _ _ _ _ _ _ _ _ _ _ _ _ i gives h.1 given_up)

pub returns-in_default-clause-read : goal.returns-in_default-clause-read
returns-in_default-clause-read g c =
    let i = c.loop-number.invariant.1 in
    let size : c.max_message-greatest.result ≡ max_message c.args.context.now.state.now.log.identity.geometry = search rules in
    let gives = rw (size, c.if-not-branch.false) at c.in_ok-read_message.ensures.gives in
    let published = rw c.in_default.is at c.in_ok-tail.ensures.published in
    unpublished _ _ _ _ _ _ _ _ _ _ _ _ i gives published

pub loop-number-preserved : goal.loop-number-preserved
loop-number-preserved g c =
    let i = c.loop-number.invariant.1 in
    let size : c.max_message-greatest.result ≡ max_message c.args.context.now.state.now.log.identity.geometry = search rules in
    let gives = rw (size, c.if-not-branch.false) at c.in_ok-read_message.ensures.gives in
    let published = rw (c.in-Some.is, c.deref.ensures.value) at c.in_ok-tail.ensures.published in
    (c.in_ok-tail.ensures.done, one_more _ _ _ _ _ _ _ _ _ _ (record { messages = c.loop-number.number; tail = c.in-Some.tail }) _ _ i gives published refl)
