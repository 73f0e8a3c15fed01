use Rattle.std.proofs.Common.{◌≡◌, ◌∙◌, Bool, true, IfOk, IfSome, Err, Option, ap, map, subst, sym}
use Rattle.publisher.specs.Ended.{AllHaveArrived, reading_left}
use Rattle.publisher.specs.Endings.{heard_along}
use Rattle.publisher.specs.Farewells.{are_told_alone, are_told_no_other, ends_along}
use Rattle.publisher.specs.Judging.{fault_in, stream_end_in}
use Rattle.publisher.specs.declared.offering.reading.Reading.{Reading}
use Rattle.peer.specs.declared.farewell.StreamEnd.{StreamEnd}
use Rattle.publisher.proofs.Short.{fault_still, no_other, says_why, whole_still}
use Rattle.publisher.proofs.WholeAlong.{all_arrived, still_faulted, told_alone, whole_before}
use Rattle.publisher.proofs.two_threads.run.Goals as goal

pub returns-clause-noted : goal.returns-clause-noted
returns-clause-noted g c =
    let there : c.each-destinations.result.now ≡ c.bid_farewell.new.duty.device.ways = c.each-destinations.ensures ∙ ap (λ f. f.ways) c.device-2.ensures in (
      c.in_ok-attendances.ensures ∙ ap (map heard_along) there,
      c.in_ok-ends.ensures ∙ ap (map ends_along) there,
    )

pub returns-clause-whole : goal.returns-clause-whole
returns-clause-whole g c = λ whole.
    let still = whole_still c.ending_told.result c.ending_unless_another-ending.result _ c.ending_unless_another-ending.ensures whole in
    subst (λ (r : Option Reading). AllHaveArrived c.args.context.now.plan.now c.args.sender.now r c.in_ok-attendances.attendances.items c.in_ok-ends.ends.items) c.reading_left-reading.ensures
    (all_arrived c.args.context.now.plan.now c.reading_left-reading.result c.send_all-sent.result c.ended-ending.result c.args.sender.now c.send_all-sent.new.sender c.farewell_in-end.result c.bid_farewell.new.duty.device.ways c.in_ok-attendances.attendances.items c.in_ok-ends.ends.items
    c.send_all-sent.ensures.ends c.ended-ending.ensures c.farewell_in-end.ensures c.bid_farewell.ensures (returns-clause-noted g c).0 (returns-clause-noted g c).1 (whole_before c.ended-ending.result _ _ c.ending_told.ensures still))

pub returns-clause-faulted : goal.returns-clause-faulted
returns-clause-faulted g c =
    let read = c.reading_left-reading.result in
    subst (λ (r : Option Reading). IfSome (fault_in r) (λ fault. c.ending_unless_another-ending.result ≡ Err fault)) c.reading_left-reading.ensures
    (fault_still (fault_in read) c.ending_told.result c.ending_unless_another-ending.result _ c.ending_unless_another-ending.ensures
    (still_faulted read c.send_all-sent.result c.ended-ending.result c.ending_told.result c.are_told_alone-told_alone.result c.ended-ending.ensures c.ending_told.ensures))

pub returns-clause-told : goal.returns-clause-told
returns-clause-told g c = λ whole.
    let shape = c.args.context.now.plan.now.geometry in
    let still = whole_still c.ending_told.result c.ending_unless_another-ending.result _ c.ending_unless_another-ending.ensures whole in
    let alone = told_alone c.ended-ending.result c.ending_told.result c.are_told_alone-told_alone.result c.ending_told.ensures still in
    let end = c.stream_end_in-announced.ensures ∙ ap stream_end_in c.reading_left-reading.ensures in
    let ends = ap (λ (x : Option StreamEnd). are_told_alone shape x c.as_slice.result.now) end ∙ ap (are_told_alone shape (stream_end_in (reading_left c.input_end-input.result))) c.as_slice.ensures.value in
    sym (c.are_told_alone-told_alone.ensures ∙ ends) ∙ alone

pub returns-clause-no_other : goal.returns-clause-no_other
returns-clause-no_other g c =
    let shape = c.args.context.now.plan.now.geometry in
    let end = c.stream_end_in-announced.ensures ∙ ap stream_end_in c.reading_left-reading.ensures in
    let ends = ap (λ (x : Option StreamEnd). are_told_no_other shape x c.as_slice-2.result.now) end ∙ ap (are_told_no_other shape (stream_end_in (reading_left c.input_end-input.result))) c.as_slice-2.ensures.value in
    subst (λ (b : Bool). IfOk c.ending_unless_another-ending.result (λ _. b ≡ true)) (c.are_told_no_other-no_other.ensures ∙ ends)
    (no_other c.ending_told.result c.ending_unless_another-ending.result c.are_told_no_other-no_other.result c.ending_unless_another-ending.ensures)

pub returns-clause-short : goal.returns-clause-short
returns-clause-short g c = λ short.
    let plan = c.args.context.now.plan.now in let last = c.send_all-sent.new.sender in
    says_why plan c.reading_left-reading.result c.args.sender.now last c.send_all-sent.result c.ended-ending.result c.ending_told.result c.ending_unless_another-ending.result c.are_told_alone-told_alone.result c.are_told_no_other-no_other.result last.peer c.told_of-line.result c.tell_if_elsewhere.result
    c.send_all-sent.ensures.ends c.ended-ending.ensures c.ending_told.ensures c.ending_unless_another-ending.ensures c.send_all-sent.ensures.peer c.told_of-line.ensures c.tell_if_elsewhere.ensures short
