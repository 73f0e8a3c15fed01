use Rattle.std.proofs.Common.{◌∙◌, ap, arith, sym}
use Rattle.std.proofs.lemmas.List.{take_all}
use Rattle.publisher.specs.Destinations.{heard_count}
use Rattle.publisher.proofs.Numbered.{count_no, count_yes}
use Rattle.publisher.proofs.sender_thread.count_heard.Goals as goal
use Rattle.publisher.proofs.sender_thread.count_heard.Goals.{then-is_heard, else-is_heard}

pub loop-destination-preserved : goal.loop-destination-preserved
loop-destination-preserved g c =
    let few = c.loop-destination.invariant.few in
    elim c.if-is_heard.branch [
      | then-is_heard w ↦ (let is = w.count-is in record {
        few = omega (arith, few, is);
        heard = count_yes c.args.destinations.now c.loop-destination.destination-index c.destination-item.result c.loop-destination.count c.if-is_heard.count c.loop-destination-test.true c.destination-item.is (sym c.is_heard.ensures ∙ w.if-is_heard.true) c.loop-destination.invariant.heard w.count-is;
      })
      | else-is_heard w ↦ (let is = w.count-is in record {
        few = omega (arith, few, is);
        heard = count_no c.args.destinations.now c.loop-destination.destination-index c.destination-item.result c.loop-destination.count c.if-is_heard.count c.loop-destination-test.true c.destination-item.is (sym c.is_heard.ensures ∙ w.if-is_heard.false) c.loop-destination.invariant.heard w.count-is;
      })
    ]

pub overflow_add-count : goal.overflow_add-count
overflow_add-count g c =
    let few = c.loop-destination.invariant.few in
    let low = c.loop-destination-test.true in
    let end = c.loop-destination.end-fits.fits in
    record { fits = omega (arith, few, low, end) }

pub returns-clause-heard : goal.returns-clause-heard
returns-clause-heard g c = c.loop-destination.invariant.heard ∙ ap heard_count (take_all c.loop-destination.destination-index c.args.destinations.now c.loop-destination-test.false)
