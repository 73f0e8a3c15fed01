use Rattle.std.proofs.Common.{◌<◌, length, ap, arith}
use Rattle.publisher.specs.Destinations.{unnumbered}
use Rattle.publisher.proofs.Numbered.{numbered_all, numbered_on}
use Rattle.publisher.proofs.Written.{shown, written_rest}
use Rattle.publisher.proofs.sender_thread.number_heard.Goals as goal

pub loop-destination-preserved : goal.loop-destination-preserved
loop-destination-preserved g c =
    let i = c.loop-destination.destination-index in
    let xs = c.loop-destination.destinations in
    let ys = c.args.destinations.now in
    let same = c.loop-destination.auto.destinations in
    let lx : i < length xs = omega (arith, same, c.loop-destination-test.true) in
    let ly : i < length ys = omega (arith, same, c.loop-destination-test.true) in
    let w = c.destination-item.result in
    record {
      kept = shown unnumbered unnumbered xs ys i c.number.new.destination w lx ly c.loop-destination.invariant.kept c.loop-destination.invariant.rest (ap unnumbered c.number.ensures.kept);
      numbered = numbered_on xs ys i c.loop-destination.next c.next_number-behind.result c.number.new.destination w lx ly c.loop-destination.invariant.rest c.loop-destination.invariant.numbered c.number.ensures.numbered c.next_number-behind.ensures;
      rest = written_rest xs ys i c.number.new.destination w lx ly c.loop-destination.invariant.rest;
    }

pub returns-clause-numbered : goal.returns-clause-numbered
returns-clause-numbered g c =
    let same = c.loop-destination.auto.destinations in let end = c.loop-destination-test.false in
    numbered_all c.loop-destination.destinations c.args.destinations.now c.loop-destination.destination-index c.loop-destination.next (omega (arith, same, end)) end c.loop-destination.invariant.numbered
