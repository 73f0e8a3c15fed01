use Rattle.std.proofs.Common.{◌<◌, length, arith}
use Rattle.publisher.specs.Seeing.{begun}
use Rattle.publisher.proofs.Written.{written, written_rest}
use Rattle.publisher.proofs.destination.begin_all.Goals as goal

pub loop-destination-preserved : goal.loop-destination-preserved
loop-destination-preserved g c =
    let i = c.loop-destination.destination-index in
    let xs = c.loop-destination.destinations in
    let ys = c.args.destinations.now in
    let same = c.loop-destination.auto.destinations in
    let lx : i < length xs = omega (arith, same, c.loop-destination-test.true) in
    let ly : i < length ys = omega (arith, same, c.loop-destination-test.true) in
    let w = c.destination-item.result in
    record {
      done = written (begun c.args.position) xs ys i c.begin.new.self w lx ly c.loop-destination.invariant.done c.loop-destination.invariant.rest c.begin.ensures;
      rest = written_rest xs ys i c.begin.new.self w lx ly c.loop-destination.invariant.rest;
    }
