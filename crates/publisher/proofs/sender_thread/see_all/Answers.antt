use Rattle.std.proofs.Common.{◌<◌, length, arith}
use Rattle.publisher.specs.Seeing.{seen_along}
use Rattle.publisher.proofs.Written.{written, written_rest}
use Rattle.publisher.proofs.sender_thread.see_all.Goals as goal

pub loop-destination-preserved : goal.loop-destination-preserved
loop-destination-preserved g c =
    let i = c.loop-destination.destination-index in
    let xs = c.loop-destination.destinations in
    let ys = c.args.destinations.now in
    let same = c.loop-destination.auto.destinations in
    let lx : i < length xs = omega (arith, same, c.loop-destination-test.true) in
    let ly : i < length ys = omega (arith, same, c.loop-destination-test.true) in
    let w = c.destination-item.result in
    record {
      done = written (seen_along c.args.end c.args.linger c.args.now) xs ys i c.see-news.new.self w lx ly c.loop-destination.invariant.done c.loop-destination.invariant.rest c.see-news.ensures.seen;
      rest = written_rest xs ys i c.see-news.new.self w lx ly c.loop-destination.invariant.rest;
    }
