use Rattle.std.proofs.Common.{◌<◌, ◌≤◌, ◌∙◌, ap, length, map, arith, sym}
use Rattle.std.proofs.lemmas.List.{take_all}
use Rattle.publisher.specs.Farewells.{noted, told_times}
use Rattle.publisher.proofs.Written.{shown, written_rest}
use Rattle.publisher.proofs.two_threads.tell_each.Goals as goal

pub loop-destination-preserved : goal.loop-destination-preserved
loop-destination-preserved g c =
    let i = c.loop-destination.destination-index in
    let xs = c.loop-destination.destinations in
    let ys = c.args.destinations.now in
    let same = c.loop-destination.auto.destinations in
    let lx : i < length xs = omega (arith, same, c.loop-destination-test.true) in
    let ly : i < length ys = omega (arith, same, c.loop-destination-test.true) in
    let w = c.destination-item.result in
    record {
      told = shown noted (λ w. told_times 1 c.args.end (noted w)) xs ys i c.tell.new.destination w lx ly c.loop-destination.invariant.told c.loop-destination.invariant.rest c.tell.ensures;
      rest = written_rest xs ys i c.tell.new.destination w lx ly c.loop-destination.invariant.rest;
    }

pub returns : goal.returns
returns g c =
    let i = c.loop-destination.destination-index in let same = c.loop-destination.auto.destinations in let end = c.loop-destination-test.false in
    let all : length c.loop-destination.destinations ≤ i = omega (arith, same, end) in
    ap (map noted) (sym (take_all i c.loop-destination.destinations all)) ∙ c.loop-destination.invariant.told ∙ ap (map (λ w. told_times 1 c.args.end (noted w))) (take_all i c.args.destinations.now end)
