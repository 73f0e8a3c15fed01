use Rattle.publisher.proofs.Short.{lines_on}
use Rattle.publisher.proofs.destination_lines.tell_each_unwritten.Goals as goal

pub loop-destination-preserved : goal.loop-destination-preserved
loop-destination-preserved g c =
    let both = lines_on c.args.end c.args.tail c.args.destinations.now c.loop-destination.destination-index c.destination-item.result c.destination-item.result c.loop-destination.last c.tell_unwritten-told.result c.last_of-last.result
    c.loop-destination-test.true c.destination-item.is c.loop-destination.invariant.whole c.loop-destination.invariant.told c.tell_unwritten-told.ensures.whole c.tell_unwritten-told.ensures.told c.last_of-last.ensures in
    record { whole = both.0; told = both.1 }
