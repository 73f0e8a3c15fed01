use Rattle.publisher.proofs.Many.{again}
use Rattle.publisher.proofs.two_threads.bid_farewell.Goals as goal

pub loop-count-preserved : goal.loop-count-preserved
loop-count-preserved g c = again c.loop-count._count c.in-Some.end c.args.duty.now.device.ways c.loop-count.duty.device.ways c.tell_all-in-loop-count.new.duty.device.ways c.loop-count.invariant c.tell_all-in-loop-count.ensures.told
