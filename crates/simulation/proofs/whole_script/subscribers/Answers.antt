use Rattle.std.proofs.Common.{rules}
use Rattle.simulation.proofs.Listened.{one_more}
use Rattle.simulation.proofs.whole_script.subscribers.Goals as goal

pub loop-number-preserved : goal.loop-number-preserved
loop-number-preserved c = (
  search rules,
  one_more (record { geometry = c.args.geometry.now; session = c.args.log.now.session; stream = c.args.log.now.stream })
      c.loop-number.number c.loop-number.subscribers.items c.push.new.self.items c.subscriber.result
      c.loop-number-test.true c.loop-number.invariant.1 c.subscriber.ensures (search rules),
)
