use Rattle.std.proofs.Common.{rules}
use Rattle.peer.proofs.Passing.{passed_more}
use Rattle.peer.proofs.tied.TiedDevice.seek.Goals as goal

pub loop-preserved : goal.loop-preserved
loop-preserved c = record {
  passes = passed_more c.args.self.now c.loop.self c.look.new.self c.loop.invariant.passes (search rules);
  passed = search rules;
  device = search rules;
}
