use Rattle.std.proofs.Common.{◌≡◌, ◌-◌, ◌+◌, length}
use Rattle.sender.proofs.AgainLemmas.{Resent}
use Rattle.sender.proofs.again.send_again.Given as goal

abbrev pub invariant-loop-at : goal.invariant-loop-at
invariant-loop-at g l = record {
  resent : Resent l.identity (g.R.FrameSource.source l.initial.reads l.initial.log) (record { start = l.range.start; length = l.range.length }) l.initial.outbox l.at l.packing l.outbox;
  stays : g.R.FrameSource.source l.reads l.log ≡ g.R.FrameSource.source l.initial.reads l.initial.log;
  stands : g.R.FrameSource.stands l.reads l.log;
  leaves : g.R.FrameSource.leaves l.initial.reads l.initial.log l.reads l.log;
  block : length l.block ≡ length l.initial.block;
}

abbrev pub decreases-loop-at : goal.decreases-loop-at
decreases-loop-at g l = l.range.start + l.range.length - l.at
