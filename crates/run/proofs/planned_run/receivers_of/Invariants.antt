use Rattle.std.proofs.Common.{◌≡◌, ◌+◌, ◌++◌, length, map}
use Rattle.run.specs.Threads.{AreWaitingFrom, counters_of, device_of, shown_of}
use Rattle.run.proofs.planned_run.receivers_of.Given as goal

abbrev pub invariant-loop-number : goal.invariant-loop-number
invariant-loop-number g l = record {
  left : length l.replies.items + l.number ≡ l.plan.receivers;
  many : length l.waiting.items ≡ l.number;
  waits : AreWaitingFrom l.plan.geometry l.plan.receivers 0 l.waiting.items;
  devices : map device_of l.waiting.items ++ l.replies.items ≡ l.fn.replies.items;
  shown : map shown_of l.shown.items ≡ map counters_of l.waiting.items;
}
