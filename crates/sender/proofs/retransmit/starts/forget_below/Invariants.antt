use Rattle.std.proofs.Common.{◌≡◌, ℕ, nat_le, filter, length}
use Rattle.std.specs.VecDeque.{deque_capacity}
use Rattle.sender.specs.Resending.Spaced.{AreSpaced}
use Rattle.sender.proofs.retransmit.starts.forget_below.Given as goal

abbrev pub invariant-loop-starts : goal.invariant-loop-starts
invariant-loop-starts l = record { spaced : (lower : ℕ) × (upper : ℕ) × AreSpaced lower upper l.starts.items; others : filter (nat_le l.from) l.starts.items ≡ filter (nat_le l.from) l.fn.starts.items; room : deque_capacity l.starts ≡ deque_capacity l.fn.starts }

abbrev pub decreases-loop-starts : goal.decreases-loop-starts
decreases-loop-starts l = length l.starts.items
