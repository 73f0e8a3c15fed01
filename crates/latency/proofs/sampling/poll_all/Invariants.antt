use Rattle.std.proofs.Common.{◌≤◌, ◌+◌, vec_len}
use Rattle.latency.proofs.sampling.poll_all.Given as goal

abbrev pub invariant-loop : goal.invariant-loop
invariant-loop g l = vec_len l.samples.taken + l.left ≤ l.wanted
