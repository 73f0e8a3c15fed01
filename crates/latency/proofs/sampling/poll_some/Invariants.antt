use Rattle.std.proofs.Common.{◌≤◌, ◌+◌, vec_len}
use Rattle.latency.proofs.sampling.poll_some.Given as goal

abbrev pub invariant-loop-count : goal.invariant-loop-count
invariant-loop-count g l = vec_len l.samples.taken ≤ vec_len l.initial.samples.taken + l.count
