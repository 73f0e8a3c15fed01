use Rattle.std.proofs.Common.{◌≡◌, ◌+◌, length, take}
use Rattle.options.specs.Ends.Ways.{AreWays}
use Rattle.options.proofs.ends.ways.ways_of.Given as goal

abbrev pub invariant-loop-text : goal.invariant-loop-text
invariant-loop-text l = record { lead : AreWays l.channel (take l.text-index l.to) l.ways.items; many : length l.ways.items ≡ l.text-index + 1 }
