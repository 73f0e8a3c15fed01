use Rattle.std.proofs.Common.{ℕ, ◌<◌, get_or}
use Rattle.channel.specs.declared.channel.Transport.{Transport}
use Rattle.options.specs.Ends.Ways.{LeadsElsewhere}
use Rattle.options.proofs.ends.ways.is_led.Given as goal

abbrev pub invariant-loop-way : goal.invariant-loop-way
invariant-loop-way l = (k : ℕ) (d : Transport) → k < l.way-index → LeadsElsewhere l.endpoint (get_or l.ways k d)
