use Rattle.std.proofs.Common.{◌≡◌, map}
use Rattle.run.specs.Outcomes.{device_in}
use Rattle.run.proofs.planned_run.devices_of.Given as goal

abbrev pub invariant-loop-one : goal.invariant-loop-one
invariant-loop-one g l = l.devices.items ≡ map device_in l.yielded
