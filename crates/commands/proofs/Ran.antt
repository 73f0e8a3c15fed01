-- How a run ended that has this status, and why it didn't.
use Rattle.std.proofs.Common.{◌≡◌, Result, Ok, Err, arith}
use Rattle.std.specs.Prelude.{IfOk}
use Rattle.run.specs.declared.outcome.Ending.{Ending}
use Rattle.run.specs.declared.outcome.Ending.TheVariants.{Broken, Short, Whole}
use Rattle.commands.specs.declared.fault.Fault.{Fault}
use Rattle.endpoint.specs.declared.device_error.DeviceError.{DeviceError}
use Rattle.endpoint.specs.declared.device_error.DeviceError.TheVariants as devices
use Rattle.options.specs.declared.run.options.RunOptions.{RunOptions}
use Rattle.commands.specs.Faults.{of_device}
use Rattle.commands.specs.Running.{ExplainsRun}
use Rattle.commands.specs.Statuses.{ran_status}

pub ran_whole : (ended : Result Ending Fault) (P : Ending → Type 0) → IfOk ended P → ran_status ended ≡ 0 → P Whole
ran_whole (Ok Whole) P h e = h
ran_whole (Ok Short) P h e = absurd (omega (arith, e))
ran_whole (Ok Broken) P h e = absurd (omega (arith, e))
ran_whole (Err fault) P h e = absurd (omega (arith, e))

pub ran_short : (ended : Result Ending Fault) (P : Ending → Type 0) → IfOk ended P → ran_status ended ≡ 3 → P Short
ran_short (Ok Whole) P h e = absurd (omega (arith, e))
ran_short (Ok Short) P h e = h
ran_short (Ok Broken) P h e = absurd (omega (arith, e))
ran_short (Err fault) P h e = absurd (omega (arith, e))

pub device_explains : (o : RunOptions) (e : DeviceError) → ExplainsRun o (of_device e)
device_explains o devices.Device = tt
device_explains o devices.Memory = tt
