-- The fault texts.
use Rattle.std.specs.Prelude.{ℕ, List, ◌++◌, codes, decimal}
use Rattle.frames.specs.Fault.{text_of}
use Rattle.script.specs.declared.fault.ScriptFault.{ScriptFault}
use Rattle.script.specs.declared.fault.ScriptFault.TheVariants as script
use Rattle.endpoint.specs.declared.device_error.DeviceError.{DeviceError}
use Rattle.endpoint.specs.declared.device_error.DeviceError.TheVariants as devices
use Rattle.options.specs.Run.Texts as plans
use Rattle.messages.specs.declared.fault.InputFault.{InputFault}
use Rattle.messages.specs.declared.fault.InputFault.TheVariants as inputs
use Rattle.commands.specs.declared.fault.Fault.{Fault}
use Rattle.commands.specs.declared.fault.Fault.TheVariants.{Line, Input, Memory, Hex, Frame, Read, Write, Plan, Order, Device}

abbrev pub shown_fault : Fault → List ℕ
shown_fault (Line n) = codes "line " ++ decimal n ++ codes ": script"
shown_fault Input = codes "input"
shown_fault Memory = codes "memory"
shown_fault Hex = codes "hex"
shown_fault (Frame error) = text_of error
shown_fault Read = codes "read"
shown_fault Write = codes "write"
shown_fault (Plan fault) = plans.text_of fault
shown_fault Order = codes "order"
shown_fault Device = codes "device"

-- a script's fault as the program's
abbrev pub of_script : ScriptFault → Fault
of_script (script.Line n) = Line n
of_script script.Memory = Memory

-- why a line of an input isn't read, as the program's; one that is too long is no even number of digits, at most 131,072
abbrev pub of_input : InputFault → Fault
of_input (inputs.Read number) = Read
of_input (inputs.TooLong number greatest) = Hex
of_input (inputs.Cut number) = Read
of_input inputs.Memory = Memory

-- a run's fault as the program's
abbrev pub of_device : DeviceError → Fault
of_device devices.Device = Device
of_device devices.Memory = Memory
