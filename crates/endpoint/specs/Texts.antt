-- What a user reads of a device that failed.
use Rattle.std.specs.Prelude.{ℕ, List, codes}
use Rattle.endpoint.specs.declared.device_error.DeviceError.{DeviceError}
use Rattle.endpoint.specs.declared.device_error.DeviceError.TheVariants.{Device, Memory}
use Rattle.endpoint.specs.declared.open_error.OpenError.{OpenError}
use Rattle.endpoint.specs.declared.open_error.OpenError.TheVariants as opening

abbrev pub device_text : List ℕ
device_text = codes "device"

abbrev pub text_of : DeviceError → List ℕ
text_of Device = device_text
text_of Memory = codes "memory"

-- a socket that can't be had is a device that failed, or want of memory
abbrev pub device_of : OpenError → DeviceError
device_of (opening.Refused number) = Device
device_of opening.Memory = Memory

abbrev pub open_text : OpenError → List ℕ
open_text error = text_of (device_of error)
