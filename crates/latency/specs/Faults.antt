-- A duty's fault as that of a measurement.
use Rattle.endpoint.specs.declared.device_error.DeviceError.{DeviceError}
use Rattle.endpoint.specs.declared.device_error.DeviceError.TheVariants as devices
use Rattle.latency.specs.declared.fault.LatencyError.{LatencyError}
use Rattle.latency.specs.declared.fault.LatencyError.TheVariants.{Device, Memory}

abbrev pub of_device : DeviceError → LatencyError
of_device devices.Device = Device
of_device devices.Memory = Memory
