-- A fault of the reading, and one of a device, as one of the publisher.
use Rattle.endpoint.specs.declared.device_error.DeviceError.TheVariants.{Memory}
use Rattle.endpoint.specs.declared.open_error.OpenError.{OpenError}
use Rattle.endpoint.specs.declared.open_error.OpenError.TheVariants as opening
use Rattle.endpoint.specs.declared.udp.Route.{Route}
use Rattle.publisher.specs.declared.offering.reading.ReadingFault.{ReadingFault}
use Rattle.publisher.specs.declared.offering.reading.ReadingFault.TheVariants as stops
use Rattle.publisher.specs.declared.fault.PublishFault.{PublishFault}
use Rattle.publisher.specs.declared.fault.PublishFault.TheVariants.{Input, Full, NoSocket, Failed}

abbrev pub publish_fault : ReadingFault → PublishFault
publish_fault (stops.Input fault) = Input fault
publish_fault stops.Full = Full

-- why there is none along a route
abbrev pub of_opening : Route → OpenError → PublishFault
of_opening route (opening.Refused number) = NoSocket route number
of_opening route opening.Memory = Failed Memory
