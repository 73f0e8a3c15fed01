-- Why messages are read and offered no more.
use Rattle.std.specs.Prelude.{◌≡◌, ◌≤◌, ⊤}
use Rattle.theory.specs.Position.{Geometry, max_message}
use Rattle.messages.specs.declared.fault.InputFault.{InputFault}
use Rattle.messages.specs.declared.fault.InputFault.TheVariants as inputs
use Rattle.publisher.specs.declared.offering.reading.ReadingFault.{ReadingFault}
use Rattle.publisher.specs.declared.offering.reading.ReadingFault.TheVariants.{Input, Full}

-- messages are counted from 1, and the greatest is that of the stream
abbrev pub IsOfMessage : Geometry → InputFault → Type 0
IsOfMessage g (inputs.Read code) = ⊤
IsOfMessage g (inputs.TooLong number greatest) = (1 ≤ number) × (greatest ≡ max_message g)
IsOfMessage g (inputs.Cut number) = 1 ≤ number
IsOfMessage g inputs.Memory = ⊤

-- a message couldn't be read, or the stream is at its last position
abbrev pub StopsReading : Geometry → ReadingFault → Type 0
StopsReading g (Input fault) = IsOfMessage g fault
StopsReading g Full = ⊤

-- for some shape of a stream
abbrev pub IsStop : ReadingFault → Type 0
IsStop fault = (g : Geometry) × StopsReading g fault
