-- The packets of a tick.
use Rattle.std.specs.Prelude.{ℕ, Bool, List, map, Option}
use Rattle.std.specs.Option.{option_to_list}
use Rattle.theory.specs.Wire.{NAK, SM, Wire, spelling}
use Rattle.frames.specs.Frames.{asks_of, nak_of, status_of}
use Rattle.frames.specs.declared.frame.Nak.{Nak}
use Rattle.frames.specs.declared.frame.Status.{Status}

-- a status message, or none
abbrev pub status_wires : Bool → Option Status → List Wire
status_wires asks status = map (λ f. SM (asks_of asks) (status_of f)) (option_to_list status)

-- a negative acknowledgement, or none
abbrev pub nak_wires : Option Nak → List Wire
nak_wires nak = map (λ f. NAK (nak_of f)) (option_to_list nak)

-- the bytes of frames, each in a packet of its own
abbrev pub bytes_of : List Wire → List (List ℕ)
bytes_of ws = map spelling ws
