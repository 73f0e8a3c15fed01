-- Messages put together from the frames of a stream, one frame after the other.
-- A single-frame message is given at once. A begin drops what was begun; a middle and an end add to what is begun, or
-- are dropped where nothing is; an end gives the message.
use Rattle.std.specs.Prelude.{ℕ, List, [], ◌∷◌, ◌++◌, nat_eq, if◌then◌else◌, Option, None, Some}
use Rattle.std.specs.Option.{option_to_list}
use Rattle.theory.specs.Wire.{front}
use Rattle.theory.specs.Placed.{Data, Frame, Pad}

-- what a frame leaves begun, and the message that it completes
pub record Heard : Type 0 where
  pub begun : Option (List ℕ)
  pub message : Option (List ℕ)

abbrev pub heard_more : Option (List ℕ) → ℕ → List ℕ → Heard
heard_more None flags payload = record { begun = None; message = None }
heard_more (Some front) flags payload =
    if nat_eq flags 64
    then record { begun = None; message = Some (front ++ payload) }
    else record { begun = Some (front ++ payload); message = None }

abbrev pub on_frame : Option (List ℕ) → ℕ → List ℕ → Heard
on_frame begun flags payload =
    if nat_eq flags 192
    then record { begun = None; message = Some payload }
    else (if nat_eq flags 128 then record { begun = Some payload; message = None } else heard_more begun flags payload)

-- an assembler, with all that it gave so far
pub record Assembly : Type 0 where
  pub begun : Option (List ℕ)
  pub given : List (List ℕ)

abbrev pub nothing_heard : Assembly
nothing_heard = record { begun = None; given = [] }

abbrev pub noted : Assembly → Heard → Assembly
noted a h = record { begun = h.begun; given = a.given ++ option_to_list h.message }

-- a data frame is handed to the assembler, a padding is passed over
abbrev pub after : Assembly → Frame → Assembly
after a (Data flags payload) = noted a (on_frame a.begun flags payload)
after a (Pad n) = a

abbrev pub after_all : Assembly → List Frame → Assembly
after_all a [] = a
after_all a (f ∷ fs) = after_all (after a f) fs
