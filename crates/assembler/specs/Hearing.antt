-- What an assembler makes of frames, one after the other. A padding is passed over.
use Rattle.std.specs.Prelude.{◌≡◌, ◌↔◌, ◌<◌, ℕ, false, List, [], length, map, Option, None}
use Rattle.theory.specs.Placed.{Data, Frame, Pad, Placed, is_padding}
use Rattle.theory.specs.Assembly.{Assembly, Heard, after_all, on_frame}
use Rattle.assembler.specs.Assembling.{Assembling, held_with, is_dropped}
use Rattle.assembler.specs.declared.fault.AssemblyError.{AssemblyError}
use Rattle.assembler.specs.declared.fault.AssemblyError.TheVariants.{Memory, TooLong}

-- what a frame leaves begun, and the message that it completes
abbrev pub heard_of : Option (List ℕ) → Frame → Heard
heard_of begun (Data flags payload) = on_frame begun flags payload
heard_of begun (Pad n) = record { begun = begun; message = None }

-- what frames leave begun, and the messages that they complete
abbrev pub assembled : Option (List ℕ) → List Placed → Assembly
assembled begun frames = after_all (record { begun = begun; given = [] }) (map (λ s. s.frame) frames)

-- the message would have more bytes than the greatest with this frame
abbrev pub IsTooLong : ℕ → Option (List ℕ) → Frame → Type 0
IsTooLong greatest begun (Data flags payload) = greatest < length (held_with begun flags payload)
IsTooLong greatest begun (Pad n) = ⊥

-- its payload has bytes, and is kept: only such a frame asks for memory
abbrev pub AsksMemory : Option (List ℕ) → Frame → Type 0
AsksMemory begun (Data flags payload) = (is_dropped begun flags ≡ false) × (0 < length payload)
AsksMemory begun (Pad n) = ⊥

-- it was taken: what is begun behind it, and the message that it completes
pub record TakesFrame (a : Assembling) (f : Frame) (message : Option (List ℕ)) (b : Assembling) : Type 0 where
  pub begun : b ≡ record a { begun = (heard_of a.begun f).begun }
  pub message_is : message ≡ (heard_of a.begun f).message

-- it was refused, with its cause: as too long exactly where the message would be longer than the greatest with it, else for want of
-- memory. Nothing is begun then
pub record RefusesFrame (a : Assembling) (f : Frame) (fault : AssemblyError) (b : Assembling) : Type 0 where
  pub not_padding : is_padding f ≡ false
  pub named : (fault ≡ TooLong) ↔ IsTooLong a.greatest a.begun f
  pub asked : fault ≡ Memory → AsksMemory a.begun f
  pub dropped : b ≡ record a { begun = None }
