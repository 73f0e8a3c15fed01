-- What a word of hexadecimal digits says, and why it isn't decoded.
use Rattle.std.specs.Prelude.{◌≡◌, ◌≢◌, ◌≤◌, ◌%◌, ℕ, List, Ok, length}
use Rattle.theory.specs.Wire.{Wire, SpellsDatagram}
use Rattle.frames.specs.Datagrams.{IsDatagramFault}
use Rattle.hex.specs.Hex.{decode_of}
use Rattle.commands.specs.declared.fault.Fault.{Fault}
use Rattle.commands.specs.declared.fault.Fault.TheVariants.{Line, Input, Memory, Hex, Frame, Read, Write, Plan, Order, Device}

-- the word is of at most 131,072 digits, and two of them spell each byte
abbrev pub SpellsWord : List ℕ → List ℕ → Type 0
SpellsWord word bytes = (length word ≤ 131072) × (decode_of word ≡ Ok bytes)

-- the bytes of the word are the datagram of these frames
abbrev pub SaysFrames : List ℕ → List Wire → Type 0
SaysFrames word frames = (bytes : List ℕ) × SpellsWord word bytes × SpellsDatagram frames bytes

-- why a word isn't decoded; for want of memory any word may be refused that is no longer and has an even number of characters
abbrev pub Explains : List ℕ → Fault → Type 0
Explains word Memory = (length word ≤ 131072) × (length word % 2 ≢ 1)
Explains word Hex = (bytes : List ℕ) → SpellsWord word bytes → ⊥
Explains word (Frame fault) = (bytes : List ℕ) × SpellsWord word bytes × IsDatagramFault bytes fault
Explains word Write = (frames : List Wire) × SaysFrames word frames
Explains word (Line number) = ⊥
Explains word Input = ⊥
Explains word Read = ⊥
Explains word (Plan fault) = ⊥
Explains word Order = ⊥
Explains word Device = ⊥
