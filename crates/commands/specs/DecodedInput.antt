-- What is printed of an input whose lines spell datagrams.
use Rattle.std.specs.Prelude.{◌≡◌, ℕ, Bool, true, false, List, [], ◌∷◌, ◌++◌, ⊤, codes, decimal, Option}
use Rattle.std.specs.List.{flat_map}
use Rattle.std.specs.Io.KnownBytes.{Appends, Consumes, IsAtEnd}
use Rattle.theory.specs.Wire.{Wire}
use Rattle.messages.specs.Inputs.{TakesLine}
use Rattle.commands.specs.Decoding.{SaysFrames}
use Rattle.commands.specs.FrameLines.{frame_lines}
use Rattle.commands.specs.Faults.{shown_fault}
use Rattle.commands.specs.declared.decoding.input.LineFault.{LineFault}

abbrev pub line_fault_text : LineFault → List ℕ
line_fault_text at = codes "line " ++ decimal at.number ++ codes ": " ++ shown_fault at.fault

-- these lines are taken, one after the other
abbrev pub TakesLines : Option (List ℕ) → List (List ℕ) → Option (List ℕ) → Type 0
TakesLines old [] new = Consumes old new []
TakesLines old (line ∷ lines) new = (middle : Option (List ℕ)) × TakesLine old middle line × TakesLines middle lines new

-- each line spells the datagram of these frames
abbrev pub SayAll : List (List ℕ) → List (List Wire) → Type 0
SayAll [] [] = ⊤
SayAll [] (frames ∷ rest) = ⊥
SayAll (line ∷ lines) [] = ⊥
SayAll (line ∷ lines) (frames ∷ rest) = SaysFrames line frames × SayAll lines rest

-- some lines are taken, and the frames of the datagrams that they spell were printed
pub record Decoded (old new before after : Option (List ℕ)) : Type 0 where
  pub lines : List (List ℕ)
  pub datagrams : List (List Wire)
  pub taken : TakesLines old lines new
  pub said : SayAll lines datagrams
  pub printed : Appends before after (flat_map frame_lines datagrams)

-- one line is, or the input was at its end
abbrev pub DecodesLine : Option (List ℕ) → Option (List ℕ) → Option (List ℕ) → Option (List ℕ) → Bool → Type 0
DecodesLine old new before after true = (line : List ℕ) × (frames : List Wire) × TakesLine old new line × SaysFrames line frames × Appends before after (frame_lines frames)
DecodesLine old new before after false = Consumes old new [] × IsAtEnd new × (after ≡ before)

-- all lines of the input are
abbrev pub DecodesInput : Option (List ℕ) → Option (List ℕ) → Option (List ℕ) → Type 0
DecodesInput input before after = (left : Option (List ℕ)) × Decoded input left before after × IsAtEnd left
