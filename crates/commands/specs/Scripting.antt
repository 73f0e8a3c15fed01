-- The script on an input, played, and why it isn't, where the input's bytes are known.
use Rattle.std.specs.Prelude.{◌≤◌, ◌<◌, ℕ, List, length, Option, IfSome}
use Rattle.std.specs.Io.KnownBytes.{Appends, Consumes}
use Rattle.script.specs.Language.{IsFaultLine, IsScript}
use Rattle.script.specs.Meaning.{ScriptContent}
use Rattle.script_meaning.specs.LineContents.{LineContent}
use Rattle.script_meaning.specs.Output.{IsOutputOf}
use Rattle.simulation.specs.LineTexts.{text_of_lines}
use Rattle.commands.specs.declared.fault.Fault.{Fault}
use Rattle.commands.specs.declared.fault.Fault.TheVariants.{Line, Input, Memory, Hex, Frame, Read, Write, Plan, Order, Device}

-- it is a script, of at most 1 MiB
abbrev pub HoldsScript : List ℕ → Type 0
HoldsScript bytes = (length bytes ≤ 1048576) × ((script : ScriptContent) × IsScript bytes script)

-- the input holds this script, and the lines of an output of it were written, each ended by a line feed, in order
pub record PlaysInput (input before after : Option (List ℕ)) : Type 0 where
  pub script : ScriptContent
  pub held : IfSome input (λ bytes. (length bytes ≤ 1048576) × IsScript bytes script)
  pub lines : List LineContent
  pub output : IsOutputOf script lines
  pub written : Appends before after (text_of_lines lines)

-- so many bytes were taken of an input
abbrev pub TakesBytes : Option (List ℕ) → Option (List ℕ) → (ℕ → Type 0) → Type 0
TakesBytes old new number = (front : List ℕ) × Consumes old new front × number (length front)

-- why not all of it is taken; for want of memory, or where the input fails, any may be refused of which no more than 1 MiB was taken
abbrev pub ExplainsInput : Option (List ℕ) → Option (List ℕ) → Fault → Type 0
ExplainsInput old new (Line n) = ⊥
ExplainsInput old new Input = TakesBytes old new (λ n. 1048576 < n)
ExplainsInput old new Memory = TakesBytes old new (λ n. n ≤ 1048576)
ExplainsInput old new Hex = ⊥
ExplainsInput old new (Frame fault) = ⊥
ExplainsInput old new Read = TakesBytes old new (λ n. n ≤ 1048576)
ExplainsInput old new Write = ⊥
ExplainsInput old new (Plan fault) = ⊥
ExplainsInput old new Order = ⊥
ExplainsInput old new Device = ⊥

-- why it isn't played to its end
abbrev pub ExplainsScript : Option (List ℕ) → Option (List ℕ) → Fault → Type 0
ExplainsScript old new (Line n) = IfSome old (λ bytes. (length bytes ≤ 1048576) × IsFaultLine bytes n)
ExplainsScript old new Input = TakesBytes old new (λ n. 1048576 < n)
ExplainsScript old new Memory = TakesBytes old new (λ n. n ≤ 1048576)
ExplainsScript old new Hex = ⊥
ExplainsScript old new (Frame fault) = ⊥
ExplainsScript old new Read = TakesBytes old new (λ n. n ≤ 1048576)
ExplainsScript old new Write = IfSome old HoldsScript
ExplainsScript old new (Plan fault) = ⊥
ExplainsScript old new Order = ⊥
ExplainsScript old new Device = ⊥
