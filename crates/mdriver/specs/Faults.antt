-- Why no command is begun, and what a user reads of it.
use Rattle.std.specs.Prelude.{◌≡◌, ◌≢◌, ℕ, List, ◌++◌, codes}
use Rattle.std.specs.IoError.{error_kind}
use Rattle.std.specs.declared.io.Error.{Error}
use Rattle.std.specs.declared.io.ErrorKind.TheVariants.{InvalidData}
use Rattle.command_line.specs.Descriptors.{descriptor_text}
use Rattle.mdriver.specs.declared.fault.Fault.{Fault}
use Rattle.mdriver.specs.declared.fault.Fault.TheVariants.{Word, Memory, Closed, Null}

-- an error at the command line's words: one is no text, or memory was refused
pub record IsFaultOf (error : Error) (fault : Fault) : Type 0 where
  pub word : error_kind error ≡ InvalidData → fault ≡ Word
  pub memory : error_kind error ≢ InvalidData → fault ≡ Memory

abbrev pub shown_fault : Fault → List ℕ
shown_fault Word = codes "a word of the command line is no text"
shown_fault Memory = codes "memory"
shown_fault (Closed descriptor) = descriptor_text descriptor ++ codes " is closed"
shown_fault Null = codes "a standard descriptor is closed, and /dev/null can't be opened"
