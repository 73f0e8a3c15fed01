-- Why a line isn't carried out, and which words are refused.
use Rattle.std.specs.Prelude.{◌≡◌, ◌≢◌, ◌⊎◌, ℕ, List, [], codes, ⊤, Option, None, Some}
use Rattle.clap.specs.Words.{IsAmong, Kinds, kind_of}
use Rattle.clap.specs.declared.error.kind.ErrorKind.{ErrorKind}
use Rattle.clap.specs.declared.error.kind.ErrorKind.TheVariants.{DisplayHelp, DisplayVersion, OutOfMemory}
use Rattle.command_line.specs.declared.fault.LineFault.{LineFault}
use Rattle.command_line.specs.declared.fault.LineFault.TheVariants.{Memory, Shown}

-- help or the version that was asked for is no refusal
abbrev pub IsRefusalKind : ErrorKind → Type 0
IsRefusalKind kind = (kind ≢ DisplayHelp) × (kind ≢ DisplayVersion)

-- the parser refused it
abbrev pub IsRefusal : LineFault → Type 0
IsRefusal (Shown e) = IsRefusalKind (kind_of e)
IsRefusal Memory = ⊥

-- the text of a fault that isn't the parser's
abbrev pub output_of : LineFault → Option (List ℕ)
output_of (Shown e) = None
output_of Memory = Some (codes "memory")

-- what is shown is of one of these kinds, and isn't that memory was refused
abbrev pub IsFaultOf : Kinds → LineFault → Type 0
IsFaultOf faults (Shown e) = IsAmong (kind_of e) faults × (kind_of e ≢ OutOfMemory)
IsFaultOf faults Memory = ⊤

-- something is held against the words, and nothing of that is a request for help or the version
pub record AreRefused (faults : Kinds) : Type 0 where
  pub some : faults ≢ []
  pub all : (kind : ErrorKind) → IsAmong kind faults → IsRefusalKind kind

-- all that keeps the words from being taken is that they ask for help or the version
pub record AskForHelp (faults : Kinds) : Type 0 where
  pub some : faults ≢ []
  pub all : (kind : ErrorKind) → IsAmong kind faults → (kind ≡ DisplayHelp) ⊎ (kind ≡ DisplayVersion)

-- something that is no request for help is among what is held against the words
abbrev pub HoldRefusal : Kinds → Type 0
HoldRefusal faults = (kind : ErrorKind) × IsAmong kind faults × IsRefusalKind kind
