-- Which standard descriptors a line can't do without.
use Rattle.std.specs.Prelude.{◌≡◌, ◌||◌, ℕ, Bool, false, List, [], ◌∷◌, IsTrue, codes, ⊤}
use Rattle.std.specs.List.{list_any}
use Rattle.std.specs.Str.{bytes_eq}
use Rattle.clap.specs.Words.{Text}
use Rattle.command_line.specs.Readers.{reader_of}
use Rattle.command_line.specs.declared.descriptors.Closed.{Closed}
use Rattle.command_line.specs.declared.descriptors.Descriptor.{Descriptor}
use Rattle.command_line.specs.declared.descriptors.Descriptor.TheVariants.{Input, Output, Errors}
use Rattle.command_line.specs.declared.readers.Reader.{Reader}
use Rattle.command_line.specs.declared.readers.Reader.TheVariants.{Version, PublishHelp, SubscribeHelp, Publish, Subscribe, DecodeInput, Driver}

abbrev pub is_help_word : Text → Bool
is_help_word word = bytes_eq word (codes "--help") || bytes_eq word (codes "-h")

-- whether a word of the line asks for help
abbrev pub asks_for_help : List Text → Bool
asks_for_help line = list_any is_help_word line

abbrev pub begins_with : Text → List Text → Bool
begins_with word [] = false
begins_with word (first ∷ rest) = bytes_eq first word

-- a line with this reader is one of a command that reads the standard input: `publish`, `decode --stdin` or `sim`
abbrev pub IsOfInput : Reader → List Text → Type 0
IsOfInput Version line = ⊥
IsOfInput PublishHelp line = ⊥
IsOfInput SubscribeHelp line = ⊥
IsOfInput Publish line = ⊤
IsOfInput Subscribe line = ⊥
IsOfInput DecodeInput line = ⊤
IsOfInput Driver line = IsTrue (begins_with (codes "sim") line)

-- it is, and no word of it asks for help in place of that
abbrev pub ReadsInput : List Text → Type 0
ReadsInput line = IsOfInput (reader_of line) line × (asks_for_help line ≡ false)

-- the error output is needed by none: what would be told there may be lost
abbrev pub Needs : List Text → Descriptor → Type 0
Needs line Input = ReadsInput line
Needs line Output = ⊤
Needs line Errors = ⊥

abbrev pub IsClosed : Closed → Descriptor → Type 0
IsClosed closed Input = IsTrue closed.input
IsClosed closed Output = IsTrue closed.output
IsClosed closed Errors = IsTrue closed.errors

-- the line needs it, and it is closed
abbrev pub Lacks : List Text → Closed → Descriptor → Type 0
Lacks line closed descriptor = Needs line descriptor × IsClosed closed descriptor

abbrev pub descriptor_text : Descriptor → List ℕ
descriptor_text Input = codes "standard input"
descriptor_text Output = codes "standard output"
descriptor_text Errors = codes "standard error"
