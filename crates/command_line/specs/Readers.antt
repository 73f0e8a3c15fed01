-- Who reads a line, and what the parser holds against it.
use Rattle.std.specs.Prelude.{List, [], ◌∷◌, Bool, ◌&&◌, ◌||◌, codes, drop, true, false, if◌then◌else◌}
use Rattle.std.specs.Str.{bytes_eq}
use Rattle.clap.specs.Words.{Kinds, Text, fault_of}
use Rattle.clap.specs.declared.error.kind.ErrorKind.TheVariants.{DisplayVersion}
use Rattle.command_line.specs.CommandLines.{driver_app}
use Rattle.command_line.specs.Lines.{publish_app, subscribe_app}
use Rattle.command_line.specs.declared.readers.Reader.{Reader}
use Rattle.command_line.specs.declared.readers.Reader.TheVariants.{Version, PublishHelp, SubscribeHelp, Publish, Subscribe, DecodeInput, Driver}

-- of a line that begins with this word, which may be its only one
abbrev pub reader_at : Text → Bool → Reader
reader_at first is_alone =
    if bytes_eq first (codes "publish") then Publish
    else if bytes_eq first (codes "subscribe") then Subscribe
    else if (bytes_eq first (codes "--version") || bytes_eq first (codes "-V")) && is_alone then Version
    else Driver

-- of a line of two words or more: `help` and a command, or any other
abbrev pub reader_of_more : Text → Text → Reader
reader_of_more first second =
    if bytes_eq first (codes "help")
    then (if bytes_eq second (codes "publish") then PublishHelp else if bytes_eq second (codes "subscribe") then SubscribeHelp else Driver)
    else reader_at first false

-- of a line of two words: `decode --stdin`, or any other
abbrev pub reader_of_two : Text → Text → Reader
reader_of_two first second =
    if bytes_eq first (codes "decode") && bytes_eq second (codes "--stdin") then DecodeInput else reader_of_more first second

-- of the words behind the program's name
abbrev pub reader_of : List Text → Reader
reader_of [] = Driver
reader_of (first ∷ []) = reader_at first true
reader_of (first ∷ second ∷ []) = reader_of_two first second
reader_of (first ∷ second ∷ third ∷ rest) = reader_of_more first second

-- the line that asks for a command's help
abbrev pub help_line : Text → List Text
help_line name = name ∷ codes "--help" ∷ []

-- what the reader's parser holds against the words of a line, of which the first is the program's name
abbrev pub faults_by : Reader → List Text → Kinds
faults_by Version words = DisplayVersion ∷ []
faults_by PublishHelp words = fault_of publish_app (help_line (codes "publish"))
faults_by SubscribeHelp words = fault_of subscribe_app (help_line (codes "subscribe"))
faults_by Publish words = fault_of publish_app (drop 1 words)
faults_by Subscribe words = fault_of subscribe_app (drop 1 words)
faults_by DecodeInput words = []
faults_by Driver words = fault_of driver_app words

abbrev pub faults_of : List Text → Kinds
faults_of words = faults_by (reader_of (drop 1 words)) words
