-- The threads' parts of a log.
use Rattle.std.specs.Prelude.{◌≡◌, []}
use Rattle.shared_log.specs.Steps.Handles.{IsOf, LogValue}
use Rattle.shared_log.specs.Readers.{IsReaderOf, ReaderValue, known_of}
use Rattle.stream_tests.specs.declared.parties.Party.{Party}
use Rattle.stream_tests.specs.declared.parties.Party.TheVariants.{Keeping, Publishing, Reading}

-- a reader of this log that has read nothing yet
pub record IsUnread (l : LogValue) (r : ReaderValue) : Type 0 where
  pub of : IsReaderOf l r
  pub nothing : known_of r ≡ []

-- what it has is of this log
abbrev pub IsParty : LogValue → Party → Type 0
IsParty l (Publishing publisher) = IsOf l publisher
IsParty l (Reading messages) = IsReaderOf l messages.reader
IsParty l (Keeping keeper) = IsOf l keeper.held
