-- Consumers that join and leave.
use Rattle.shared_log.specs.Steps.Handles.{LogValue}
use Rattle.std.specs.Prelude.{◌≡◌, []}
use Rattle.shared_log.specs.Readers.{IsAlone, IsReaderOf, ReaderValue, known_of}

-- a reader of this log that is one consumer, and nothing else
pub record IsSingle (l : LogValue) (r : ReaderValue) : Type 0 where
  pub of : IsReaderOf l r
  pub alone : IsAlone l r

-- and that has read nothing yet
pub record IsNewcomer (l : LogValue) (r : ReaderValue) : Type 0 where
  pub single : IsSingle l r
  pub nothing : known_of r ≡ []
