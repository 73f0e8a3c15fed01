-- Passes that close a log together.
use Rattle.std.specs.Prelude.{◌≡◌, ℕ, []}
use Rattle.shared_log.specs.Steps.Handles.{IsOf, LogValue, PublisherValue}
use Rattle.shared_log.specs.Books.{IsDone}
use Rattle.shared_log.specs.Keepers.{KeeperValue}

-- a publisher of this log, with so many parts of the right to close it
pub record IsPart (l : LogValue) (parts : ℕ) (p : PublisherValue) : Type 0 where
  pub of : IsOf l p
  pub parts_are : p.pass.right.parts ≡ parts

-- the keeper of this log, which has claimed nothing
pub record IsKeeping (l : LogValue) (k : KeeperValue) : Type 0 where
  pub done : IsDone l k.held
  pub unclaimed : k.held.pass.right.claims ≡ []
  pub parts : k.held.pass.right.parts ≡ 8
