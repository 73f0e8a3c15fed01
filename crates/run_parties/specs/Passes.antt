-- What the threads of a run give back.
use Rattle.std.specs.Prelude.{◌≡◌, []}
use Rattle.shared_log.specs.Steps.Handles.{LogValue, PublisherValue}
use Rattle.shared_log.specs.Keepers.{KeeperValue}
use Rattle.shared_log.specs.Books.{IsDone}

-- a publisher that has published: it is one of the log with nothing open, and has its number and its parts
pub record Ends (l : LogValue) (p q : PublisherValue) : Type 0 where
  pub done : IsDone l q
  pub parts : q.pass.right.parts ≡ p.pass.right.parts
  pub number : q.pass.number ≡ p.pass.number

-- a publisher that has claimed nothing, and committed nothing
pub record HasNone (p : PublisherValue) : Type 0 where
  pub claims : p.pass.right.claims ≡ []
  pub frames : p.pass.work.frames ≡ []

-- the log's keeper, which has claimed nothing
pub record IsKept (l : LogValue) (k : KeeperValue) : Type 0 where
  pub done : IsDone l k.held
  pub unclaimed : k.held.pass.right.claims ≡ []
  pub parts : k.held.pass.right.parts ≡ 8
