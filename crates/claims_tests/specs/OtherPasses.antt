-- Who goes on beside a publisher that stalls.
use Rattle.std.specs.Prelude.{◌≡◌, []}
use Rattle.std.specs.List.{AllByRecursion}
use Rattle.shared_log.specs.Books.{IsDone}
use Rattle.shared_log.specs.Steps.Handles.{LogValue}
use Rattle.shared_log.specs.Readers.{IsReaderOf}
use Rattle.claims_tests.specs.Passes.{IsPart}
use Rattle.claims_tests.specs.declared.other_passes.OtherPasses.{OtherPasses}
use Rattle.claims_tests.specs.declared.other_passes.Follower.{Follower}
use Rattle.claims_tests.specs.declared.other_passes.Four.{Four}

-- all that follows is of this log, and has claimed nothing
pub record IsFollower (l : LogValue) (f : Follower) : Type 0 where
  pub reader : IsReaderOf l f.messages.reader
  pub keeper : IsDone l f.keeper.held
  pub unclaimed : f.keeper.held.pass.right.claims ≡ []
  pub parts : f.keeper.held.pass.right.parts ≡ 8

-- the four that publish are of this log, and the first has the first's parts
pub record AreFour (l : LogValue) (f : Four) : Type 0 where
  pub first : IsPart l 176 f.first
  pub one : IsPart l 120 f.one
  pub two : IsPart l 120 f.two
  pub three : IsPart l 120 f.three

-- all that goes on is of this log
pub record AreOtherPasses (l : LogValue) (c : OtherPasses) : Type 0 where
  pub one : IsPart l 120 c.one
  pub two : IsPart l 120 c.two
  pub three : IsPart l 120 c.three
  pub idle : AllByRecursion (IsPart l 120) c.idle
  pub follower : IsFollower l c.follower
