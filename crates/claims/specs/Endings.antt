-- All passes of a log whose publishers claim.
use Rattle.std.specs.Prelude.{◌≡◌, ◌+◌, List, [], All}
use Rattle.shared_log.specs.Steps.Handles.{IsOf, LogValue, PublisherValue, parts_in}
use Rattle.log_rule.specs.Claims.Sums.{total}
use Rattle.shared_log.specs.Books.{IsDone}
use Rattle.shared_log.specs.Keepers.{KeeperValue}

-- all claimants and the keeper, which has claimed nothing
pub record AreAllClaimants (l : LogValue) (claimants : List PublisherValue) (keeper : KeeperValue) : Type 0 where
  pub claimants_are : All (IsOf l) claimants
  pub keeper_is : IsDone l keeper.held
  pub unclaimed : keeper.held.pass.right.claims ≡ []
  pub whole : total parts_in claimants + keeper.held.pass.right.parts ≡ 1024
