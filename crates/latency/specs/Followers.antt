-- What follows the publishers of a log.
use Rattle.std.specs.Prelude.{◌≤◌, length}
use Rattle.shared_log.specs.Steps.Handles.{IsOf, LogValue}
use Rattle.shared_log.specs.Readers.{IsReaderOf}
use Rattle.latency.specs.declared.log_follower.Follower.{Follower}

-- a reader and the keeper of this log, with room for a frame
pub record IsFollower (l : LogValue) (f : Follower) : Type 0 where
  pub reader : IsReaderOf l f.reader
  pub keeper : IsOf l f.keeper.held
  pub room : l.identity.geometry.mtu ≤ length f.block
