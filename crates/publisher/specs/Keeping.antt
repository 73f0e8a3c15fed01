-- What a cycle does for the log.
use Rattle.std.specs.Prelude.{◌≡◌, Bool, true}
use Rattle.agents.specs.Conducting.{Conducts}
use Rattle.shared_log.specs.Steps.Handles.{LogValue}
use Rattle.publisher.specs.declared.sender_thread.SenderPasses.{SenderPasses}

-- the keeper and the taker went through a cycle of the conductor, and where that had work, there was work
pub record KeepsLog {D : Type 0} (l : LogValue) (old : SenderPasses D) (busy : Bool) (new : SenderPasses D) : Type 0 where
  pub kept : Bool
  pub conducts : Conducts l old.keeper old.taker kept new.keeper new.taker
  pub works : kept ≡ true → busy ≡ true
