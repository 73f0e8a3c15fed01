-- The passes of a log that was just opened for the agents of one stream.
use Rattle.std.specs.Prelude.{◌≡◌, ℕ, length}
use Rattle.theory.specs.Bytes.{Identity}
use Rattle.shared_log.specs.Handles.{AreNew}
use Rattle.shared_log.specs.Steps.Handles.{IsLogOf}
use Rattle.shared_log.specs.Parts.{IsNewKeeper, IsNewReader}
use Rattle.agents.specs.declared.passes.LogPasses.{LogPasses}

-- a log of this stream that begins there, its eight publishers by their numbers, its one reader, and its keeper
pub record AreNewPasses (identity : Identity) (start : ℕ) (p : LogPasses) : Type 0 where
  pub log_is : IsLogOf identity start 1 p.log
  pub many : length p.publishers.items ≡ 8
  pub publishers_are : AreNew p.log 0 p.publishers.items
  pub reader_is : IsNewReader p.log 0 p.reader
  pub keeper_is : IsNewKeeper p.log p.keeper
