-- What the driver's threads begin with.
use Rattle.std.specs.Prelude.{◌≡◌, length}
use Rattle.std.specs.List.{AllByRecursion}
use Rattle.atomic_table.specs.Seated.{TableId}
use Rattle.shared_log.specs.Books.{IsDone}
use Rattle.shared_log.specs.Steps.Handles.{LogValue}
use Rattle.shared_log.specs.Parts.{IsNewReader}
use Rattle.run_parties.specs.Passes.{IsKept}
use Rattle.run_parties.specs.RunLogs.{IsRunLog}
use Rattle.latency.specs.declared.agent_threads.Passes.{Passes}
use Rattle.latency.specs.declared.agent_threads.ThreadPasses.{ThreadPasses}

-- a log that was just opened, its publishers, its reader and its keeper, a client and the taker of a queue
pub record AreThreadPasses (l : LogValue) (queue : TableId) (p : ThreadPasses) : Type 0 where
  pub log : IsRunLog l
  pub publishers : AllByRecursion (IsDone l) p.publishers.items
  pub reader : IsNewReader l 0 p.reader
  pub keeper : IsKept l p.keeper
  pub client : p.client.queue ≡ queue
  pub taker : p.taker.queue ≡ queue

-- these, and one way
pub record ArePasses (l : LogValue) (queue : TableId) (p : Passes) : Type 0 where
  pub threads : AreThreadPasses l queue p.threads
  pub ways : length p.sends.ways ≡ 1
