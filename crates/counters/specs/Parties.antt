-- What a contract sees of the parties.
use Rattle.std.specs.Prelude.{List}
use Rattle.atomic_table.specs.Seated.{TableId}
use Rattle.counters.specs.declared.readings.Readings.{Readings}

-- the writer of counters, what it published last, and all that it published, the last first, behind which the zeros stand
pub record WriterSeen : Type 0 where
  pub counters : TableId
  pub last : Readings
  pub published : List Readings

-- a reader of counters: what it read last, or what had been published when it was made, and what it was told last
pub record ReaderSeen : Type 0 where
  pub counters : TableId
  pub last : Readings
  pub told : Readings
