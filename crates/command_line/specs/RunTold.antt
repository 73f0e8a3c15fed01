-- What a run is told by what a parse found.
use Rattle.std.specs.Prelude.{List, codes}
use Rattle.clap.specs.Words.{Row}
use Rattle.options.specs.declared.run.options.RunOptions.{RunOptions}
use Rattle.command_line.specs.Flags.{IsFlag}
use Rattle.command_line.specs.Numbers.{IsNumber}

pub record IsRunOf (rows : List Row) (o : RunOptions) : Type 0 where
  pub publishers : IsNumber rows (codes "publishers") 1 8 4 o.publishers
  pub receivers : IsNumber rows (codes "receivers") 1 8 1 o.receivers
  pub messages : IsNumber rows (codes "messages") 1 1000000 1000 o.messages
  pub length : IsNumber rows (codes "length") 8 2097152 200 o.length
  pub loss : IsNumber rows (codes "loss") 0 1000 0 o.loss
  pub repeat : IsNumber rows (codes "repeat") 0 1000 0 o.repeat
  pub hold : IsNumber rows (codes "hold") 0 1000 0 o.hold
  pub seed : IsNumber rows (codes "seed") 0 18446744073709551615 1 o.seed
  pub turns : IsNumber rows (codes "turns") 1 1000000000 1000000 o.turns
  pub term : IsNumber rows (codes "term") 0 4294967295 65536 o.term
  pub mtu : IsNumber rows (codes "mtu") 0 4294967295 1408 o.mtu
  pub counters : IsFlag rows (codes "counters") o.counters
