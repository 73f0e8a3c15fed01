-- What a run is told where nothing else is said.
use Rattle.std.specs.Prelude.{◌≡◌, false}
use Rattle.options.specs.declared.run.options.RunOptions.{RunOptions}

pub record IsByDefault (o : RunOptions) : Type 0 where
  pub publishers : o.publishers ≡ 4
  pub receivers : o.receivers ≡ 1
  pub messages : o.messages ≡ 1000
  pub length : o.length ≡ 200
  pub loss : o.loss ≡ 0
  pub repeat : o.repeat ≡ 0
  pub hold : o.hold ≡ 0
  pub seed : o.seed ≡ 1
  pub turns : o.turns ≡ 1000000
  pub term : o.term ≡ 65536
  pub mtu : o.mtu ≡ 1408
  pub counters : o.counters ≡ false
