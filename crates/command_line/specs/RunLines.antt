-- The options of `run`.
use Rattle.std.specs.Prelude.{codes}
use Rattle.clap.specs.Words.{App, new_app}
use Rattle.command_line.specs.Flags.{plus_flag}
use Rattle.command_line.specs.Numbers.{plus}

abbrev pub with_load : App → App
with_load a = plus (codes "length") 8 2097152 (plus (codes "messages") 1 1000000 (plus (codes "receivers") 1 8 (plus (codes "publishers") 1 8 a)))

abbrev pub with_network : App → App
with_network a = plus (codes "seed") 0 18446744073709551615 (plus (codes "hold") 0 1000 (plus (codes "repeat") 0 1000 (plus (codes "loss") 0 1000 a)))

abbrev pub with_limits : App → App
with_limits a = plus (codes "mtu") 0 4294967295 (plus (codes "term") 0 4294967295 (plus (codes "turns") 1 1000000000 a))

-- what a parse reads of `run`
abbrev pub run_app : App
run_app = plus_flag (codes "counters") (with_limits (with_network (with_load (new_app (codes "run")))))
