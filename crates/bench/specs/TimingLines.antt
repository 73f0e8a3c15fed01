-- What a parse reads of the lines of `log` and `driver`, and what they tell of what it found.
use Rattle.std.specs.Prelude.{List, codes}
use Rattle.clap.specs.Words.{App, Row, new_app}
use Rattle.command_line.specs.Numbers.{IsNumber, plus}
use Rattle.bench.specs.declared.timing.Subject.{Subject}
use Rattle.bench.specs.declared.timing.Subject.TheVariants.{Log, Driver}
use Rattle.bench.specs.declared.timing.TimingOptions.{TimingOptions}

abbrev pub with_load : App → App
with_load a =
    plus (codes "rate") 0 1000000000 (plus (codes "messages") 1 1000000000 (plus (codes "mtu") 256 65504
    (plus (codes "term") 65536 16777216 (plus (codes "length") 16 2097152 (plus (codes "publishers") 1 8 a)))))

abbrev pub log_app : App
log_app = with_load (new_app (codes "log"))

abbrev pub driver_app : App
driver_app = plus (codes "seed") 0 18446744073709551615 (plus (codes "loss") 0 1000 (with_load (new_app (codes "driver"))))

abbrev pub timing_app : Subject → App
timing_app Log = log_app
timing_app Driver = driver_app

-- each number as it was spelled, or as it is where nothing is said
pub record IsTimingOf (rows : List Row) (o : TimingOptions) : Type 0 where
  pub publishers : IsNumber rows (codes "publishers") 1 8 1 o.publishers
  pub length : IsNumber rows (codes "length") 16 2097152 200 o.length
  pub term : IsNumber rows (codes "term") 65536 16777216 65536 o.term
  pub mtu : IsNumber rows (codes "mtu") 256 65504 1408 o.mtu
  pub messages : IsNumber rows (codes "messages") 1 1000000000 100000 o.messages
  pub rate : IsNumber rows (codes "rate") 0 1000000000 0 o.rate
  pub loss : IsNumber rows (codes "loss") 0 1000 0 o.loss
  pub seed : IsNumber rows (codes "seed") 0 18446744073709551615 1 o.seed
