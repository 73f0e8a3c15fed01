-- What a parse reads of the options, and what they tell of what it found.
use Rattle.std.specs.Prelude.{◌≡◌, List, codes, true, Some}
use Rattle.clap.specs.Words.{App, Row, Text, first_of, new_app, new_rule, with_rule}
use Rattle.command_line.specs.Flags.{IsFlag, plus_flag}
use Rattle.command_line.specs.Lists.{AreTold, plus_list}
use Rattle.command_line.specs.Numbers.{IsNumber, plus}
use Rattle.command_line.specs.RunLines.{with_network}
use Rattle.options.specs.declared.ends.options.EndOptions.{EndOptions}
use Rattle.options.specs.declared.ends.options.PublishOptions.{PublishOptions}
use Rattle.options.specs.declared.ends.options.SubscribeOptions.{SubscribeOptions}

-- what both commands are told
pub record IsSharedOf (rows : List Row) (o : EndOptions) : Type 0 where
  pub channel : (text : Text) → first_of (codes "CHANNEL") rows ≡ Some text → o.channel.now ≡ text
  pub stream : IsNumber rows (codes "stream") 0 2147483647 1001 o.stream
  pub loss : IsNumber rows (codes "loss") 0 1000 0 o.loss
  pub repeat : IsNumber rows (codes "repeat") 0 1000 0 o.repeat
  pub hold : IsNumber rows (codes "hold") 0 1000 0 o.hold
  pub seed : IsNumber rows (codes "seed") 0 18446744073709551615 1 o.seed
  pub blocks : IsFlag rows (codes "blocks") o.blocks
  pub counters : IsFlag rows (codes "counters") o.counters

pub record IsPublishOf (rows : List Row) (o : PublishOptions) : Type 0 where
  pub shared : IsSharedOf rows o.end
  pub to : AreTold rows (codes "to") o.to.items
  pub linger : IsNumber rows (codes "linger") 1 1000000 15 o.linger
  pub wait : IsNumber rows (codes "wait") 1 4294967295 4294967295 o.wait

pub record IsSubscribeOf (rows : List Row) (o : SubscribeOptions) : Type 0 where
  pub shared : IsSharedOf rows o.end
  pub messages : IsNumber rows (codes "messages") 1 18446744073709551615 18446744073709551615 o.messages
  pub quiet : IsNumber rows (codes "quiet") 1 4294967295 4294967295 o.quiet
  pub once : IsFlag rows (codes "once") o.once
  pub sessions : IsNumber rows (codes "sessions") 1 16 16 o.sessions

-- ---- what a parse reads of the two commands

abbrev pub with_channel : App → App
with_channel a = with_rule a (record (new_rule (codes "CHANNEL")) { required = true })

abbrev pub with_shared : App → App
with_shared a =
    plus_flag (codes "counters") (plus_flag (codes "blocks")
    (with_network (plus (codes "stream") 0 2147483647 a)))

abbrev pub publish_app : App
publish_app = plus (codes "wait") 1 4294967295 (plus (codes "linger") 1 1000000 (plus_list (codes "to") (with_shared (with_channel (new_app (codes "publish"))))))

abbrev pub subscribe_app : App
subscribe_app = plus_flag (codes "once") (plus (codes "sessions") 1 16 (plus (codes "quiet") 1 4294967295
    (plus (codes "messages") 1 18446744073709551615 (with_shared (with_channel (new_app (codes "subscribe")))))))
