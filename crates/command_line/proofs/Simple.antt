-- What is read of the commands is simple enough for all that the parser promises.
use Rattle.std.proofs.Common.{◌≡◌, true, refl}
use Rattle.clap.specs.Words.{is_simple, is_simple_and_free}
use Rattle.clap.proofs.OnLiterals.{clap_on_literals}
use Rattle.command_line.specs.Lines.{publish_app, subscribe_app}

pub publish_simple : is_simple publish_app ≡ true
unfolding clap_on_literals
publish_simple = refl

pub publish_free : is_simple_and_free publish_app ≡ true
unfolding clap_on_literals
publish_free = refl

pub subscribe_simple : is_simple subscribe_app ≡ true
unfolding clap_on_literals
subscribe_simple = refl

pub subscribe_free : is_simple_and_free subscribe_app ≡ true
unfolding clap_on_literals
subscribe_free = refl
