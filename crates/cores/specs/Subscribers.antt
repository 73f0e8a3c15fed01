-- What a contract sees of a subscriber's pass.
use Rattle.std.specs.Prelude.{ℕ, List, map}
use Rattle.theory.specs.Wire.{spelling}
use Rattle.receiver.specs.Receiving.{replied}
use Rattle.receiver.specs.Subscribing.{Subscribing}
use Rattle.receiver.specs.declared.receiver_core.Replies.{Replies}

-- its core with the subscriber, and the datagrams that have yet to go out
pub record SubscriberValue : Type 0 where
  pub subscriber : Subscribing
  pub left : List (List ℕ)

-- what replies are as datagrams
abbrev pub spelled : Replies → List (List ℕ)
spelled unsent = map spelling (replied unsent)
