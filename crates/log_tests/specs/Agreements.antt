-- Which part of a stream its publishers' commands don't see.
use Rattle.std.specs.Prelude.{◌≡◌, List, []}
use Rattle.one_hand.specs.Stream.{Stream}
use Rattle.one_hand.specs.declared.claims.claim_command.ClaimCommand.{ClaimCommand}
use Rattle.one_hand.specs.Commands.{after_all, answers_of}

-- they differ in nothing but their consumers
abbrev pub IsSameBut : Stream → Stream → Type 0
IsSameBut s t = record s { consumers = [] } ≡ record t { consumers = [] }

-- the same answers to any commands
abbrev pub AlwaysSameAnswers : Type 0
AlwaysSameAnswers = (s t : Stream) (commands : List ClaimCommand) → IsSameBut s t → answers_of s commands ≡ answers_of t commands

-- and behind them the same again
abbrev pub AlwaysAgain : Type 0
AlwaysAgain = (s t : Stream) (commands : List ClaimCommand) → IsSameBut s t → IsSameBut (after_all s commands) (after_all t commands)
