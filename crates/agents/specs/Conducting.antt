-- What becomes of a keeper and a taker in a cycle.
use Rattle.std.specs.Prelude.{◌≡◌, ℕ, Bool, true, false, ◌||◌, nat_lt, [], ◌∷◌, ◌++◌}
use Rattle.theory.specs.Refusal.{limit_in}
use Rattle.shared_log.specs.Steps.Handles.{LogValue}
use Rattle.shared_log.specs.Keepers.{CleansAndLimits, KeeperValue, KeepsAs, TookSteps, closed_word, connected_word, with_limit}
use Rattle.conductor.specs.Parties.{TakerSeen}
use Rattle.conductor.specs.Rule.{AreThere}
use Rattle.conductor.specs.declared.command.Command.{Command}
use Rattle.conductor.specs.declared.command.Command.TheVariants.{Connect, Disconnect, Close}
use Rattle.conductor.specs.declared.command.Submitted.{Submitted}

-- the limit word that a command asks for
abbrev pub commanded : Command → ℕ → ℕ
commanded Connect word = connected_word true word
commanded Disconnect word = connected_word false word
commanded Close word = closed_word word

-- a command was taken, and done by one store
pub record ObeysOne (k : KeeperValue) (t : TakerSeen) (q : KeeperValue) (u : TakerSeen) : Type 0 where
  pub command : Submitted
  pub taken : u ≡ record t { taken = t.taken ++ command ∷ [] }
  pub keeps : KeepsAs k (with_limit (commanded command.command k.limit) k) q
  pub once : TookSteps k 1 q

-- there was none: all commands that the taker was told of are taken
pub record ObeysNone (k : KeeperValue) (t : TakerSeen) (q : KeeperValue) (u : TakerSeen) : Type 0 where
  pub all : AreThere t.heard t.taken
  pub taken : u ≡ t
  pub same : q ≡ k

abbrev pub ObeysNext : KeeperValue → TakerSeen → Bool → KeeperValue → TakerSeen → Type 0
ObeysNext k t true q u = ObeysOne k t q u
ObeysNext k t false q u = ObeysNone k t q u

-- a command, if there was one, and then the keeper's work
pub record Conducts (l : LogValue) (k : KeeperValue) (t : TakerSeen) (busy : Bool) (q : KeeperValue) (u : TakerSeen) : Type 0 where
  pub any : Bool
  pub middle : KeeperValue
  pub obeys : ObeysNext k t any middle u
  pub works : CleansAndLimits l middle q
  pub is_busy : busy ≡ (any || nat_lt (limit_in middle.limit) (limit_in q.limit))
