-- What a sender asks of the one who keeps its stream.
use Rattle.std.specs.Prelude.{◌≡◌, ◌⊎◌, Bool, true, false, List, [], ◌∷◌, ◌++◌}
use Rattle.conductor.specs.Parties.{ClientSeen, WasFull}
use Rattle.conductor.specs.declared.command.Command.{Command}
use Rattle.conductor.specs.declared.command.Command.TheVariants.{Connect}

-- nothing is asked: whether it has asked before, and its client, stay
pub record IsQuiet (asked : Bool) (c : ClientSeen) (still : Bool) (d : ClientSeen) : Type 0 where
  pub client : d ≡ c
  pub same : still ≡ asked

-- whether it has asked before, and has heard so far: it asks where it has heard and not asked, and then the queue took Connect, or was full
abbrev pub AsksOnce : Bool → Bool → ClientSeen → Bool → ClientSeen → Type 0
AsksOnce true heard c asked d = IsQuiet true c asked d
AsksOnce false false c asked d = IsQuiet false c asked d
AsksOnce false true c true d = d ≡ record c { accepted = c.accepted ++ Connect ∷ [] }
AsksOnce false true c false d = (d ≡ c) × WasFull c

-- ---- a run of cycles

-- how it stands behind a cycle
pub record Asking : Type 0 where
  pub asked : Bool
  pub heard : Bool
  pub client : ClientSeen

-- a cycle without a fault, or one that a fault ended
abbrev pub Follows : Asking → Asking → Type 0
Follows a b = AsksOnce a.asked b.heard a.client b.asked b.client ⊎ IsQuiet a.asked a.client b.asked b.client

-- cycles one after the other
abbrev pub IsRun : Asking → List Asking → Type 0
IsRun a [] = Unit {0}
IsRun a (b ∷ bs) = Follows a b × IsRun b bs

-- it has asked, and Connect is all that its client has submitted; or it hasn't, and that is nothing
abbrev pub HasAskedOnce : Bool → List Command → Type 0
HasAskedOnce true accepted = accepted ≡ Connect ∷ []
HasAskedOnce false accepted = accepted ≡ []
