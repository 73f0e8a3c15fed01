-- Lists of submitted commands, and what is one client's of them.
use Rattle.std.specs.Prelude.{◌≡◌, ℕ, List, [], ◌∷◌, ◌++◌, map, nat_eq, if◌then◌else◌}
use Rattle.conductor.specs.declared.command.Command.{Command}
use Rattle.conductor.specs.declared.command.Submitted.{Submitted}

-- the commands of a client, in order
abbrev pub of : ℕ → List Submitted → List Command
of p [] = []
of p (m ∷ ms) = if nat_eq m.client p then m.command ∷ of p ms else of p ms

abbrev pub as_submitted : ℕ → List Command → List Submitted
as_submitted p cs = map (λ c. record { client = p; command = c }) cs

-- the list goes on from these
abbrev pub Begins : List Command → List Command → Type 0
Begins xs ys = (rest : List Command) × (ys ≡ xs ++ rest)
