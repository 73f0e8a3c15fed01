-- What the queue and its passes keep, between any two steps of any threads.
use Rattle.std.specs.Prelude.{◌≡◌, ℕ, ◌<◌, ◌≤◌, true, List, [], ◌++◌}
use Rattle.std.specs.List.{AllByRecursion}
use mathlib.Core.Option.{some}
use lib.ListN.{get_elem?}
use Rattle.conductor.specs.declared.command.Command.{Command}
use Rattle.conductor.specs.declared.command.Submitted.{Submitted}
use Rattle.conductor.specs.declared.hand.Hand.{Hand}
use Rattle.conductor.specs.declared.hand.Report.{Report}
use Rattle.conductor.specs.Commands.{of, Begins}

-- what was told of is there, in order
abbrev pub AreThere : List Report → List Submitted → Type 0
AreThere heard ms = AllByRecursion (λ t. Begins t.commands (of t.client ms)) heard

-- the client's commands among these are the last that it submitted
pub record HoldsLastOf (client : ℕ) (put : List Command) (items : List Submitted) : Type 0 where
  pub before : List Submitted
  pub parts : put ≡ of client (before ++ items)

-- the commands of each client are the same in both
abbrev pub AreSame : List Submitted → List Submitted → Type 0
AreSame ms ns = (p : ℕ) → of p ms ≡ of p ns

-- a client's pass is the only one for it, and knows what it has submitted
pub record FitsClient (made left : ℕ) (seat : ℕ → ℕ) (sent : ℕ → List Command) (port : ℕ) (v : Hand) : Type 0 where
  pub here : seat v.client ≡ port
  pub all : v.put ≡ sent v.client
  pub made_before : v.client < made
  pub not_ended : v.client < left

-- the one taker knows what was taken, and what the clients that ended had submitted
pub record FitsTaker (reader made left : ℕ) (sent : ℕ → List Command) (taken : List Submitted) (port : ℕ) (v : Hand) : Type 0 where
  pub here : port ≡ reader
  pub all : v.taken ≡ taken
  pub made_so_far : v.made ≡ made
  pub left_now : v.left ≡ left
  pub ended : (p : ℕ) → left ≤ p → of p v.known ≡ sent p
  pub unknown : (p : ℕ) → p < left → of p v.known ≡ []

pub record Fits (reader made left : ℕ) (seat : ℕ → ℕ) (sent : ℕ → List Command) (taken : List Submitted) (port : ℕ) (v : Hand) : Type 0 where
  pub client : v.submits ≡ true → FitsClient made left seat sent port v
  pub taker : v.takes ≡ true → FitsTaker reader made left sent taken port v
  pub told : Begins v.put (sent v.client)
  pub heard : AllByRecursion (λ t. Begins t.commands (sent t.client)) v.heard

-- of each client, what was taken and then what the queue holds is what it submitted
pub record IsAccounted (items : List Submitted) (views : List Hand) : Type 0 where
  pub reader : ℕ
  pub made : ℕ
  pub left : ℕ
  pub seat : ℕ → ℕ
  pub sent : ℕ → List Command
  pub taken : List Submitted
  pub all : (p : ℕ) → of p (taken ++ items) ≡ sent p
  pub unmade : (p : ℕ) → made ≤ p → sent p ≡ []
  pub each : (port : ℕ) (v : Hand) → get_elem? views port ≡ some v → Fits reader made left seat sent taken port v
