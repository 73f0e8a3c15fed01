-- What a contract sees of the parties.
use Rattle.std.specs.Prelude.{◌≡◌, ℕ, List, [], ◌++◌, length, slice_get, slice_index_or, map, Some, All}
use Rattle.atomic_table.specs.Seated.{TableId}
use Rattle.conductor.specs.declared.command.Command.{Command}
use Rattle.conductor.specs.declared.command.Submitted.{Submitted}
use Rattle.conductor.specs.declared.hand.Report.{Report}
use Rattle.conductor.specs.Commands.{of}
use Rattle.conductor.specs.Rule.{HoldsLastOf}

-- a client of a queue: its number, and the commands of it that were accepted, in order
pub record ClientSeen : Type 0 where
  pub queue : TableId
  pub number : ℕ
  pub accepted : List Command

-- a client of which nothing was accepted
abbrev pub fresh_client : TableId → ℕ → ClientSeen
fresh_client queue number = record { queue = queue; number = number; accepted = [] }

-- the taker of a queue: what it took, in order, and what clients told it of
pub record TakerSeen : Type 0 where
  pub queue : TableId
  pub taken : List Submitted
  pub heard : List Report

-- the queue held 64 commands, and of this client its last ones
pub record WasFull (c : ClientSeen) : Type 0 where
  pub items : List Submitted
  pub full : length items ≡ 64
  pub last : HoldsLastOf c.number c.accepted items

-- each has its place as its number
abbrev pub AreNumbered : List ClientSeen → Type 0
AreNumbered clients = (k : ℕ) (c : ClientSeen) → slice_get clients k ≡ Some c → c.number ≡ k

-- the first clients of a queue, in the order of their numbers
pub record AreFirst (queue : TableId) (count : ℕ) (clients : List ClientSeen) : Type 0 where
  pub many : length clients ≡ count
  pub same_queue : All (λ c. c.queue ≡ queue) clients
  pub numbers : AreNumbered clients

-- nothing was accepted of any of them
abbrev pub AreFresh : List ClientSeen → Type 0
AreFresh clients = (k : ℕ) (c : ClientSeen) → slice_get clients k ≡ Some c → c.accepted ≡ []

-- what was accepted of the client with this number, and of a number that no client has nothing
abbrev pub accepted_of : List ClientSeen → ℕ → List Command
accepted_of clients p = slice_index_or (map (λ c. c.accepted) clients) p []

-- this many commands were left, and with what was taken they are each client's accepted ones, in order
pub record AreLeft (clients : List ClientSeen) (taken : List Submitted) (count : ℕ) : Type 0 where
  pub rest : List Submitted
  pub many : length rest ≡ count
  pub whole : (p : ℕ) → of p (taken ++ rest) ≡ accepted_of clients p
