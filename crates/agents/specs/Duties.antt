-- What a sender's core becomes in its agent, by a datagram at a moment and by a moment; and which of them are status messages.
use Rattle.std.specs.Prelude.{◌⊎◌, ℕ, ℤ, Bool, List, [], ◌∷◌, Result, IfErr, IfOk, MatchResult}
use Rattle.theory.specs.Bytes.{Identity}
use Rattle.theory.specs.Placed.{Placed}
use Rattle.theory.specs.Wire.{Status}
use Rattle.frame_source.specs.Sources.{Source}
use Rattle.sender.specs.Cycling.{IsNews, Says}
use Rattle.sender.specs.Sending.{Cycles, Sending, at_moment}
use Rattle.conductor.specs.Parties.{ClientSeen}
use Rattle.endpoint.specs.Devices.{Device}
use Rattle.endpoint.specs.declared.device_error.DeviceError.{DeviceError}
use Rattle.agents.specs.Asking.{AsksOnce, IsQuiet}
use Rattle.agents.specs.Rounds.{WaysCycle, WaysFault}
use Rattle.agents.specs.Parties.{SenderHears}

-- a core, and whether the queue has taken its command
pub record Agent (R F : Type 0) : Type 0 where
  pub core : Sending R F
  pub asked : Bool

-- a datagram, by what its reads are a source of, and what it leaves of them
pub record Hears {R F : Type 0} (source : R → Source) (leaves : R → R → Type 0) (after_status : F → ℤ → ℤ → ℤ → ℕ → F) (reached : F → ℕ) (has_heard : F → Bool) (s : Sending R F) (now : ℕ) (bytes : List ℕ) (t : Sending R F) (given : List (List ℕ)) : Type 0 where
  pub hears : SenderHears after_status reached has_heard (at_moment s now) (source s.reads) bytes t (source t.reads) given
  pub left : leaves s.reads t.reads

-- a moment, by what it is to have looked between two states of the reads and found no frame
pub record Ticks {R F : Type 0} (source : R → Source) (leaves : R → R → Type 0) (looked : R → R → Type 0) (grown : List Placed → List Placed → Type 0) (after_tick : F → ℕ → F) (reached : F → ℕ) (s : Sending R F) (now : ℕ) (t : Sending R F) (given : List (List ℕ)) : Type 0 where
  pub cycles : Cycles (looked s.reads t.reads) grown after_tick reached (at_moment s now) (source s.reads) (source t.reads) t given
  pub left : leaves s.reads t.reads

-- one of these datagrams is a status message of the sender's stream that doesn't ask for a SETUP
abbrev pub HaveStatus : Identity → List (List ℕ) → Type 0
HaveStatus i [] = ⊥
HaveStatus i (d ∷ ds) = ((f : Status) × IsNews i d (Says f)) ⊎ HaveStatus i ds

-- a cycle of the core over a device of some ways, or a fault that ended it, and what its client asked: nothing at a fault
pub record AgentCycle {R F D : Type 0} (hears : Sending R F → ℕ → List ℕ → Sending R F → List (List ℕ) → Type 0) (ticks : Sending R F → ℕ → Sending R F → List (List ℕ) → Type 0) (now : ℕ) (device : D → Device) (tells : D → Type 0) (turned : D → ℕ → D) (ways : ℕ) (a : Agent R F) (c : ClientSeen) (d : D) (result : Result Bool DeviceError) (b : Agent R F) (after : ClientSeen) (e : D) : Type 0 where
  pub cycle : IfOk result (λ busy. WaysCycle hears ticks now device tells turned ways a.core d busy b.core e)
  pub fault : IfErr result (λ fault. WaysFault hears ticks now device tells turned ways fault a.core d b.core e)
  pub asks : MatchResult result (λ _. AsksOnce a.asked b.core.heard c b.asked after) (λ _. IsQuiet a.asked c b.asked after)
