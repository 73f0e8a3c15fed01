-- What the calls of a sender make of its pass.
use Rattle.std.specs.Prelude.{◌≡◌, ℕ, suc, ℤ, ◌<◌, ◌≤◌, List, []}
use Rattle.std.specs.Arc.{arc_value}
use Rattle.position.specs.Openings.{IsStart}
use Rattle.flow_control.specs.Stream.{flow_after, has_heard_of, reached_of, status_after, tick_after}
use Rattle.sender.specs.Sending.{Cycles, HasLooked, HearsDatagram, Steps, at_moment, begun}
use Rattle.sender.specs.declared.sender_core.SenderAnswer.{SenderAnswer}
use Rattle.sender.specs.declared.sender_core.SenderEvent.{SenderEvent}
use Rattle.shared_log.specs.Readers.{misses_of}
use Rattle.shared_log.specs.Sourced.{Grows, StaysOn}
use Rattle.claims.specs.declared.passes.reading.ReaderPass.{ReaderPass}
use Rattle.cores.specs.Numbers.{group_of, of_answer}
use Rattle.cores.specs.Senders.{SenderValue, source_in}
use Rattle.cores.specs.declared.fault.Fault.{Fault}
use Rattle.cores.specs.declared.fault.Fault.TheVariants.{Group, Memory, Start, Unsent}

-- a sender may begin where the reader stands, to so many
pub record MayBegin (r : ReaderPass) (group : ℕ) : Type 0 where
  pub start : IsStart (arc_value r.log).identity.geometry r.reader.position
  pub few : group ≤ 8

-- one that has sent nothing, and begins where the reader stands
pub record Sends (r : ReaderPass) (group : ℕ) (p : SenderValue) : Type 0 where
  pub may : MayBegin r group
  pub core : p.core ≡ begun (arc_value r.log).identity r.reader.position r (flow_after (group_of group) r.reader.position [])
  pub none : p.left ≡ []

-- the group is judged first, then the start; then memory is asked for
abbrev pub WhyNoSender : ReaderPass → ℕ → Fault → Type 0
WhyNoSender r group Group = 8 < group
WhyNoSender r group Start = (IsStart (arc_value r.log).identity.geometry r.reader.position → ⊥) × (group ≤ 8)
WhyNoSender r group Memory = MayBegin r group
WhyNoSender r group other = ⊥

pub record DeclinesSender (r : ReaderPass) (group : ℕ) (fault : Fault) (q : ReaderPass) : Type 0 where
  pub why : WhyNoSender r group fault
  pub same : q ≡ r

-- it reads the same log by the same reader
abbrev pub StaysOnLog : SenderValue → SenderValue → Type 0
StaysOnLog p q = StaysOn (arc_value p.core.reads.log) p.core.reads.reader (arc_value q.core.reads.log) q.core.reads.reader

-- between them it looked where it stood, loaded the word there once and found zero
abbrev pub LooksOn : SenderValue → SenderValue → Type 0
LooksOn p q = HasLooked (λ r l s m. StaysOn (arc_value r.log) r.reader (arc_value s.log) s.reader × (m ≡ l)) (λ r s. misses_of s.reader ≡ suc (misses_of r.reader)) p.core.reads (tt {0}) q.core.reads (tt {0})

-- a step of the core: what goes out for it is what is left
pub record StepsOn (p : SenderValue) (now : ℕ) (event : SenderEvent) (answer : SenderAnswer) (q : SenderValue) : Type 0 where
  pub steps : Steps (LooksOn p q) Grows status_after tick_after reached_of has_heard_of (at_moment p.core now) event (source_in p.core) (source_in q.core) answer q.core q.left
  pub log : StaysOnLog p q

-- a moment was taken
pub record Ticks (p : SenderValue) (now : ℕ) (q : SenderValue) : Type 0 where
  pub none : p.left ≡ []
  pub cycles : Cycles (LooksOn p q) Grows tick_after reached_of (at_moment p.core now) (source_in p.core) (source_in q.core) q.core q.left
  pub log : StaysOnLog p q

-- a datagram was taken, and this is the number of what became of it
pub record Hears (p : SenderValue) (now : ℕ) (bytes : List ℕ) (number : ℤ) (q : SenderValue) : Type 0 where
  pub none : p.left ≡ []
  pub answer : SenderAnswer
  pub number_is : number ≡ of_answer answer
  pub hears : HearsDatagram status_after reached_of has_heard_of (at_moment p.core now) bytes answer q.core q.left
  pub source : source_in q.core ≡ source_in p.core
  pub log : StaysOnLog p q

-- some are left, and nothing has changed
pub record IsUnsent (p : SenderValue) (fault : Fault) (q : SenderValue) : Type 0 where
  pub some : p.left ≡ [] → ⊥
  pub fault_is : fault ≡ Unsent
  pub same : q ≡ p
