-- The life of a log's sender, to one receiver or to a group, which may go on by another group: what it meets, one thing after the
-- other, and the datagrams that it gives out.
use Rattle.std.specs.Prelude.{◌≡◌, ◌<◌, ⊤, ℕ, ℤ, List, [], ◌∷◌, ◌++◌, Some}
use Rattle.std.specs.List.{AllByRecursion}
use Rattle.theory.specs.Entry.{committed}
use Rattle.theory.specs.Datagrams.{frames_of}
use Rattle.theory.specs.Placed.{AllAmong, Among}
use Rattle.flow_control.specs.Stream.{flow_after}
use Rattle.flow_control.specs.declared.stream.StreamFlow.{StreamFlow}
use Rattle.shared_log.specs.Steps.Handles.{LogValue}
use Rattle.shared_log.specs.Readers.{misses_of}
use Rattle.shared_log.specs.Sourced.{StaysOn}
use Rattle.sender.specs.Sending.{begun}
use Rattle.receiver.specs.Receiving.{Receiver, TakesDatagram, listening}
use Rattle.receiver.specs.Subscribing.{RepresentsSubscriber, Subscribing}
use Rattle.receiver.specs.declared.receiver_core.Outcome.{Outcome}
use Rattle.receiver.specs.Lives as meant
use Rattle.receiver.specs.Lives.{IsHonest, IsStream, Stream}
use Rattle.sender_meaning.specs.Lives.{Act, Hears, Ticks, IsSpelled, SendsStream, source_in}
use Rattle.sender_meaning.specs.Moments.{HearsThere, StreamCore, TicksThere}

-- it has heard and sent nothing, and begins at the log's start by this flow control
pub record IsNewStreamCore (flow : StreamFlow) (l : LogValue) (s : StreamCore) : Type 0 where
  pub made : s ≡ begun l.identity l.start s.reads flow
  pub log_is : s.reads.log.now ≡ l

-- it hears a datagram or is told a moment, or goes on by a group of so many
pub data StreamAct : Type 0 where
  Acts : (act : Act) → StreamAct
  Regroups : (size : ℕ) → StreamAct

abbrev pub ActsThere : StreamCore → Act → StreamCore → Type 0
ActsThere s (Hears now bytes given) t = HearsThere s now bytes t given
ActsThere s (Ticks now given) t = TicksThere s now t given

-- by a group of some, but fewer than it has destinations, which allows no more than what was sent
pub record GoesOnBy (destinations size : ℕ) (s t : StreamCore) : Type 0 where
  pub some : 0 < size
  pub fewer : size < destinations
  pub is : t ≡ record s { flow = flow_after (Some size) s.handler.at [] }

abbrev pub StepsThere : ℕ → StreamCore → StreamAct → StreamCore → Type 0
StepsThere destinations s (Acts act) t = ActsThere s act t
StepsThere destinations s (Regroups size) t = GoesOnBy destinations size s t

-- to so many destinations; to one it never regroups
abbrev pub StreamLives : ℕ → StreamCore → List StreamAct → StreamCore → Type 0
StreamLives destinations s [] t = t ≡ s
StreamLives destinations s (act ∷ acts) t = (u : StreamCore) × StepsThere destinations s act u × StreamLives destinations u acts t

-- it lived on
pub record StreamLived (destinations : ℕ) (s t : StreamCore) : Type 0 where
  pub acts : List StreamAct
  pub lives : StreamLives destinations s acts t

-- it lived on up to a moment, which it was told last
pub record StreamLivedTo (destinations now : ℕ) (s t : StreamCore) : Type 0 where
  pub heard : StreamCore
  pub lived : StreamLived destinations s heard
  pub given : List (List ℕ)
  pub told : TicksThere heard now t given

abbrev pub StreamLivedToLast : ℕ → StreamCore → StreamCore → Type 0
StreamLivedToLast destinations s t = (now : ℕ) × StreamLivedTo destinations now s t

abbrev pub given_by : Act → List (List ℕ)
given_by (Hears now bytes given) = given
given_by (Ticks now given) = given

abbrev pub given_at : StreamAct → List (List ℕ)
given_at (Acts act) = given_by act
given_at (Regroups size) = []

-- all that it gave out, in order
abbrev pub given_in_all : List StreamAct → List (List ℕ)
given_in_all [] = []
given_in_all (act ∷ acts) = given_at act ++ given_in_all acts

-- ---- the laws

-- it reads the same log, by the same reader
abbrev pub StreamKeepsItsReader : Type 0
StreamKeepsItsReader = (destinations : ℕ) (s t : StreamCore) → StreamLived destinations s t → StaysOn s.reads.log.now s.reads.reader t.reads.log.now t.reads.reader

-- what such a sender gives out of a stream whose committed frames are all that it knows of its log is honest for the stream
abbrev pub StreamGivesHonest : Type 0
StreamGivesHonest =
    (x : Stream) → IsStream x → IsSpelled x
    → (destinations : ℕ) (s t : StreamCore) (acts : List StreamAct) → SendsStream x s → StreamLives destinations s acts t → AllAmong (committed x.entries) (source_in t.reads).frames
    → AllByRecursion (IsHonest x) (given_in_all acts) × SendsStream x t

-- where a moment's new frames didn't end at one that may not go, its reader has looked once more, or more often, and found none
abbrev pub LooksAtItsEnd : Type 0
LooksAtItsEnd = (s t : StreamCore) (now : ℕ) (given : List (List ℕ)) (k : TicksThere s now t given) → k.cycles.is.new.reads ≡ frames_of k.cycles.cycle.fresh → misses_of s.reads.reader < misses_of t.reads.reader

-- a subscriber that was handed no datagram but such that this sender gave out, in any order and each any number of times, polls
-- a run of the stream
abbrev pub PollsWhatIsSent : Type 0
PollsWhatIsSent =
    (x : Stream) → IsStream x → IsSpelled x
    → (destinations : ℕ) (s t : StreamCore) (sent : List StreamAct) → SendsStream x s → StreamLives destinations s sent t → AllAmong (committed x.entries) (source_in t.reads).frames
    → (window greatest moment : ℕ) (id : ℤ) (first : List ℕ) (outcomes : List Outcome) (r : Receiver)
    → TakesDatagram (listening x.identity.session x.identity.stream window id 1 greatest) moment first outcomes r → Among first (given_in_all sent)
    → (u v : Subscribing) (acts : List meant.Act) → RepresentsSubscriber u r → meant.Lives u acts v → AllByRecursion (λ bytes. Among bytes (given_in_all sent)) (meant.heard_in acts)
    → (q : Receiver) × RepresentsSubscriber v q × meant.IsRunOf x q.image (meant.given_in acts)

-- an act that is no regrouping
abbrev pub IsAct : StreamAct → Type 0
IsAct (Acts act) = ⊤
IsAct (Regroups size) = ⊥

-- to one destination it hears and is told moments, and nothing else
abbrev pub OneNeverRegroups : Type 0
OneNeverRegroups = (s t : StreamCore) (acts : List StreamAct) → StreamLives 1 s acts t → AllByRecursion IsAct acts
