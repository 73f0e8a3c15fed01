-- The laws: a log that opens is one of the model, and each step on its words is one event of that.
use Rattle.std.specs.Prelude.{◌≡◌, ◌⊎◌, ℕ, ◌-◌, false, List, [], ◌∷◌, ◌++◌, map, replicate, Option, None, Some}
use mathlib.Core.Option.{some}
use lib.ListN.{get_elem?}
use Rattle.atomic_table.specs.Table.{State}
use Rattle.theory.specs.Consumer.{Consumer, consumer_at}
use Rattle.theory.specs.Bytes.{IsIdentity}
use Rattle.theory.specs.Entry.{committed}
use Rattle.theory.specs.Placed.{Among, Placed}
use Rattle.theory.specs.Tiling.{share_of}
use Rattle.publication.specs.declared.pass.FrameWords.{FrameWords}
use Rattle.publication.specs.declared.pass.Pass.{Pass}
use Rattle.log_rule.specs.declared.claims.view.View.{View}
use Rattle.log_rule.specs.declared.rule.Key.{Key}
use Rattle.log_rule.specs.Claims.Plays.{pass_in}
use Rattle.log_rule.specs.Claims.Rule.{weight}
use Rattle.log_rule.specs.Claims.Sums.{total}
use Rattle.log_rule.specs.Shares.{owner_bytes}
use Rattle.log_rule.specs.Table.{LogRuled, whole_seat}
use Rattle.model.specs.Headline.{HasItsRoom, IsBounded, IsPrefixPolled, IsTiled}
use Rattle.model.specs.Log.{Abort, Add, Arm, Clean, Close, Commit, Connect, Join, Leave, Log, LogEvent, LogStep, Look, Miss, Move, Pass as PassBy, Raise, Retire, Rotate, Store}
use Rattle.model.specs.World.{IsOpened, World, opened_sender}
use Rattle.threads_meaning.specs.Modelled.{IsModelOf, spelled}
use Rattle.threads_meaning.specs.Seats.{HandsOver, SeatsMove}
use Rattle.threads_meaning.specs.Steps.{ClosesBy, ConnectsBy, IsBelow, IsOver, LooksAt, RaisesTo, StepAborts, StepAdds, StepArms, StepCleans, StepCommits, StepJoins, StepLeaves, StepLimits, StepMoves, StepStores, StepTurns}

-- ---- one step

-- a step in threads that is this event; the numbers that are handed over before it and after it
abbrev pub StepOf : Key → List ℕ → State (Unit {0}) View → LogEvent → State (Unit {0}) View → List ℕ → Type 0
StepOf key gone s Look t after = (after ≡ gone) × (LooksAt s t ⊎ SeatsMove key s t)
StepOf key gone s (Arm by seen) t after = (after ≡ gone) × StepArms gone s by seen t
StepOf key gone s (Add by bytes) t after = (after ≡ gone) × StepAdds s by bytes IsBelow t
StepOf key gone s (Miss by) t after = (after ≡ gone) × ((bytes : ℕ) × StepAdds s by bytes IsOver t)
StepOf key gone s Store t after = (after ≡ gone) × StepStores s t
StepOf key gone s (Commit start frame) t after = (after ≡ gone) × StepCommits key s start frame t
StepOf key gone s (Abort start) t after = (after ≡ gone) × StepAborts key s start t
StepOf key gone s Rotate t after = (after ≡ gone) × StepTurns s t
StepOf key gone s (Clean least) t after = (after ≡ gone) × StepCleans s least t
StepOf key gone s (Raise least) t after = (after ≡ gone) × StepLimits s (RaisesTo least) t
StepOf key gone s (Connect on) t after = (after ≡ gone) × StepLimits s (ConnectsBy on) t
StepOf key gone s Close t after = (after ≡ gone) × StepLimits s ClosesBy t
StepOf key gone s (Join number at) t after = (after ≡ gone) × StepJoins s number at t
StepOf key gone s (Leave number) t after = (after ≡ gone) × StepLeaves s number t
StepOf key gone s (Move number past) t after = (after ≡ gone) × StepMoves key s number past t
StepOf key gone s (PassBy number past) t after = ⊥
StepOf key gone s (Retire kept number) t after = (after ≡ number ∷ gone) × HandsOver key gone s kept number t

-- the log after it is one of the model again, to which that event leads
abbrev pub EachStepIsAnEvent : Type 0
EachStepIsAnEvent = (key : Key) (gone after : List ℕ) (s t : State (Unit {0}) View) (e : LogEvent) (l : Log) → LogRuled key s → LogRuled key t → IsModelOf key gone s l → StepOf key gone s e t after
    → (m : Log) × LogStep [] l e m × IsModelOf key after t m

-- ---- a log that opens

abbrev pub opened_readers : ℕ → ℕ → List (Option Consumer)
opened_readers start n = replicate n (Some (consumer_at start)) ++ replicate (8 - n) None

abbrev pub opened_log : Key → Log
opened_log key = record {
  identity = key.identity;
  start = key.start;
  tail = key.start;
  entries = [];
  armed = replicate 8 false;
  retired = replicate 8 false;
  limit = key.start;
  connected = false;
  closed = false;
  cleaned = key.start;
  readers = opened_readers key.start key.consumers;
}

-- a log without its sender and images: one that has sent nothing, and none
abbrev pub alone : Log → World
alone l = record { log = l; sender = opened_sender l.start None; images = replicate 8 None }

-- in whatever state the first seat is the only one
abbrev pub OpensAsModel : Type 0
OpensAsModel = (key : Key) (s : State (Unit {0}) View) → IsIdentity key.identity → LogRuled key s → s.views ≡ whole_seat key ∷ [] → IsOpened (alone (opened_log key)) × IsModelOf key [] s (opened_log key)

-- ---- what it says of the passes

-- each share is what the passes claimed under that number
abbrev pub SharesAreClaimed : Type 0
SharesAreClaimed = (key : Key) (gone : List ℕ) (s : State (Unit {0}) View) (l : Log) → IsModelOf key gone s l → (number : ℕ) → share_of number l.entries ≡ total (weight (owner_bytes number)) (map pass_in s.views)

-- each frame that a pass committed is one of the log's, as it is spelled
abbrev pub FramesAreCommitted : Type 0
FramesAreCommitted = (key : Key) (gone : List ℕ) (s : State (Unit {0}) View) (l : Log) → IsModelOf key gone s l → (id : ℕ) (v : Pass) (f : FrameWords) → get_elem? (map pass_in s.views) id ≡ some v → Among f v.work.frames
    → (p : Placed) × Among p (committed l.entries) × (spelled key.identity p ≡ f)

-- ---- any list of steps

-- each from a state that the rule holds of to one that it holds of
abbrev pub Steps : Key → List ℕ → State (Unit {0}) View → List LogEvent → State (Unit {0}) View → List ℕ → Type 0
Steps key gone s [] t after = (t ≡ s) × (after ≡ gone)
Steps key gone s (e ∷ es) t after = (u : State (Unit {0}) View) × (between : List ℕ) × LogRuled key u × StepOf key gone s e u between × Steps key between u es t after

-- events of a log all of whose consumers are its readers
abbrev pub LogRun : Log → List LogEvent → Log → Type 0
LogRun old [] new = new ≡ old
LogRun old (e ∷ es) new = (mid : Log) × LogStep [] old e mid × LogRun mid es new

-- what the headline says of the log in a world
pub record HeadlineHolds (l : Log) : Type 0 where
  pub tiled : IsTiled (alone l)
  pub bounded : IsBounded (alone l)
  pub polled : IsPrefixPolled (alone l)
  pub room : HasItsRoom (alone l)

-- from a log that opens, any list of such steps is a run of the model to a log that the words and passes are, and the headline holds of it
abbrev pub StepsAreARun : Type 0
StepsAreARun = (key : Key) (after : List ℕ) (s t : State (Unit {0}) View) (events : List LogEvent) → IsIdentity key.identity → LogRuled key s → s.views ≡ whole_seat key ∷ [] → Steps key [] s events t after
    → (l : Log) × LogRun (opened_log key) events l × IsModelOf key after t l × HeadlineHolds l
