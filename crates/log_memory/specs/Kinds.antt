-- What each kind of step that moves no memory tells, and whose table a seat is of.
use Rattle.std.specs.Prelude.{◌≡◌, ℕ, ◌+◌, ◌%◌, ◌<◌, [], ◌∷◌}
use Rattle.atomic_table.specs.Seated.{TableId}
use Rattle.theory.specs.Placed.{Among}
use Rattle.publication.specs.declared.pass.FrameWords.{FrameWords}
use Rattle.publication.specs.declared.pass.Pass.{Pass}
use Rattle.publication.specs.declared.pass.Reading.{Reading}
use Rattle.publication.specs.declared.step.WordStep.TheVariants as steps
use Rattle.publication.specs.Steps.{Arms, Counts, ExchangesCount, Nexts, Rotates, Sees, tail_exchange, tail_step}
use Rattle.log_rule.specs.Claims.Closing.{no_identity}
use Rattle.log_rule.specs.Claims.Plays.{newcomer, no_keeping, playing}
use Rattle.log_rule.specs.Claims.Sure.{LearnsControls}
use Rattle.log_rule.specs.Keepings.{Joins, LearnsLimit, Leaves, Raises, keeping, sweeping}
use Rattle.log_rule.specs.Meetings.{Steadies, Steady, meeting, showing, was_shown}
use Rattle.log_rule.specs.Readings.{Consumes, IsConsumer, reading}
use Rattle.log_rule.specs.Shares.{Weighs}
use Rattle.log_rule.specs.Table.{reader_alone}
use Rattle.log_memory.specs.declared.view.Site.{Site}
use Rattle.log_memory.specs.Rule.{ring}
use Rattle.log_memory.specs.Steps.{Looks, Mine, Rests, any_step}

-- the seat is one of this log's table
pub record IsSeatOf (t : Site) (table seat : TableId) : Type 0 where
  pub of : seat ≡ table
  pub words : table.words ≡ 208 + ring t
  pub some : 0 < ring t

-- the consumer at a place among those of a pass has this number
pub record HasNumber (v : Pass) (place number : ℕ) : Type 0 where
  pub consumer : Reading
  pub is : IsConsumer v place consumer
  pub number_is : consumer.number ≡ number

-- ---- a publisher

abbrev pub LoadsLimit : Mine → ℕ → Mine → Type 0
LoadsLimit = Rests (playing Sees (λ _ n. steps.Limit n ∷ []) any_step)

abbrev pub LoadsCount : Mine → ℕ → Mine → Type 0
LoadsCount = Rests (playing Counts (λ _ n. steps.Count n ∷ []) any_step)

abbrev pub LoadsTail : Mine → ℕ → Mine → Type 0
LoadsTail = Rests (playing Arms (λ v n. tail_step v n ∷ []) any_step)

abbrev pub LoadsNext : ℕ → Mine → ℕ → Mine → Type 0
LoadsNext k = Rests (playing (λ v n w. Nexts v k n w) (λ _ n. steps.NextTail ((k + 1) % 3) n ∷ []) any_step)

abbrev pub ExchangesNext : ℕ → ℕ → Mine → ℕ → Mine → Type 0
ExchangesNext k from = Rests (playing (λ v n w. Rotates v k from n w) (λ v n. tail_exchange v k from n ∷ []) any_step)

abbrev pub AdvancesCount : ℕ → Mine → ℕ → Mine → Type 0
AdvancesCount k = Rests (playing (λ v n w. ExchangesCount v k n w) (λ _ n. steps.CountExchange k n ∷ []) any_step)

-- ---- a reader

-- a consumer looks where it stands, whichever of those at its place it is
abbrev pub LooksHere : Site → ℕ → Reading → Mine → ℕ → Mine → Type 0
LooksHere t place r m n m' = (is : IsConsumer m.0.view.pass place r) × Looks t place r m is n m'

abbrev pub StoresPosition : ℕ → Mine → ℕ → Mine → Type 0
StoresPosition place m n m' = Rests (λ a _ c. reading (λ v k w. Consumes v place n w) a 0 c) m n m'

-- ---- the keeper

abbrev pub LoadsPosition : ℕ → Mine → ℕ → Mine → Type 0
LoadsPosition number = Rests (sweeping number)

abbrev pub Begins : ℕ → ℕ → Mine → ℕ → Mine → Type 0
Begins number place m n m' = Rests (λ a _ c. keeping (λ v w. LearnsControls [] v w) (λ v w. Joins v number place n w) a c) m n m'

abbrev pub Ends : ℕ → ℕ → Mine → ℕ → Mine → Type 0
Ends place number m n m' = Rests (λ a _ c. keeping (λ v w. LearnsControls [] v w) (λ v w. Leaves v place number w) a c) m n m'

abbrev pub StoresLimit : Mine → ℕ → Mine → Type 0
StoresLimit m n m' = Rests (λ a _ c. keeping (LearnsLimit n) (λ v w. Raises v n w) a c) m n m'

-- ---- what a pass is told of itself

abbrev pub IsSteadied : Mine → ℕ → Mine → Type 0
IsSteadied = Rests (reading (λ v k w. Steadies v w))

abbrev pub IsWeighed : Mine → ℕ → Mine → Type 0
IsWeighed = Rests (reading (λ v k w. Weighs v w))

abbrev pub ShowsPartition : ℕ → Mine → ℕ → Mine → Type 0
ShowsPartition partition = Rests (showing partition)

-- ---- seats that are joined

-- a pass that knows what another told it, and is nothing else
pub record IsToldAlone (t : Site) (v : Pass) : Type 0 where
  pub pass : v ≡ record (newcomer t.key.identity t.key.start 0 0) { reading = v.reading }

-- one that is a consumer, and nothing else
pub record IsConsumerAlone (t : Site) (v : Pass) : Type 0 where
  pub consumer : Reading
  pub pass : v ≡ reader_alone t.key.identity t.key.start consumer

-- what the one has may go to the other: neither is armed
pub record MayGather (v x : Pass) : Type 0 where
  pub unarmed : v.right.armed ≡ 0
  pub other : x.right.armed ≡ 0
  pub parts : 0 < v.right.parts

-- and be its own
pub record MayHandOver (v x : Pass) : Type 0 where
  pub low : v.number < 8
  pub own : v.right.parts < 1024 → Among v.number v.right.numbers
  pub gather : MayGather v x

-- two passes are together in one, which was shown positions since, and each may have again what it had
pub record MayPart (p q v : Pass) : Type 0 where
  pub shown : ℕ
  pub is : v ≡ was_shown shown (meeting p q)
  pub steady : Steady p
  pub steady_other : Steady q
  pub gather : MayGather p q
  pub parts : 0 < q.right.parts
  pub identity : q.identity ≡ p.identity
  pub start : q.start ≡ p.start
  pub plain : q.keeping ≡ no_keeping

-- ---- what no call picks

abbrev pub no_site : Site
no_site = record { key = record { identity = no_identity; start = 0; consumers = 0 }; region = record { identity = record { life = 0; names = []; block = 0; first = 0 } } }

abbrev pub no_reading : Reading
no_reading = record { number = 0; position = 0; known = []; misses = 0 }

abbrev pub no_frame : FrameWords
no_frame = record { start = 0; cut = 0; words = [] }
