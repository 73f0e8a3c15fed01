-- What a script prints.
-- `IsOutputOf` is what is promised of a script that is played. `AlwaysPolled`, `AlwaysRuns` and `AlwaysInBounds` say
-- of all lines that answer a script what `IsOutputOfRun` says of those that are printed.
use Rattle.std.specs.Prelude.{◌≡◌, ◌⊎◌, ◌<◌, ◌+◌, ℕ, List, [], ◌∷◌, ◌++◌, map, length, slice_index, sum, Option}
use Rattle.std.specs.List.{AllByRecursion, flat_map}
use Rattle.theory.specs.Position.{Geometry, IsGeometry, IsMtu, IsTermLength}
use Rattle.theory.specs.Bytes.{Identity, IsIdentity}
use Rattle.theory.specs.Tiling.{share_of}
use Rattle.position.specs.declared.fault.GeometryError.TheVariants.{TermLength, Mtu}
use Rattle.shared_log.specs.declared.fault.LogError.TheVariants.{Start}
use Rattle.position.specs.Openings.{IsStart}
use Rattle.model.specs.World.{Event, Run}
use Rattle.script.specs.Meaning.{Opening, ScriptContent, group_in}
use Rattle.script_meaning.specs.Answers.{Answers}
use Rattle.script_meaning.specs.Bounds.{AreInBounds, TellsInOrder}
use Rattle.script_meaning.specs.LineContents.{LineContent, Open, BadGeometry, BadLog, Shares}
use Rattle.script_meaning.specs.Published.{AllHonest, Played, PolledPrefix, ReadPrefix}
use Rattle.script_meaning.specs.ScriptState.{ScriptState, entries_of, lone, opened_state, world_of}

-- the lines one after the other
abbrev pub AnswersAll : ScriptState → List Played → ScriptState → Type 0
AnswersAll old [] new = new ≡ old
AnswersAll old (p ∷ ps) new = (mid : ScriptState) × Answers old p.command p.lines mid × AnswersAll mid ps new

abbrev pub geometry_of : Opening → Geometry
geometry_of o = record { term_length = o.term_length; mtu = o.mtu; initial_term_id = o.initial_term_id }

abbrev pub identity_of : Opening → Identity
identity_of o = record { geometry = geometry_of o; session = o.session; stream = o.stream }

-- the start, the end, and each publisher's bytes, which are all that was claimed
pub record PrintsBook (s : ScriptState) (line : LineContent) : Type 0 where
  pub shares : List ℕ
  pub eight : length shares ≡ 8
  pub each : (k : ℕ) → k < 8 → slice_index shares k ≡ share_of k (entries_of s)
  pub whole : s.log.start + sum shares ≡ s.log.tail
  pub shown : line ≡ Shares s.log.start s.log.tail shares

-- a book can be printed in one way
abbrev pub HasOneBook : Type 0
HasOneBook = (s : ScriptState) (one other : LineContent) → PrintsBook s one → PrintsBook s other → one ≡ other

-- the lines are events of the world, with the image of the receiver of this number, whose premise holds; with none where no receiver has the number
abbrev pub RunsInWorld : Opening → Option ℕ → List Played → ScriptState → Type 0
RunsInWorld o group played s = (k : ℕ) → (k < 8 → AllHonest k played) → (events : List Event) × Run (world_of (opened_state (identity_of o) group o.start o.readers)) events (world_of (lone k s))

-- what holds behind these lines
pub record HoldsBehind (o : Opening) (group : Option ℕ) (played : List Played) (s : ScriptState) : Type 0 where
  pub runs : RunsInWorld o group played s
  pub bounds : AreInBounds s

-- the log opens: each line of the script is answered in turn, and the book ends the output. After each line, what the polls of a receiver printed is what was published between its join and its position, and what an assembler gives of the frames that a reader showed is what was published up to its position; and whatever its receiver was handed, each image is in bounds
pub record IsOutputOfRun (script : ScriptContent) (lines : List LineContent) : Type 0 where
  pub legal : IsGeometry (geometry_of script.log)
  pub starts : IsStart (geometry_of script.log) script.log.start
  pub played : List Played
  pub commands : map (λ p. p.command) played ≡ script.commands
  pub last : ScriptState
  pub answered : AnswersAll (opened_state (identity_of script.log) (group_in script.commands) script.log.start script.log.readers) played last
  pub book : LineContent
  pub shown : PrintsBook last book
  pub printed : lines ≡ Open ∷ (flat_map (λ p. p.lines) played ++ book ∷ [])
  pub polled : (done later : List Played) → played ≡ done ++ later → PolledPrefix (geometry_of script.log) done
  pub read : (done later : List Played) → played ≡ done ++ later → ReadPrefix (geometry_of script.log) script.log.start script.log.readers done
  pub behind : (done later : List Played) (s : ScriptState) → played ≡ done ++ later → AnswersAll (opened_state (identity_of script.log) (group_in script.commands) script.log.start script.log.readers) done s → HoldsBehind script.log (group_in script.commands) done s
  pub order : AllByRecursion (λ p. TellsInOrder p.command p.lines) played

-- the log can't be opened, and its fault is the only line
abbrev pub HasFault : Opening → List LineContent → Type 0
HasFault o lines =
    ((¬ IsTermLength o.term_length) × (lines ≡ BadGeometry TermLength ∷ []))
    ⊎ ((IsTermLength o.term_length × (¬ IsMtu o.term_length o.mtu) × (lines ≡ BadGeometry Mtu ∷ []))
    ⊎ (IsGeometry (geometry_of o) × (¬ IsStart (geometry_of o) o.start) × (lines ≡ BadLog Start ∷ [])))

abbrev pub IsOutputOf : ScriptContent → List LineContent → Type 0
IsOutputOf script lines = HasFault script.log lines ⊎ IsOutputOfRun script lines

-- whatever is answered, the shares are those of all entries
abbrev pub AlwaysCounted : Type 0
AlwaysCounted =
    (o : Opening) (group : Option ℕ) (played : List Played) (last : ScriptState) → AnswersAll (opened_state (identity_of o) group o.start o.readers) played last → (k : ℕ) → k < 8 → slice_index last.log.shares k ≡ share_of k (entries_of last)

-- whatever is answered, after each line what was polled and what was read is what was published
abbrev pub AlwaysPolled : Type 0
AlwaysPolled =
    (o : Opening) (group : Option ℕ) (played : List Played) (last : ScriptState) → IsGeometry (geometry_of o) → IsIdentity (identity_of o) → IsStart (geometry_of o) o.start →
    AnswersAll (opened_state (identity_of o) group o.start o.readers) played last → (done later : List Played) → played ≡ done ++ later → PolledPrefix (geometry_of o) done × ReadPrefix (geometry_of o) o.start o.readers done

-- and behind all of them the world is one to which a run leads
abbrev pub AlwaysRuns : Type 0
AlwaysRuns =
    (o : Opening) (group : Option ℕ) (played : List Played) (last : ScriptState) → IsGeometry (geometry_of o) → IsIdentity (identity_of o) → IsStart (geometry_of o) o.start →
    AnswersAll (opened_state (identity_of o) group o.start o.readers) played last → RunsInWorld o group played last

-- whatever is answered, and whatever bytes the receivers were handed, the images are in bounds
abbrev pub AlwaysInBounds : Type 0
AlwaysInBounds =
    (o : Opening) (group : Option ℕ) (played : List Played) (last : ScriptState) → AnswersAll (opened_state (identity_of o) group o.start o.readers) played last → AreInBounds last × AllByRecursion (λ p. TellsInOrder p.command p.lines) played
