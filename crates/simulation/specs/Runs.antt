-- What a script makes of a simulation, from the opened log to the book.
use Rattle.std.specs.Prelude.{◌≡◌, ℕ, List, [], ◌∷◌, ◌++◌, map}
use Rattle.std.specs.List.{flat_map}
use Rattle.theory.specs.Bytes.{Identity}
use Rattle.script.specs.Meaning.{CommandContent, group_in}
use Rattle.receiver.specs.Subscribing.{Subscribing}
use Rattle.script_meaning.specs.LineContents.{Open, LineContent}
use Rattle.script_meaning.specs.Output.{AnswersAll, PrintsBook}
use Rattle.script_meaning.specs.Published.{Played}
use Rattle.script_meaning.specs.ScriptState.{ScriptState, listening_at, numbers, opened_state}
use Rattle.script_meaning.specs.Standing.{IsPlayed}
use Rattle.simulation.specs.Lines.{line_contents}
use Rattle.simulation.specs.declared.line.Line.{Line}
use Rattle.simulation.specs.Simulated.{AllShow, RepresentsState, Simulated}

-- lines of a script one after the other
pub record Continued (old : ScriptState) (commands : List CommandContent) (before after : List LineContent) (new : Simulated) : Type 0 where
  pub played : List Played
  pub state : ScriptState
  pub of_commands : map (λ p. p.command) played ≡ commands
  pub answered : AnswersAll old played state
  pub printed : after ≡ before ++ flat_map (λ p. p.lines) played
  pub shows : RepresentsState new state

abbrev pub Continues : Simulated → List CommandContent → List Line → List Line → Simulated → Type 0
Continues old commands before after new = (s : ScriptState) → RepresentsState old s → IsPlayed s → Continued s commands (line_contents before) (line_contents after) new

-- the eight receivers of a log that was just opened
abbrev pub AreListening : Identity → List Subscribing → Type 0
AreListening i vs = AllShow vs (map (listening_at i) numbers)

-- the lines of a script from the opened log on, and the book
pub record RunsTo (i : Identity) (start readers : ℕ) (commands : List CommandContent) (before after : List LineContent) : Type 0 where
  pub played : List Played
  pub last : ScriptState
  pub of_commands : map (λ p. p.command) played ≡ commands
  pub answered : AnswersAll (opened_state i (group_in commands) start readers) played last
  pub book : LineContent
  pub shown : PrintsBook last book
  pub printed : after ≡ before ++ (Open ∷ (flat_map (λ p. p.lines) played ++ book ∷ []))
