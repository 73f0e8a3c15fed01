-- What holds of every state to which a script leads: what its sender may send again is still there.
use Rattle.std.specs.Prelude.{◌≡◌, ◌%◌, ◌<◌, ℕ, List, map, Option}
use Rattle.std.specs.List.{filter}
use Rattle.theory.specs.Bytes.{Identity, IsIdentity}
use Rattle.theory.specs.Entry.{committed}
use Rattle.theory.specs.Position.{Geometry, IsGeometry, max_position}
use Rattle.model.specs.Sender.{Sender}
use Rattle.sender.specs.Resending.Handler.{Handler, due_range, is_near}
use Rattle.sender.specs.Cycling.{Cycle, GivesAgain, GivesNew}
use Rattle.sender.specs.Sending.{AreThere}
use Rattle.script_meaning.specs.Answers.{again_of, behind_new, cycle_limit}
use Rattle.script_meaning.specs.Output.{AnswersAll}
use Rattle.script_meaning.specs.Published.{Played}
use Rattle.script_meaning.specs.ScriptState.{ScriptState, opened_state}

-- where a script begins
pub record Begins (i : Identity) (start : ℕ) : Type 0 where
  pub geometry : IsGeometry i.geometry
  pub identity : IsIdentity i
  pub unit : start % 32 ≡ 0
  pub below : start < max_position i.geometry

-- a script leads to this state
pub record IsPlayed (s : ScriptState) : Type 0 where
  pub identity : Identity
  pub group : Option ℕ
  pub start : ℕ
  pub readers : ℕ
  pub begins : Begins identity start
  pub played : List Played
  pub answered : AnswersAll (opened_state identity group start readers) played s

-- what a handler knows that noted all frames that the sender passed, and heard what it heard
abbrev pub handler_of : Geometry → ℕ → Sender → ℕ → Handler
handler_of g start x clock = record { geometry = g; start = start; at = x.at; clock = clock; starts = filter (is_near g x.at) (map (λ f. f.at) x.passed); actions = x.actions }

-- the frames near the sender can be read again
abbrev pub AlwaysThere : Type 0
AlwaysThere = (s : ScriptState) (clock : ℕ) → IsPlayed s → AreThere (committed s.log.entries) (handler_of s.log.identity.geometry s.log.start s.sender clock)

-- what is read again for the action that is due is what was sent and is asked for, as far as the datagrams hold
abbrev pub AlwaysAgain : Type 0
AlwaysAgain = (s : ScriptState) (now clock : ℕ) (y : Cycle) → IsPlayed s
    → GivesNew s.log.identity.geometry (committed s.log.entries) s.sender.at (cycle_limit s now) y.fresh
    → GivesAgain s.log.identity.geometry (committed s.log.entries) (due_range (handler_of s.log.identity.geometry s.log.start (behind_new s now y) clock)) y.again
    → y.again ≡ again_of s.log.identity.geometry (behind_new s now y)
