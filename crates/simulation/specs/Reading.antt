-- What a line does to a log, and what is printed of it.
use Rattle.std.specs.Prelude.{◌≡◌, ◌⊎◌, ◌<◌, ℕ, List, [], ◌∷◌, Some}
use Rattle.theory.specs.Placed.{Among, Frame, Placed, end_of}
use Rattle.theory.specs.Entry.{committed}
use Rattle.frame_source.specs.Sources.{HasNone}
use Rattle.one_hand.specs.Legal.{IsStream}
use Rattle.one_hand.specs.Reads.{source_of}
use Rattle.one_hand.specs.Stream.{HasConsumer, IsVacant, OpenClaim, Stream, claim_by, lowest, position_of, with_consumer, without_consumer}
use Rattle.script_meaning.specs.Answers.{IsBad, OffersMessage, frame_line, with_log}
use Rattle.script_meaning.specs.LineContents.{Bad, Joined, Left, LineContent, NoMessage}
use Rattle.script_meaning.specs.ScriptState.{ScriptState}

-- ---- a line that only changes the log

-- which stream it is and how far it is read stay
pub record StandsStill (old new : Stream) : Type 0 where
  pub identity : new.identity ≡ old.identity
  pub start : new.start ≡ old.start
  pub consumers : new.consumers ≡ old.consumers

-- whatever state has the log, this line leads to the same state with the other log
abbrev pub LeadsTo : (ScriptState → List LineContent → ScriptState → Type 0) → Stream → LineContent → Stream → Type 0
LeadsTo Step old line new = (s : ScriptState) → s.log ≡ old → Step s (line ∷ []) (with_log s new)

-- ---- a reader's line

-- what is printed of a frame at a position
abbrev pub shown_frame : ℕ → Frame → LineContent
shown_frame at frame = frame_line at frame

-- no frame is committed where it stands
abbrev pub LineFindsNone : Stream → ℕ → LineContent → Stream → Type 0
LineFindsNone l r line m = HasNone (source_of l r) (position_of l r) × (line ≡ NoMessage) × (m ≡ l)

-- it passes the committed frame where it stands
abbrev pub LinePassesFrame : Stream → ℕ → LineContent → Stream → Type 0
LinePassesFrame l r line m = (s : Placed) × Among s (committed l.entries) × (s.at ≡ position_of l r) × (line ≡ frame_line s.at s.frame) × (m ≡ with_consumer l r (end_of s))

abbrev pub ReadsLine : Stream → ℕ → LineContent → Stream → Type 0
ReadsLine l r line m = LineFindsNone l r line m ⊎ LinePassesFrame l r line m

-- ---- a reader that joins or leaves

-- it begins where the least consumer stands, where nobody had its number
pub record LineJoins (l : Stream) (r : ℕ) (line : LineContent) (m : Stream) : Type 0 where
  pub legal : IsStream l
  pub vacant : IsVacant l r
  pub shown : line ≡ Joined (lowest l)
  pub after : m ≡ with_consumer l r (lowest l)

abbrev pub JoinsLine : Stream → ℕ → LineContent → Stream → Type 0
JoinsLine l r line m = (HasConsumer l r × (line ≡ Bad) × (m ≡ l)) ⊎ LineJoins l r line m

-- nobody has its number then
abbrev pub LeavesLine : Stream → ℕ → LineContent → Stream → Type 0
LeavesLine l r line m = (((r ≡ 0) ⊎ IsVacant l r) × (line ≡ Bad) × (m ≡ l)) ⊎ ((0 < r) × HasConsumer l r × (line ≡ Left) × (m ≡ without_consumer l r))

-- ---- an offer

-- a message that the log can hold is offered by a publisher, or can't be, as that has a claim open
abbrev pub MayBeOffered : ScriptState → ℕ → List ℕ → List LineContent → ScriptState → Type 0
MayBeOffered s by message lines t = (((c : OpenClaim) × (claim_by s.log by ≡ Some c)) × IsBad s lines t) ⊎ OffersMessage s by message lines t
