-- What a contract sees of a handler, and how its calls change it.
use Rattle.std.specs.Prelude.{ℕ, ◌+◌, ◌-◌, ◌*◌, ◌/◌, ◌≤◌, Bool, true, if◌then◌else◌, List, [], ◌∷◌, ◌++◌, max, nat_eq, nat_le, Option, None, Some, ℤ}
use Rattle.std.specs.List.{list_any, filter}
use Rattle.std.specs.Option.{option_and_then}
use Rattle.theory.specs.Position.{Geometry, IsGeometry, max_position}
use Rattle.theory.specs.Gap.{Gap}
use Rattle.theory.specs.Timing.{seen}
use Rattle.theory.specs.Resend as meant
use Rattle.theory.specs.Resend.{NakAnswer, kept, added, answered, first_due, nak_answer_by, nat_of, resend_range}
use Rattle.sender.specs.declared.retransmit.action.Action.{Action}
use Rattle.sender.specs.Resending.Spaced.{AreSpaced}

-- starts are those of the frames that can still be asked for, in ascending order; actions are the kept ones, newest first
pub record Handler : Type 0 where
  pub geometry : Geometry
  pub start : ℕ
  -- the sender's position: the end of the last frame
  pub at : ℕ
  -- the greatest moment seen
  pub clock : ℕ
  pub starts : List ℕ
  pub actions : List meant.Action

abbrev pub action_of : Action → meant.Action
action_of a = record { at = a.at; length = a.length; lingers = a.lingers; until = a.until }

abbrev pub fresh : Geometry → ℕ → Handler
fresh g start = record { geometry = g; start = start; at = start; clock = 0; starts = []; actions = [] }

-- a frame that starts there can be asked for once the sender stands at the end
abbrev pub is_near : Geometry → ℕ → ℕ → Bool
is_near g end p = nat_le end (p + 3 * g.term_length / 4)

abbrev pub after_note : Handler → ℕ → ℕ → Handler
after_note h start end = record h { at = end; starts = filter (is_near h.geometry end) (h.starts ++ start ∷ []) }

abbrev pub starts_at : List ℕ → ℕ → Bool
starts_at starts p = list_any (λ q. nat_eq q p) starts

abbrev pub kept_at : Handler → ℕ → List meant.Action
kept_at h now = kept (seen h.clock now) h.actions

abbrev pub nak_answer_of : Handler → ℕ → ℤ → ℤ → NakAnswer
nak_answer_of h now position length = nak_answer_by h.geometry h.start h.at (starts_at h.starts) (kept_at h now) position length

abbrev pub after_nak : Handler → ℕ → ℤ → ℤ → Handler
after_nak h now position length = record h { clock = seen h.clock now; actions = added (nak_answer_of h now position length) (nat_of position) (nat_of length) (kept_at h now) }

-- an action for the position lingers until then
abbrev pub lingering_until : ℕ → ℕ → meant.Action → meant.Action
lingering_until at until b = record b { lingers = if nat_eq b.at at then true else b.lingers; until = if nat_eq b.at at then until else b.until }

-- the range of the action that was taken first of those that aren't answered
abbrev pub due_range : Handler → Option Gap
due_range h = option_and_then (λ a. resend_range h.geometry h.at h.starts a) (first_due h.actions)

abbrev pub answered_first : ℕ → List meant.Action → Option meant.Action → List meant.Action
answered_first clock actions None = actions
answered_first clock actions (Some a) = answered clock a actions

abbrev pub after_due : Handler → ℕ → Handler
after_due h now = record h { clock = seen h.clock now; actions = answered_first (seen h.clock now) h.actions (first_due h.actions) }

-- what holds of a handler's parts between two calls
pub record IsHandler (g : Geometry) (start at : ℕ) (starts : List ℕ) (room : ℕ) (actions : List Action) (places : ℕ) : Type 0 where
  pub geometry : IsGeometry g
  pub from : start ≤ at
  pub in_stream : at ≤ max_position g
  pub spaced : AreSpaced (max start (at - 3 * g.term_length / 4)) at starts
  pub starts_fit : 3 * g.term_length / 4 ≤ 32 * room
  pub actions_fit : 16 ≤ places
