-- A consumer of a log or an image, and its assembler.
-- A consumer reads a log or an image frame by frame. Its assembler has missed a frame where memory was refused to it,
-- where the message was too long, or where there is no assembler; from then on it counts as lost, and `heard_to`
-- stays where it is.
use Rattle.std.specs.Prelude.{◌≡◌, ℕ, Bool, true, false, List, [], ◌∷◌, min}
use Rattle.theory.specs.Placed.{Among, Placed, end_of}
use Rattle.theory.specs.Assembly.{Assembly, after, nothing_heard}

-- where it joined, where it stands, how far its assembler heard each frame, and whether the assembler has missed one since
pub record Consumer : Type 0 where
  pub join : ℕ
  pub at : ℕ
  pub lost : Bool
  pub heard_to : ℕ
  pub assembly : Assembly

abbrev pub consumer_at : ℕ → Consumer
consumer_at p = record { join = p; at = p; lost = false; heard_to = p; assembly = nothing_heard }

-- past a frame that its assembler heard
abbrev pub moved : Consumer → Placed → Consumer
moved r s = record r { at = end_of s; heard_to = end_of s; assembly = after r.assembly s.frame }

-- past a frame that its assembler refused, or after one, or without an assembler
abbrev pub passed_by : Consumer → Placed → Consumer
passed_by r s = record r { at = end_of s; lost = true }

-- the consumer stands where this frame of the list starts
pub record MayMove (frames : List Placed) (past : Placed) (r : Consumer) : Type 0 where
  pub among : Among past frames
  pub here : past.at ≡ r.at

-- the least of p and the consumers' positions
abbrev pub least_from : ℕ → List Consumer → ℕ
least_from p [] = p
least_from p (r ∷ rs) = min r.at (least_from p rs)

-- the least position; there is a consumer always
abbrev pub least_of : List Consumer → ℕ
least_of [] = 0
least_of (r ∷ rs) = least_from r.at rs
