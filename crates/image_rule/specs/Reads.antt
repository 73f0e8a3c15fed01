-- What a reader's calls tell.
use Rattle.std.specs.Prelude.{◌≡◌, ℕ, ◌^◌, ◌<◌, ◌≤◌, ◌⊎◌, List, [], ◌∷◌, ◌++◌, length, slice_index, slice_set}
use Rattle.image_rule.specs.declared.view.Frame.{Frame}
use Rattle.image_rule.specs.declared.view.View.{View}
use Rattle.image_rule.specs.Frames.{Among, Has, Says, end_of}

abbrev pub no_frame : Frame
no_frame = record { unit = 0; units = 0; bytes = [] }

-- the frame that was found last
abbrev pub first_of : List Frame → Frame
first_of [] = no_frame
first_of (f ∷ fs) = f

-- a reader has found a frame where it stands
pub record IsFound (v : View) : Type 0 where
  pub reads : v.reading.reads ≡ 1
  pub some : 0 < length v.reading.known
  pub here : (first_of v.reading.known).unit ≡ v.reading.unit
  pub low : end_of (first_of v.reading.known) ≤ 2 ^ 56
  pub says : Says (first_of v.reading.known)

-- the frame that was found last begins where the reader stands, and ends there
pub record IsRead (v : View) (end : ℕ) : Type 0 where
  pub some : 0 < length v.reading.known
  pub here : (first_of v.reading.known).unit ≡ v.reading.unit
  pub ends : end ≡ end_of (first_of v.reading.known)
  pub low : end ≤ 2 ^ 56

-- an inserter and a reader have met: the inserter saw the reader where it stands, and the reader knows just what was stored;
-- the reader stands within no frame that was stored, and all before it was
pub record Meets (v r w s : View) : Type 0 where
  pub inserter : w ≡ record v { seen = w.seen; reading = record v.reading { known = w.reading.known } }
  pub stood : slice_index v.seen r.reading.number ≤ r.reading.unit
  pub seen : w.seen ≡ slice_set v.seen r.reading.number r.reading.unit
  pub reader : s ≡ record r { seen = s.seen; reading = record r.reading { known = s.reading.known } }
  pub known : s.reading.known ≡ r.reading.known ++ v.held.got
  pub stored : (f : Frame) → Among f s.reading.known → Among f v.held.got
  pub edge : (f : Frame) → Among f v.held.got → f.unit < r.reading.unit → end_of f ≤ r.reading.unit
  pub reached : r.reading.number < length v.seen → (u : ℕ) → v.held.floor ≤ u → u < r.reading.unit → Has v.held.got u
