-- When a publisher may end.
use Rattle.std.specs.Prelude.{◌≡◌, ◌≤◌, ◌⊎◌, ℕ, ℤ, Bool, false, List, [], ◌∷◌, Option, None, Some, ⊤, nat_eq, nat_le, ◌&&◌, ◌||◌, if◌then◌else◌}
use Rattle.peer.specs.declared.attendance.Heard.{Heard}
use Rattle.peer.specs.declared.attendance.Attendance.{Attendance}
use Rattle.peer.specs.declared.attendance.Ending.{Ending}
use Rattle.peer.specs.declared.attendance.Ending.TheVariants.{Whole, Short}

-- no other was heard, it joined at the start, and has told the tail
abbrev pub is_alone : Attendance → Heard → ℕ → Bool
is_alone a heard tail = nat_eq a.changes 0 && (nat_eq heard.first a.start && nat_le tail heard.last)

abbrev pub is_one : Attendance → Option Heard → ℕ → Bool
is_one a None tail = false
is_one a (Some heard) tail = is_alone a heard tail

-- the input has ended, and there was nothing to deliver, or one receiver was heard from the start to the tail, and no other
abbrev pub is_whole : Attendance → Option ℕ → Bool
is_whole a None = false
is_whole a (Some tail) = nat_eq tail a.start || is_one a a.present tail

abbrev pub has_told : Option Heard → ℕ → Bool
has_told None tail = false
has_told (Some heard) tail = nat_le tail heard.last

-- the input has ended, and the one that was heard last has told the tail
abbrev pub is_told : Attendance → Option ℕ → Bool
is_told a None = false
is_told a (Some tail) = has_told a.present tail

-- so long is waited for a status message: for the first one, and from then on for a further one
abbrev pub patience : Option Heard → ℕ → ℕ → ℕ
patience None linger wait = wait
patience (Some heard) linger wait = linger

-- so long none came
abbrev pub is_silent : Attendance → Option ℕ → ℕ → ℕ → Bool
is_silent a None linger wait = false
is_silent a (Some silence) linger wait = nat_le (patience a.present linger wait) silence

-- where the stream ends, if the input has ended; and how long it was silent, if that is judged
abbrev pub ending_of : Attendance → Option ℕ → Option ℕ → ℕ → ℕ → Option Ending
ending_of a end silence linger wait = if is_whole a end then Some Whole else (if is_told a end || is_silent a silence linger wait then Some Short else None)

-- all messages are of this receiver
abbrev pub AllOf : ℤ → List (ℤ × ℕ) → Type 0
AllOf receiver [] = ⊤
AllOf receiver (m ∷ ms) = (m.0 ≡ receiver) × AllOf receiver ms

-- the first message tells this position
abbrev pub FirstTells : ℕ → List (ℤ × ℕ) → Type 0
FirstTells position [] = ⊥
FirstTells position (m ∷ ms) = m.1 ≡ position

-- one of the messages tells this position, or one behind it
abbrev pub Tell : ℕ → List (ℤ × ℕ) → Type 0
Tell position [] = ⊥
Tell position (m ∷ ms) = (position ≤ m.1) ⊎ Tell position ms

-- one receiver told its positions from the start to the tail, and no other was heard
pub record IsOneFromStart (start tail : ℕ) (messages : List (ℤ × ℕ)) : Type 0 where
  pub receiver : ℤ
  pub one : AllOf receiver messages
  pub start_told : FirstTells start messages
  pub tail_told : Tell tail messages

-- the input has ended, and nothing was to be delivered, or one told its positions from the start to the tail and no other was heard
abbrev pub IsWhole : ℕ → Option ℕ → List (ℤ × ℕ) → Type 0
IsWhole start None messages = ⊥
IsWhole start (Some tail) messages = (tail ≡ start) ⊎ IsOneFromStart start tail messages
