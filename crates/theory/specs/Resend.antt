-- What is asked for again, and what is sent again.
-- A NAK that is taken is due at once. It is answered by the frames that start in its range, as far as these are no
-- more than three quarters of a term behind the sender, below where it stands, and in the NAK's term. Once answered
-- it lingers for 60 ms and is then forgotten. At most sixteen are kept.
use Rattle.std.specs.Prelude.{◌≡◌, ◌<◌, ◌≤◌, ℕ, ◌+◌, ◌-◌, ◌*◌, ◌/◌, Bool, true, false, not, ◌&&◌, ◌||◌, List, [], ◌∷◌, length, min, max, nat_eq, nat_le, nat_lt, if◌then◌else◌, ℤ, pos, negsuc, Option, None, Some, map}
use Rattle.std.specs.List.{list_any, find, filter, AllByRecursion}
use Rattle.std.specs.Option.{option_map}
use Rattle.theory.specs.Position.{Geometry}
use Rattle.theory.specs.Placed.{Among, Placed}
use Rattle.theory.specs.Gap.{Gap}
use Rattle.theory.specs.Datagrams.{frames_of, resend_datagrams}
use Rattle.theory.specs.Timing.{deadline}

-- a negative acknowledgement that was taken; once it was answered it lingers
pub record Action : Type 0 where
  pub at : ℕ
  pub length : ℕ
  pub lingers : Bool
  pub until : ℕ

pub data NakAnswer : Type 0 where
  OutOfRange : NakAnswer
  NotAFrameStart : NakAnswer
  Lingering : NakAnswer
  Full : NakAnswer
  Taken : NakAnswer

abbrev pub kept : ℕ → List Action → List Action
kept now actions = filter (λ a. not (a.lingers && nat_le a.until now)) actions

-- the action that is resent next: of those that don't linger the one taken first
abbrev pub or_due : Option Action → Action → Option Action
or_due (Some b) a = Some b
or_due None a = if a.lingers then None else Some a

abbrev pub first_due : List Action → Option Action
first_due [] = None
first_due (a ∷ rest) = or_due (first_due rest) a

abbrev pub first_resent : Geometry → ℕ → ℕ → ℕ
first_resent g s p = max p (s - 3 * g.term_length / 4)

-- by a test that says where frames start
abbrev pub nak_answer_at : Geometry → ℕ → ℕ → (ℕ → Bool) → List Action → ℕ → NakAnswer
nak_answer_at g start s starts_at actions p =
    if nat_lt p start || nat_lt p (s - 3 * g.term_length / 4) || nat_le s p then OutOfRange
    else (if not (starts_at p) then NotAFrameStart
    else (if list_any (λ a. nat_eq a.at p) actions then Lingering
    else (if nat_le 16 (length actions) then Full
    else Taken)))

abbrev pub nak_answer_by : Geometry → ℕ → ℕ → (ℕ → Bool) → List Action → ℤ → ℤ → NakAnswer
nak_answer_by g start s starts_at actions (pos p) (pos n) = if nat_eq n 0 then OutOfRange else nak_answer_at g start s starts_at actions p
nak_answer_by g start s starts_at actions (pos p) (negsuc n) = OutOfRange
nak_answer_by g start s starts_at actions (negsuc p) n = OutOfRange

abbrev pub nak_answer : Geometry → ℕ → ℕ → List Placed → List Action → ℤ → ℤ → NakAnswer
nak_answer g start s sent = nak_answer_by g start s (λ p. list_any (λ f. nat_eq f.at p) sent)

-- where the range of an action ends: what was asked for, the sender's position or the end of the term, whichever comes first
abbrev pub range_end : Geometry → ℕ → Action → ℕ
range_end g s a = min (min (a.at + a.length) s) (a.at / g.term_length * g.term_length + g.term_length)

abbrev pub is_in_range : Geometry → ℕ → Action → ℕ → Bool
is_in_range g s a p = nat_le (first_resent g s a.at) p && nat_lt p (range_end g s a)

-- the range from the first frame start in it; starts are in ascending order
abbrev pub resend_range : Geometry → ℕ → List ℕ → Action → Option Gap
resend_range g s starts a = option_map (λ p. record { start = p; length = range_end g s a - p }) (find (is_in_range g s a) starts)

-- the frames that a resend may send are those that start in this range
abbrev pub is_resent : Geometry → ℕ → Action → Placed → Bool
is_resent g s a f = is_in_range g s a f.at

-- what a resend of this action sends, the sender standing at s
abbrev pub resent : Geometry → ℕ → List Placed → Action → List Placed
resent g s passed a = frames_of (resend_datagrams g (filter (is_resent g s a) passed))

-- the action is answered, and lingers
abbrev pub lingering : ℕ → Action → Action → Action
lingering now a b = record b { lingers = if nat_eq b.at a.at then true else b.lingers; until = if nat_eq b.at a.at then deadline now 60000000 else b.until }

abbrev pub answered : ℕ → Action → List Action → List Action
answered now a actions = map (lingering now a) actions

abbrev pub added : NakAnswer → ℕ → ℕ → List Action → List Action
added Taken p n actions = record { at = p; length = n; lingers = false; until = 0 } ∷ actions
added other p n actions = actions

abbrev pub nat_of : ℤ → ℕ
nat_of (pos n) = n
nat_of (negsuc n) = 0

-- a frame of the list starts there
abbrev pub SomeStart : ℕ → List Placed → Type 0
SomeStart p frames = (f : Placed) × Among f frames × (f.at ≡ p)

-- it is taken where it is in range, a frame that was sent starts there, and no kept action but fewer than 16 stand in its way
pub record IsTaken (g : Geometry) (start s : ℕ) (sent : List Placed) (actions : List Action) (position span : ℤ) : Type 0 where
  pub at : ℕ
  pub bytes : ℕ
  pub placed : position ≡ pos at
  pub long : span ≡ pos bytes
  pub some : 0 < bytes
  pub from : start ≤ at
  pub near : s ≤ at + 3 * g.term_length / 4
  pub below : at < s
  pub starts : SomeStart at sent
  pub fresh : AllByRecursion (λ a. a.at ≡ at → ⊥) actions
  pub space : length actions < 16
