-- How far a sender may send to a group of receivers.
-- The group is fixed, and receivers outside it don't count. Once all were heard, each status message of the group and
-- each tick raises the limit to the least of the live receivers' best sums of position and window, if that is more
-- than before. A receiver is live for 5 s after its last such message.
use Rattle.std.specs.Prelude.{ℕ, zero, suc, ◌+◌, Bool, true, false, ◌&&◌, min, max, nat_eq, nat_le, List, [], ◌∷◌, if◌then◌else◌, ℤ, pos, ◌+ℤ◌, Option, None, Some, negsuc, nat_lt}
use Rattle.std.specs.List.{list_any}
use Rattle.theory.specs.FlowLimit.{Said, clipped}
use Rattle.theory.specs.Timing.{seen}

pub data GroupEvent : Type 0 where
  StatusCame : (receiver : ℤ) (position : ℤ) (window : ℤ) (now : ℕ) → GroupEvent
  Ticked : (now : ℕ) → GroupEvent

abbrev pub moment_of : GroupEvent → ℕ
moment_of (StatusCame r p w now) = now
moment_of (Ticked now) = now

abbrev pub is_same : ℤ → ℕ → Bool
is_same (pos n) r = nat_eq n r
is_same other r = false

abbrev pub is_of : ℕ → GroupEvent → Bool
is_of r (StatusCame id p w now) = is_same id r
is_of r (Ticked now) = false

abbrev pub reach_of : GroupEvent → ℕ
reach_of (StatusCame id p w now) = clipped (p +ℤ w)
reach_of (Ticked now) = 0

abbrev pub best : ℕ → List GroupEvent → ℕ
best r [] = 0
best r (t ∷ ts) = if is_of r t then max (reach_of t) (best r ts) else best r ts

abbrev pub is_live : ℕ → ℕ → List GroupEvent → Bool
is_live now r ts = list_any (λ t. is_of r t && nat_le now (moment_of t + 5000000000)) ts

-- of the first n numbers
abbrev pub all_heard : ℕ → List GroupEvent → Bool
all_heard zero ts = true
all_heard (suc n) ts = list_any (is_of n) ts && all_heard n ts

abbrev pub least_or : ℕ → Option ℕ → Option ℕ
least_or p None = Some p
least_or p (Some q) = Some (min p q)

abbrev pub candidate : ℕ → ℕ → List GroupEvent → Option ℕ
candidate zero now ts = None
candidate (suc n) now ts = if is_live now n ts then least_or (best n ts) (candidate n now ts) else candidate n now ts

abbrev pub at_least : Option ℕ → ℕ → ℕ
at_least None limit = limit
at_least (Some p) limit = max p limit

-- a tick, or a status message of a receiver of the group; others are as if they hadn't come
abbrev pub is_inside : ℕ → GroupEvent → Bool
is_inside group (StatusCame (pos n) p w now) = nat_lt n group
is_inside group (StatusCame (negsuc n) p w now) = false
is_inside group (Ticked now) = true

-- the greatest of the start and of the candidates, one at each moment from which all are heard
abbrev pub limit_in_time : ℕ → ℕ → List GroupEvent → ℕ
limit_in_time group start [] = start
limit_in_time group start (t ∷ ts) =
    if is_inside group t && all_heard group (t ∷ ts) then at_least (candidate group (moment_of t) (t ∷ ts)) (limit_in_time group start ts) else limit_in_time group start ts

-- the greatest moment that was handed in
abbrev pub clock_of : List GroupEvent → ℕ
clock_of [] = 0
clock_of (t ∷ ts) = seen (clock_of ts) (moment_of t)

abbrev pub at_clock : ℕ → GroupEvent → GroupEvent
at_clock clock (StatusCame r p w now) = StatusCame r p w clock
at_clock clock (Ticked now) = Ticked clock

-- each at the moment that it counts as: one that is smaller than one seen is the one seen
abbrev pub in_time : List GroupEvent → List GroupEvent
in_time [] = []
in_time (t ∷ ts) = at_clock (clock_of (t ∷ ts)) t ∷ in_time ts

-- of all that happened to the group, newest first
abbrev pub group_limit : ℕ → ℕ → List GroupEvent → ℕ
group_limit group start ts = limit_in_time group start (in_time ts)

-- what was heard, as a single receiver's status messages
abbrev pub said_of : List GroupEvent → List Said
said_of [] = []
said_of (StatusCame r p w now ∷ ts) = record { position = p; window = w } ∷ said_of ts
said_of (Ticked now ∷ ts) = said_of ts
