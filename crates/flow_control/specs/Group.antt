-- What a contract sees of a group's flow control, and what a status message and a moment make of it.
-- It keeps of each receiver the best sum and the last moment alone. That these are enough is a law (`KeepsEnough`).
use Rattle.std.specs.Prelude.{ℕ, zero, suc, ◌+◌, Bool, true, false, ◌&&◌, max, nat_le, nat_lt, is_some, List, [], ◌∷◌, replicate, slice_index_or, slice_set, if◌then◌else◌, ℤ, pos, negsuc, ◌+ℤ◌, Option, None, Some}
use Rattle.theory.specs.FlowLimit.{clipped}
use Rattle.theory.specs.GroupLimit.{GroupEvent, StatusCame, Ticked, at_least, least_or}
use Rattle.theory.specs.Timing.{seen}
use Rattle.flow_control.specs.declared.least.Member.{Member}

-- how many receivers there are; the limit; the greatest moment seen; and by their ids what each has said, if it was heard
pub record Group : Type 0 where
  pub size : ℕ
  pub limit : ℕ
  pub clock : ℕ
  pub members : List (Option Member)

-- it has heard none
abbrev pub opened : ℕ → ℕ → Group
opened size start = record { size = size; limit = start; clock = 0; members = replicate 8 None }

abbrev pub member_at : List (Option Member) → ℕ → Option Member
member_at members r = slice_index_or members r None

abbrev pub best_of : Option Member → ℕ
best_of None = 0
best_of (Some m) = m.best

abbrev pub is_live : ℕ → Option Member → Bool
is_live now None = false
is_live now (Some m) = nat_le now (m.last + 5000000000)

-- of the first n receivers
abbrev pub are_heard : ℕ → List (Option Member) → Bool
are_heard zero members = true
are_heard (suc n) members = is_some (member_at members n) && are_heard n members

-- the least with one receiver more, if that is live
abbrev pub with_member : ℕ → Option Member → Option ℕ → Option ℕ
with_member now member least = if is_live now member then least_or (best_of member) least else least

-- of the first n receivers, the least best sum of those that are live
abbrev pub least_live : ℕ → ℕ → List (Option Member) → Option ℕ
least_live zero now members = None
least_live (suc n) now members = with_member now (member_at members n) (least_live n now members)

abbrev pub greatest : List (Option Member) → ℕ
greatest [] = 0
greatest (m ∷ ms) = max (best_of m) (greatest ms)

-- the limit can't be raised further than this without a status message
abbrev pub allowed : Group → ℕ
allowed f = max f.limit (greatest f.members)

abbrev pub at_moment : Group → ℕ → Group
at_moment f now = record f { clock = seen f.clock now }

abbrev pub raised : Group → Group
raised f = record f { limit = if are_heard f.size f.members then at_least (least_live f.size f.clock f.members) f.limit else f.limit }

abbrev pub with_status : Group → ℕ → ℕ → Group
with_status f r reach = record f { members = slice_set f.members r (Some (record { best = max reach (best_of (member_at f.members r)); last = f.clock })) }

-- the number of a receiver of a group of this size
abbrev pub inside : ℕ → ℤ → Option ℕ
inside size (pos n) = if nat_lt n size then Some n else None
inside size (negsuc n) = None

-- a receiver's status message at the moment that was seen; none was of the group
abbrev pub told : Group → ℕ → Option ℕ → Group
told f reach None = f
told f reach (Some r) = raised (with_status f r reach)

abbrev pub after_status : Group → ℤ → ℤ → ℤ → ℕ → Group
after_status f position window receiver now = told (at_moment f now) (clipped (position +ℤ window)) (inside f.size receiver)

abbrev pub after_tick : Group → ℕ → Group
after_tick f now = raised (at_moment f now)

-- behind these events, newest first, from a stream's start
abbrev pub group_after : ℕ → ℕ → List GroupEvent → Group
group_after size start [] = opened size start
group_after size start (StatusCame r p w now ∷ es) = after_status (group_after size start es) p w r now
group_after size start (Ticked now ∷ es) = after_tick (group_after size start es) now
