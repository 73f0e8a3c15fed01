-- The flow control of a stream, of one receiver or of a group.
use Rattle.std.specs.Prelude.{ℕ, ℤ, Bool, true, List, max, ◌+ℤ◌, nat_lt, if◌then◌else◌, Option, None, Some}
use Rattle.theory.specs.FlowLimit.{clipped}
use Rattle.theory.specs.GroupLimit.{GroupEvent}
use Rattle.flow_control.specs.Group.{after_status, after_tick, allowed, are_heard, group_after}
use Rattle.flow_control.specs.Unicast.{unicast_after}
use Rattle.flow_control.specs.declared.stream.StreamFlow.{StreamFlow}
use Rattle.flow_control.specs.declared.stream.StreamFlow.TheVariants.{One, Group}

-- from two destinations on their receivers are a group
abbrev pub group_of : ℕ → Option ℕ
group_of destinations = if nat_lt 1 destinations then Some destinations else None

abbrev pub reached_of : StreamFlow → ℕ
reached_of (One f) = f.limit
reached_of (Group f) = f.limit

abbrev pub allowed_of : StreamFlow → ℕ
allowed_of (One f) = f.limit
allowed_of (Group f) = allowed f

abbrev pub has_heard_of : StreamFlow → Bool
has_heard_of (One f) = f.heard
has_heard_of (Group f) = are_heard f.size f.members

abbrev pub status_after : StreamFlow → ℤ → ℤ → ℤ → ℕ → StreamFlow
status_after (One f) position window receiver now = One (record { limit = max (clipped (position +ℤ window)) f.limit; heard = true })
status_after (Group f) position window receiver now = Group (after_status f position window receiver now)

abbrev pub tick_after : StreamFlow → ℕ → StreamFlow
tick_after (One f) now = One f
tick_after (Group f) now = Group (after_tick f now)

-- behind these events, newest first, from a stream's start: of a group of this size, or of one receiver
abbrev pub flow_after : Option ℕ → ℕ → List GroupEvent → StreamFlow
flow_after None start es = One (unicast_after start es)
flow_after (Some size) start es = Group (group_after size start es)
