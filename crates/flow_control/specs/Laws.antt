-- What flow controls keep is enough: behind every list of events, newest first, they are what the whole list says.
use Rattle.std.specs.Prelude.{◌≡◌, ◌≤◌, ◌<◌, ℕ, Bool, true, false, List, length, slice_set, Option, None}
use Rattle.std.specs.List.{list_any}
use Rattle.theory.specs.FlowLimit.{flow_limit}
use Rattle.theory.specs.GroupLimit.{GroupEvent, StatusCame, Ticked, all_heard, group_limit, said_of}
use Rattle.flow_control.specs.Group.{are_heard, group_after, is_live, least_live, member_at}
use Rattle.flow_control.specs.Unicast.{unicast_after}
use Rattle.flow_control.specs.declared.least.Member.{Member}

abbrev pub is_status : GroupEvent → Bool
is_status (StatusCame r p w now) = true
is_status (Ticked now) = false

-- of one receiver: the flow limit of all status messages, and whether there was one
abbrev pub OneKeepsEnough : Type 0
OneKeepsEnough = (start : ℕ) (es : List GroupEvent) → ((unicast_after start es).limit ≡ flow_limit start (said_of es)) × ((unicast_after start es).heard ≡ list_any is_status es)

-- of a group: its limit, and whether all its receivers were heard
abbrev pub GroupKeepsEnough : Type 0
GroupKeepsEnough = (size start : ℕ) (es : List GroupEvent) → size ≤ 8 → ((group_after size start es).limit ≡ group_limit size start es) × (are_heard size (group_after size start es).members ≡ all_heard size es)

-- one that was silent for five seconds and more doesn't count: the least over a group is that over the others alone
abbrev pub SilentOnesDontCount : Type 0
SilentOnesDontCount =
    (size now r : ℕ) (members : List (Option Member)) → r < length members → is_live now (member_at members r) ≡ false
    → least_live size now members ≡ least_live size now (slice_set members r None)
