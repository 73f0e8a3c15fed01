-- When a publisher may end.
use Rattle.std.specs.Prelude.{ℕ, Bool, ◌||◌, is_some, List, Option, None, Some, if◌then◌else◌}
use Rattle.std.specs.List.{list_all}
use Rattle.peer.specs.declared.attendance.Attendance.{Attendance}
use Rattle.peer.specs.declared.attendance.Ending.{Ending}
use Rattle.peer.specs.declared.attendance.Ending.TheVariants.{Whole, Short}
use Rattle.peer.specs.Endings.{ending_of, is_whole}
use Rattle.publisher.specs.Seeing.{ChannelDestination}
use Rattle.publisher.specs.declared.destination.Destination.{Destination}

-- which receivers were heard along it
abbrev pub heard_along : {D : Type 0} → ChannelDestination D → Attendance
heard_along w = w.device.watch.attendance

-- one receiver was heard along it from the start to the stream's end, and no other
abbrev pub is_whole_along : {D : Type 0} → Option ℕ → ChannelDestination D → Bool
is_whole_along end w = is_whole (heard_along w) end

-- nothing more is waited for along it: its receiver is left behind, or it has ended
abbrev pub is_over_along : {D : Type 0} → Option ℕ → ℕ → ℕ → ChannelDestination D → Bool
is_over_along end linger wait w = is_some w.behind || is_some (ending_of (heard_along w) end w.silence linger wait)

abbrev pub is_broken_along : {D : Type 0} → Destination D → Bool
is_broken_along w = w.broken

-- whole where all are; it gives up where nothing more is waited for along any
abbrev pub ending_along : {D : Type 0} → List (ChannelDestination D) → Option ℕ → ℕ → ℕ → Option Ending
ending_along destinations end linger wait =
    if list_all (is_whole_along end) destinations then Some Whole
    else (if list_all (is_over_along end linger wait) destinations then Some Short else None)
