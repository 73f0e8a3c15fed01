-- What a publisher has seen and told, and how it ends by that.
use Rattle.std.specs.Prelude.{ℕ, ◌-◌, ◌&&◌, ◌||◌, Bool, not, true, false, nat_eq, nat_le, nat_lt, is_some, if◌then◌else◌, Option, None, Some}
use Rattle.peer.specs.declared.attendance.Attendance.{Attendance}
use Rattle.peer.specs.declared.attendance.Heard.{Heard}
use Rattle.peer.specs.declared.attendance.Ending.{Ending}
use Rattle.peer.specs.declared.farewell.StreamEnd.{StreamEnd}
use Rattle.peer.specs.Silences.{never, seen_at}
use Rattle.publisher.specs.declared.offering.reading.Reading.{Reading}
use Rattle.publisher.specs.declared.fault.PublishFault.{PublishFault}
use Rattle.publisher.specs.declared.judging.Judged.{Judged}
use Rattle.publisher.specs.declared.destination.Seen.{Seen}
use Rattle.publisher.specs.declared.progress.Progress.{Progress}
use Rattle.publisher.specs.declared.telling.ToldShortfall.{ToldShortfall}

abbrev pub told_from : ℕ → Option Heard → ℕ
told_from start None = start
told_from start (Some heard) = heard.last

-- what the receiver that was heard last has told; before anybody was heard it is the start
abbrev pub told_of : Attendance → ℕ
told_of a = told_from a.start a.present

-- nothing was seen or told yet
abbrev pub nothing_seen : Progress
nothing_seen = record { changes = 0; statuses = never; worked = never; shown = 0; messages = 0; alone = false; faulted = false; ended = None }

-- which receivers are there, and since when none was heard
abbrev pub seen : Progress → Seen → ℕ → Progress
seen p s now = record p { changes = s.attendance.changes; statuses = seen_at p.statuses s.tally.statuses now }

-- a status message is noted again, behind more than five seconds in which none was
abbrev pub is_back : Progress → ℕ → ℕ → Bool
is_back p statuses now = not (nat_eq statuses p.statuses.count) && nat_lt 5000000000 (now - p.statuses.since)

-- each call of the device failed for so long
abbrev pub is_broken : Progress → ℕ → ℕ → ℕ → Bool
is_broken p worked linger now = nat_eq worked p.worked.count && nat_le linger (now - p.worked.since)

abbrev pub with_work : Progress → ℕ → ℕ → Progress
with_work p worked now = record p { worked = seen_at p.worked worked now }

-- why the reading stopped was told, if it did
abbrev pub with_fault : Option PublishFault → Progress → Progress
with_fault fault p = record p { faulted = p.faulted || is_some fault }

-- the counters are told: a second has gone by since they were, or it is the last time
abbrev pub is_shown : Progress → ℕ → Bool → Bool
is_shown p now last = last || nat_le 1000000000 (now - p.shown)

-- then so many messages were accepted since
abbrev pub shown_messages : Progress → ℕ → ℕ → Bool → Option ℕ
shown_messages p messages now last = if is_shown p now last then Some (messages - p.messages) else None

-- and the next second begins
abbrev pub shown_at : Progress → ℕ → ℕ → Bool → Progress
shown_at p messages now last = if is_shown p now last then record p { shown = now; messages = messages } else p

-- the stream's end wasn't told for 100 ms
abbrev pub is_due_since : Option ℕ → ℕ → Bool
is_due_since None now = true
is_due_since (Some ended) now = nat_le 100000000 (now - ended)

abbrev pub is_end_due : Progress → ℕ → Bool
is_end_due p now = is_due_since p.ended now

-- the stream ends here, was sent up to there, and that is due to be told, where it was told last at some moment
abbrev pub end_due : Option ℕ → Option StreamEnd → ℕ → ℕ → Option StreamEnd
end_due ended None sent_to now = None
end_due ended (Some end) sent_to now = if nat_lt sent_to end.position then None else (if is_due_since ended now then Some end else None)

-- then the next 100 ms begin
abbrev pub ended_after : Option ℕ → Option StreamEnd → ℕ → Option ℕ
ended_after ended None now = ended
ended_after ended (Some end) now = Some now

abbrev pub end_to_tell : Progress → Option StreamEnd → ℕ → ℕ → Option StreamEnd
end_to_tell p end sent_to now = end_due p.ended end sent_to now

abbrev pub with_end_told : Progress → Option StreamEnd → ℕ → Progress
with_end_told p told now = record p { ended = ended_after p.ended told now }

abbrev pub is_nobody : Option Heard → Bool
is_nobody None = true
is_nobody (Some heard) = false

-- nobody was heard for five seconds, and that wasn't told yet
abbrev pub is_alone : Progress → Attendance → ℕ → Bool
is_alone p a now = not p.alone && (is_nobody a.present && nat_le 5000000000 now)

abbrev pub judged_by : Option Reading → Option ToldShortfall → Option Ending → Option Judged
judged_by reading line None = None
judged_by reading line (Some ending) = Some (record { ending = ending; reading = reading; told = line })
