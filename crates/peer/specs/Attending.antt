-- What a status message makes of the receivers that were heard.
use Rattle.std.specs.Prelude.{ℕ, ℤ, ◌+◌, ◌-◌, ◌^◌, max, min, List, [], ◌∷◌, Option, None, Some, if◌then◌else◌}
use Rattle.std.specs.Ordering.{int_eq}
use Rattle.peer.specs.declared.attendance.Heard.{Heard}
use Rattle.peer.specs.declared.attendance.Attendance.{Attendance}

abbrev pub nobody : ℕ → Attendance
nobody start = record { start = start; present = None; left = None; changes = 0 }

abbrev pub newcomer : ℤ → ℕ → Heard
newcomer receiver position = record { receiver = receiver; first = position; last = position }

-- the same one has told this, too
abbrev pub told_more : Attendance → Heard → ℕ → Attendance
told_more a heard position = record a { present = Some (record heard { last = max heard.last position }) }

-- another one has come
abbrev pub changed : Attendance → Heard → ℤ → ℕ → Attendance
changed a heard receiver position = record a { present = Some (newcomer receiver position); left = Some heard; changes = min (a.changes + 1) (2 ^ 64 - 1) }

abbrev pub after_heard : Attendance → Heard → ℤ → ℕ → Attendance
after_heard a heard receiver position = if int_eq heard.receiver receiver then told_more a heard position else changed a heard receiver position

abbrev pub after_status_from : Option Heard → Attendance → ℤ → ℕ → Attendance
after_status_from None a receiver position = record a { present = Some (newcomer receiver position) }
after_status_from (Some heard) a receiver position = after_heard a heard receiver position

-- a status message of this receiver, which told this position
abbrev pub after_status : Attendance → ℤ → ℕ → Attendance
after_status a receiver position = after_status_from a.present a receiver position

-- the first and the later messages, each with its receiver and its position
abbrev pub after_all : Attendance → List (ℤ × ℕ) → Attendance
after_all a [] = a
after_all a (m ∷ ms) = after_all (after_status a m.0 m.1) ms
