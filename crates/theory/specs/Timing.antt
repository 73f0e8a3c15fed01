-- Moments and deadlines, in nanoseconds: when a gap is told, and when a SETUP, a heartbeat and a status message are due.
use Rattle.std.specs.Prelude.{ℕ, ◌+◌, ◌-◌, ◌*◌, ◌^◌, Bool, true, false, not, ◌&&◌, ◌||◌, min, max, nat_eq, nat_le, if◌then◌else◌, Option, None, Some, List, [], ◌∷◌}
use Rattle.theory.specs.Gap.{Gap}

-- a deadline that would pass the greatest moment is that moment
abbrev pub deadline : ℕ → ℕ → ℕ
deadline from span = min (from + span) (2 ^ 64 - 1)

-- a moment smaller than one that was seen counts as the one seen
abbrev pub seen : ℕ → ℕ → ℕ
seen clock now = max clock now

-- a span has passed since the last of these moments, which are newest first; where there is none it has
abbrev pub has_passed : ℕ → List ℕ → ℕ → Bool
has_passed span [] now = true
has_passed span (last ∷ before) now = nat_le (deadline last span) now

-- ---- a sender

-- of the moments of the cycles that sent SETUP: at the first cycle, and each 100 ms until a status message that doesn't ask has come
abbrev pub is_setup_due : List ℕ → Bool → ℕ → Bool
is_setup_due [] heard now = true
is_setup_due (last ∷ before) heard now = not heard && has_passed 100000000 (last ∷ before) now

-- of the moments of the datagrams of data and padding and of the heartbeats: 100 ms after the last, once such a status message has come; asked only in a cycle that sends nothing else
abbrev pub is_heartbeat_due : List ℕ → Bool → ℕ → Bool
is_heartbeat_due sent heard now = heard && has_passed 100000000 sent now

-- ---- a receiver

-- the status message that went out last: when, and the position that it named
pub record LastStatus : Type 0 where
  pub now : ℕ
  pub position : ℕ

-- of the status messages that went out, newest first: at the first tick; then when 200 ms have passed, or the least position has moved by a quarter of the window
abbrev pub is_status_due : List LastStatus → ℕ → ℕ → ℕ → Bool
is_status_due [] window least now = true
is_status_due (last ∷ before) window least now = nat_le (deadline last.now 200000000) now || nat_le window (4 * (least - last.position))

-- ---- the loss detector

-- the greatest moment seen, the start of the gap that is active, and when it is told
pub record Watch : Type 0 where
  pub clock : ℕ
  pub active : Option ℕ
  pub deadline : ℕ

pub record Scanned : Type 0 where
  pub watch : Watch
  pub told : Option Gap

abbrev pub in_a_millisecond : ℕ → ℕ
in_a_millisecond now = deadline now 1000000

abbrev pub is_active : Option ℕ → ℕ → Bool
is_active None p = false
is_active (Some q) p = nat_eq q p

-- a new gap is watched and not told; the same one is told at its deadline, with its present length; without a gap nothing is active
abbrev pub scanned : Watch → ℕ → Option Gap → Scanned
scanned w now None = record { watch = record { clock = now; active = None; deadline = 0 }; told = None }
scanned w now (Some gap) =
    if is_active w.active gap.start
    then (if nat_le w.deadline now then record { watch = record { clock = now; active = Some gap.start; deadline = in_a_millisecond now }; told = Some gap } else record { watch = record w { clock = now }; told = None })
    else record { watch = record { clock = now; active = Some gap.start; deadline = in_a_millisecond now }; told = None }

abbrev pub scan : Watch → ℕ → Option Gap → Scanned
scan w now gap = scanned w (seen w.clock now) gap
