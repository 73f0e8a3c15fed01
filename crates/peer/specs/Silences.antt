-- Since when something didn't happen.
use Rattle.std.specs.Prelude.{ℕ, ◌-◌, Bool, nat_eq, if◌then◌else◌, Option, None, Some}
use Rattle.peer.specs.declared.silence.Silence.{Silence}

abbrev pub never : Silence
never = record { count = 0; since = 0 }

-- where the count is another, it is the one of this moment
abbrev pub seen_at : Silence → ℕ → ℕ → Silence
seen_at s count now = if nat_eq count s.count then s else record { count = count; since = now }

abbrev pub judged : Silence → Bool → ℕ → Option ℕ
judged s at_rest now = if at_rest then Some (now - s.since) else None
