-- What was told, what of it was shown, and what is shown for a line.
use Rattle.std.specs.Prelude.{◌≡◌, ◌≢◌, ℕ, ◌+◌, ◌-◌, ◌^◌, min, nat_eq, List, [], ◌∷◌, ◌++◌, Option, None, Some, codes, decimal, if◌then◌else◌}

pub record Told : Type 0 where
  -- the line that was shown last
  pub last : Option (List ℕ)
  -- how often it was told again since
  pub repeats : ℕ
  -- how many other lines found no room since
  pub lost : ℕ

abbrev pub nothing_told : Told
nothing_told = record { last = None; repeats = 0; lost = 0 }

-- the line that was shown last; an empty line parts what stands before it from what stands behind
abbrev pub IsRepeat : Told → List ℕ → Type 0
IsRepeat t line = (t.last ≡ Some line) × (line ≢ [])

-- one more, or the greatest of 64 bits
abbrev pub counted : ℕ → ℕ
counted n = min (n + 1) (2 ^ 64 - 1)

abbrev pub with_repeat : Told → Told
with_repeat t = record t { repeats = counted t.repeats }

abbrev pub with_lost : Told → Told
with_lost t = record t { lost = counted t.lost }

abbrev pub with_shown : Told → List ℕ → Told
with_shown t line = record { last = Some line; repeats = 0; lost = 0 }

abbrev pub repeats_text : ℕ → List ℕ
repeats_text n = if nat_eq n 0 then [] else codes "the line above came " ++ decimal n ++ codes " more times" ++ 10 ∷ []

abbrev pub lost_text : ℕ → List ℕ
lost_text n = if nat_eq n 0 then [] else decimal n ++ codes " lines were lost: the error output was full" ++ 10 ∷ []

abbrev pub notices_text : ℕ → ℕ → List ℕ
notices_text repeats lost = repeats_text repeats ++ lost_text lost

-- for a line: what the counts tell, and the line
abbrev pub shown_text : Told → List ℕ → List ℕ
shown_text t line = notices_text t.repeats t.lost ++ line ++ 10 ∷ []
