-- When threads began their work and when they ended it.
use Rattle.std.specs.Prelude.{◌≡◌, ◌⊎◌, ℕ, ◌-◌, ◌≤◌, max, min, List, [], Option, None, Some, Result, Ok, Err}
use Rattle.std.specs.List.{AllByRecursion}
use Rattle.std.specs.Time.{instant_nanos}
use Rattle.std.specs.declared.time.Instant.{Instant}
use Rattle.theory.specs.Placed.{Among}

-- from one moment to another, in nanoseconds of one clock
pub record Span : Type 0 where
  pub began : ℕ
  pub ended : ℕ

abbrev pub span_from : Instant → Instant → Span
span_from began ended = record { began = instant_nanos began; ended = instant_nanos ended }

-- what a lap tells, if the clock could be read at both of its ends
abbrev pub span_of : Option (Instant × Instant) → Option Span
span_of None = None
span_of (Some lap) = Some (span_from lap.0 lap.1)

-- by what the clock was read at
abbrev pub span_read : {E : Type 0} → Result Instant E → Result Instant E → Option Span
span_read (Ok began) (Ok ended) = Some (span_from began ended)
span_read (Ok began) (Err e) = None
span_read (Err e) ended = None

-- from the earlier begin of two to the later end
abbrev pub joined_span : Option Span → Option Span → Option Span
joined_span None other = None
joined_span (Some one) None = None
joined_span (Some one) (Some other) = Some (record { began = min one.began other.began; ended = max one.ended other.ended })

abbrev pub nanos_in : Span → ℕ
nanos_in s = s.ended - s.began

-- it is known, begins then or later, and ends then or before
abbrev pub IsWithin : Span → Option Span → Type 0
IsWithin whole None = ⊥
IsWithin whole (Some s) = (whole.began ≤ s.began) × (s.ended ≤ whole.ended)

-- of some spans, each known: from the least of their begins to the greatest of their ends
pub record IsFromFirstToLast (spans : List (Option Span)) (whole : Span) : Type 0 where
  pub all : AllByRecursion (IsWithin whole) spans
  pub first : Span
  pub first_among : Among (Some first) spans
  pub begins : whole.began ≡ first.began
  pub last : Span
  pub last_among : Among (Some last) spans
  pub ends : whole.ended ≡ last.ended

-- there is none where there are no spans, or one of them isn't known
abbrev pub IsWhole : List (Option Span) → Option Span → Type 0
IsWhole spans None = (spans ≡ []) ⊎ Among None spans
IsWhole spans (Some whole) = IsFromFirstToLast spans whole
