-- The words that threads store to compare with.
use Rattle.std.specs.Prelude.{ℕ, Option, vec_len}
use Rattle.speed.specs.Laps.{Span, span_of}
use Rattle.speed.specs.declared.rounds.storing.Row.{Row}

abbrev pub row_length : Row → ℕ
row_length row = vec_len row.words

abbrev pub row_span : Row → Option Span
row_span row = span_of row.lap
