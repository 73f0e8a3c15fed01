-- What the readers of lines and words have still to give, and the shape that was read.
use Rattle.std.specs.Prelude.{ℕ, List, [], Option, Some, None}
use Rattle.std.proofs.Common.{Bor}
use Rattle.script.specs.declared.line.Shape.{Shape}
use Rattle.script.specs.declared.pieces.Lines.{Lines}
use Rattle.script.specs.declared.pieces.Words.{Words}
use Rattle.script.specs.Pieces.{lines, words}
use Rattle.script.specs.Reading.{ShapeContent}

abbrev pub lines_left : Lines → List (List ℕ)
lines_left reader = lines reader.rest.now

abbrev pub words_in : Option (Bor (List ℕ)) → List (List ℕ)
words_in None = []
words_in (Some rest) = words rest.now

abbrev pub words_left : Words → List (List ℕ)
words_left reader = words_in reader.rest

abbrev pub shaped : Shape → ShapeContent
shaped s = record { term_length = s.term_length; mtu = s.mtu; initial_term_id = s.initial_term_id; start = s.start }
