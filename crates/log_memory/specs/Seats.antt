-- Seats that are dealt and joined, by what they know of the stream.
use Rattle.std.specs.Prelude.{[]}
use Rattle.log_rule.specs.declared.claims.view.View.{View}
use Rattle.log_memory.specs.declared.view.LogView.{LogView}
use Rattle.log_memory.specs.Rule.{no_part}

-- a seat has another view of the stream
abbrev pub viewing : (View → View) → LogView → LogView
viewing f v = record v { view = f v.view }

-- a new one knows what was taken back as the first does, and has no part of a frame
abbrev pub dealt_with : (View → View) → LogView → LogView
dealt_with f v = record { view = f v.view; part = no_part; room = v.room; parked = [] }

-- of two, one has what both have, and the other's room that is at home
abbrev pub joining : (View → View → View) → LogView → LogView → LogView
joining f v w = record v { view = f v.view w.view; parked = w.parked }

abbrev pub spent_with : View → LogView
spent_with v = record { view = v; part = no_part; room = record { freed = 0; out = 0 }; parked = [] }
