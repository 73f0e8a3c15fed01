-- What passes know, and how it changes.
use Rattle.std.specs.Prelude.{true, false, [], ◌∷◌}
use Rattle.counters.specs.declared.readings.Readings.{Readings}
use Rattle.counters.specs.declared.hand.Hand.{Hand}
use Rattle.counters.specs.Order.{zeros}

abbrev pub nobody : Hand
nobody = record { publishes = false; known = zeros; told = zeros; past = [] }

abbrev pub first_writer : Hand
first_writer = record { publishes = true; known = zeros; told = zeros; past = zeros ∷ [] }

abbrev pub teller : Hand → Hand
teller v = record { publishes = false; known = v.known; told = v.known; past = [] }

abbrev pub after_hearing : Hand → Hand → Hand
after_hearing v w = record v { told = w.known }

abbrev pub after_publishing : Hand → Readings → Hand
after_publishing v y = record v { known = y; past = y ∷ v.past }
