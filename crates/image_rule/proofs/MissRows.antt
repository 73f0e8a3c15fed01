-- A look that finds no frame, computed.
use Rattle.std.proofs.Common.{◌≡◌, [], refl}
use Rattle.image_rule.specs.declared.view.View.{View}
use Rattle.image_rule.specs.Steps.{moved_to, with_known, with_miss}
use Rattle.image_rule.specs.Reads.{no_frame}
use Rattle.image_rule.specs.Rule.{empty_held, no_reading}

-- a reader at unit 5 that has missed twice
abbrev reader : View
reader = record { inserting = 0; held = empty_held; seen = []; looks = []; undealt = 0; reading = record no_reading { reads = 1; unit = 5; misses = 2 } }

-- it has missed a third time, and nothing else is different
miss_row : with_miss reader ≡ record reader { reading = record reader.reading { misses = 3 } }
miss_row = refl

-- what it finds and where it goes on to is no miss
known_row : (with_known reader no_frame).reading.misses ≡ 2
known_row = refl

moved_row : (moved_to reader 7).reading.misses ≡ 2
moved_row = refl
