use Rattle.image.specs.Drafted.{drafted}
use Rattle.image.proofs.inserter.storing.mark.Given as goal

abbrev pub ghosts-set_first_as : goal.ghosts-set_first_as
ghosts-set_first_as a = record { site = a.image.now.table.shared.key; frame = drafted a.draft.now; unit = a.draft.now.unit; place = a.place }
