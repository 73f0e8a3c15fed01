use Rattle.image_rule.specs.Reads.{no_frame}
use Rattle.image.specs.Drafted.{drafted}
use Rattle.image.proofs.inserter.storing.store.Given as goal

abbrev pub ghosts-take_as : goal.ghosts-take_as
ghosts-take_as a = record { site = a.image.now.table.shared.key; frame = no_frame; unit = a.unit; place = 0 }

abbrev pub ghosts-deal_parts : goal.ghosts-deal_parts
ghosts-deal_parts a = record { site = a.image.now.table.shared.key; frame = drafted a.draft.now; round = a.whole.round.life; book = a.whole.round.book }
