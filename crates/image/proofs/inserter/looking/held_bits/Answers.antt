use Rattle.image.specs.Handles.{InserterSeat}
use Rattle.image.proofs.Resting.{seat_of}
use Rattle.image.proofs.Looks.{on_units}
use Rattle.image.proofs.inserter.looking.held_bits.Goals as goal

pub returns-clause-units : goal.returns-clause-units
returns-clause-units c = let n : InserterSeat = seat_of c.inserter.inside in on_units n c.args.inserter.now c.args.index c.fetch_as.result c.inserter.view_is c.inserter.invariant.inserting c.fetch_as.ensures.told.0
