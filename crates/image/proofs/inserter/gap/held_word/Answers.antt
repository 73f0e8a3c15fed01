use Rattle.std.proofs.Common.{sym, subst}
use Rattle.image.specs.Looks.{TellsUnits}
use Rattle.image.specs.Handles.{InserterSeat}
use Rattle.image.specs.Rebuilding.{Inserting, IsRebuilding, geometry_of, inserting}
use Rattle.image.proofs.inserter.gap.held_word.Goals as goal

pub invariant_of-inserter : goal.invariant_of-inserter
invariant_of-inserter c = let n = c.inserter.inside in subst (λ (x : InserterSeat). IsRebuilding (inserting x n.window n.high_water) n.rebuilt) (sym c.held_bits.ensures.same) c.inserter.invariant

pub returns-clause-units : goal.returns-clause-units
returns-clause-units c = subst (λ (i : Inserting). TellsUnits (geometry_of i).term_length i.floor i.stored c.args.index c.held_bits.result) c.inserter.view_is c.held_bits.ensures.units
