use Rattle.std.proofs.Common.{◌≤◌, ◌∙◌, subst, sym}
use Rattle.std.specs.Arc.{arc_value}
use Rattle.theory.specs.Position.{IsGeometry, max_position}
use Rattle.image.specs.Rebuilding.{Inserting, geometry_of}
use Rattle.receiver.proofs.Shown.{answer_low, gap_shown}
use Rattle.receiver.proofs.Rooms.{open_same}
use Rattle.receiver.proofs.opened.OpenImage.find_gap.Goals as goal

pub returns-clause-first : goal.returns-clause-first
returns-clause-first c = rw (← c.self.view_is) (λ o shown. c.first_gap.ensures.value ∙ gap_shown c.self.inside.inserter o shown)

pub returns-clause-low : goal.returns-clause-low
returns-clause-low c =
    let i = c.self.inside.inserter in
    let low : i.high ≤ max_position (geometry_of i) = subst (λ x. x ≤ max_position (geometry_of i)) c.high_water.ensures.value c.high_water.ensures.low in
    let legal : IsGeometry (geometry_of i) = subst (λ (x : Inserting). IsGeometry (geometry_of x)) (sym c.self.view_is) (subst IsGeometry c.geometry.ensures.value c.geometry.ensures.legal) in
    rw (← c.self.view_is) (answer_low (geometry_of i) i.stored i.high c.rebuilt.result c.first_gap.result legal low (c.first_gap.ensures.gap c.rebuilt.result c.rebuilt.ensures.value))

pub invariant_of-self : goal.invariant_of-self
invariant_of-self c = open_same (arc_value c.self.inside.image) c.self.inside.inserter c.first_gap.new.inserter c.self.inside.room c.self.invariant c.first_gap.ensures.same
