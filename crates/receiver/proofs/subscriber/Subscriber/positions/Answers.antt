use Rattle.std.proofs.Common.{◌≡◌, ◌≤◌, ◌∷◌, [], Some, arith, rules, ap, sym, ◌∙◌}
use Rattle.image.specs.Handles.{position_of}
use Rattle.receiver.proofs.Polled.{stands_below, tells}
use Rattle.receiver.proofs.subscriber.Subscriber.positions.Goals as goal

stands : (c : goal.After-high_water) → (c.in-Some.image.now.seen ≡ position_of c.in-Some-reader.reader ∷ []) × (position_of c.in-Some-reader.reader ≤ c.rebuilt.result)
stands c =
    let is : c.self.inside.core.image ≡ Some c.in-Some.image.now = search rules in
    stands_below c.self.inside.core.image c.self.inside.reader c.in-Some.image.now c.in-Some-reader.reader c.rebuilt.result c.self.invariant.1 is c.in-Some-reader.is c.rebuilt.ensures.behind

pub returns-clause-told : goal.returns-clause-told
returns-clause-told c =
    let is : c.self.inside.core.image ≡ Some c.in-Some.image.now = search rules in
    rw (← c.self.view_is) (λ r s. tells _ c.in-Some.image.now c.position.result c.rebuilt.result c.high_water.result r is ((stands c).0 ∙ ap (λ p. p ∷ []) (sym c.position.ensures)) c.rebuilt.ensures.value c.high_water.ensures.value s)

pub returns-clause-order : goal.returns-clause-order
returns-clause-order c =
    let low = (stands c).1 in
    (omega (arith, low, c.position.ensures), omega (arith, c.rebuilt.ensures.marked, c.high_water.ensures.value))
