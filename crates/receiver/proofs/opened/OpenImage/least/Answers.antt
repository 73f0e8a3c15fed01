use Rattle.receiver.proofs.Shown.{looks_once, sees_on, still_shown}
use Rattle.std.specs.Arc.{arc_value}
use Rattle.receiver.proofs.Rooms.{open_as}
use Rattle.receiver.proofs.opened.OpenImage.least.Goals as goal

pub returns-clause-shown : goal.returns-clause-shown
returns-clause-shown c = rw (← c.self.view_is) (λ o h. still_shown c.self.inside.inserter c.least.new.inserter o c.least.ensures.looked h)

pub returns-clause-sees : goal.returns-clause-sees
returns-clause-sees c = rw (← c.self.view_is) (sees_on c.self.inside.inserter c.least.new.inserter _ _ c.least.ensures.looked)

pub invariant_of-self : goal.invariant_of-self
invariant_of-self c =
    let s = sees_on c.self.inside.inserter c.least.new.inserter _ _ c.least.ensures.looked in
    open_as (arc_value c.self.inside.image) c.self.inside.inserter c.least.new.inserter c.self.inside.room c.self.invariant s.of s.key s.undealt

pub returns-clause-looks : goal.returns-clause-looks
returns-clause-looks c = rw (← c.self.view_is) (looks_once c.self.inside.inserter c.least.new.inserter _ _ c.least.ensures.looked)
