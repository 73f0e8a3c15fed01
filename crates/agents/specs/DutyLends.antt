-- What a duty ends as, where its device was lent.
use Rattle.std.specs.Borrow.{Lends, Fml, RattleType, MutBor}
use Rattle.agents.specs.Cycles.{DutyState}
use Rattle.agents.specs.contracts.duty.Duty.{the_row}

module _ (D : RattleType) (s : MutBor (DutyState D.Denot)) where
  -- its device is the last one written through r
  abbrev pub lends_device : MutBor D.Denot → Fml
  lends_device r = Lends (the_row D) D s r (λ w. record s.now { device = w })
