use denote.Param.Send.{IsSync}
use Rattle.region.specs.contracts.loan.Loan as C

pub sync : IsSync C.the_row
sync = record { shared = λ s b o κ. tt }
