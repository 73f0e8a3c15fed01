use denote.Param.Send.{IsSend, owning_send}
use Rattle.region.specs.contracts.access.RegionKey as C

pub send : IsSend C.the_row
send = owning_send C.the_type tt (λ k. tt) (λ k x w. tt)
