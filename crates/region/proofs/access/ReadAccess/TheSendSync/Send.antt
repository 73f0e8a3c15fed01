use denote.Param.Send.{IsSend, owning_send}
use Rattle.region.proofs.Threads.{read_keyless}
use Rattle.region.specs.contracts.access.ReadAccess as C

pub send : IsSend C.the_row
send = owning_send C.the_type tt (λ r. read_keyless r.round r.identity r.at r.items r.count) (λ k x w. tt)
