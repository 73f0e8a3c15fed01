use denote.Param.Send.{IsSend, owning_send}
use Rattle.region.proofs.Threads.{closed_keyless}
use Rattle.region.specs.contracts.access.WriteAccess as C

pub send : IsSend C.the_row
send = owning_send C.the_type tt (λ w. closed_keyless w.identity.life _ w.items w.identity.block _) (λ k x w. tt)
