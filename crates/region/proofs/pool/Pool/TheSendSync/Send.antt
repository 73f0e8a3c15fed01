use denote.Param.Send.{IsSend, owning_send}
use Rattle.region.proofs.Threads.{pooled_keyless}
use Rattle.region.specs.contracts.pool.Pool as C

pub send : IsSend C.the_row
send = owning_send C.the_type tt (λ p. pooled_keyless p.identity.life p.identity.block p.identity.names p.free p.identity.first) (λ k x w. tt)
