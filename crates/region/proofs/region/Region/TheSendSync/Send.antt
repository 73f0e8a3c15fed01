use denote.Param.Send.{IsSend}
use Rattle.region.proofs.Threads.{region_send}
use Rattle.region.specs.contracts.region.Region as C

pub send : IsSend C.the_row
send = region_send
