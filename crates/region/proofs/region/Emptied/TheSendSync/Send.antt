use denote.Param.Send.{IsSend}
use Rattle.region.proofs.Threads.{emptied_send}
use Rattle.region.specs.contracts.region.Emptied as C

pub send : IsSend C.the_row
send = emptied_send
