use denote.Param.Send.{IsSync}
use Rattle.region.proofs.Threads.{emptied_sync}
use Rattle.region.specs.contracts.region.Emptied as C

pub sync : IsSync C.the_row
sync = emptied_sync
