use denote.Param.Send.{IsSync}
use Rattle.region.proofs.Threads.{region_sync}
use Rattle.region.specs.contracts.region.Region as C

pub sync : IsSync C.the_row
sync = region_sync
