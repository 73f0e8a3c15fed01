use denote.Param.Send.{IsSync, struct_sync}
use denote.Struct.Owning.{shape}
use Rattle.region.proofs.Threads.{shares_keyless}
use Rattle.region.specs.contracts.access.ReadAccess as C

pub sync : IsSync C.the_row
sync = record { shared = λ r b o κ. ((struct_sync (shape C.the_type) tt).shared tt b o κ, shares_keyless r.round r.identity r.at r.items r.count κ) }
