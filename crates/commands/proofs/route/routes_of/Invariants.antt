use Rattle.std.proofs.Common.{◌≡◌, length, take}
use Rattle.commands.specs.Routes.{ArePeersApart, AreRoutesAlong}
use Rattle.commands.proofs.route.routes_of.Given as goal

abbrev pub invariant-loop-way : goal.invariant-loop-way
invariant-loop-way g l = record { routes : AreRoutesAlong (take l.way-index l.ways) l.routes.items; many : length l.routes.items ≡ l.way-index; apart : ArePeersApart l.routes.items }
