use Rattle.std.proofs.Common.{ℕ, ◌<◌, get_or}
use Rattle.endpoint.specs.declared.udp.Route.{Route}
use Rattle.commands.specs.Routes.{LeadsAway}
use Rattle.commands.proofs.route.is_led.Given as goal

-- none of those that were looked at leads there
abbrev pub invariant-loop-route : goal.invariant-loop-route
invariant-loop-route l = (k : ℕ) (d : Route) → k < l.route-index → LeadsAway l.peer (get_or l.routes k d)
