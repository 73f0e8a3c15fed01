use Rattle.std.proofs.Common.{◌≡◌, ◌<◌, ℕ, get_or, length}
use Rattle.peer.specs.Ties.{Tied}
use Rattle.publisher.specs.Destinations.{IsAlong}
use Rattle.publisher.specs.Seeing.{ChannelDestination}
use Rattle.publisher.proofs.channel_publisher.destinations_along.Given as goal

abbrev pub invariant-loop-route : goal.invariant-loop-route
invariant-loop-route g l = record {
  many : length l.destinations.items ≡ l.route-index;
  each : (k : ℕ) (d : ChannelDestination Tied) → k < l.route-index → IsAlong l.plan l.routes k (get_or l.destinations.items k d);
}
