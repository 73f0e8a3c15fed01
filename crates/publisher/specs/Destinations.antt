-- The destinations that a publisher begins with.
use Rattle.std.specs.Prelude.{◌≡◌, ◌<◌, ◌+◌, ◌%◌, ◌^◌, ◌&&◌, ℕ, ℤ, pos, negsuc, Bool, not, false, nat_le, nat_lt, is_some, if◌then◌else◌, List, [], ◌∷◌, length, count_by, slice_index_or, Option, None, Some}
use Rattle.std.specs.Int.{cast_signed, w64}
use Rattle.std.specs.declared.net.SocketAddr.{SocketAddr}
use Rattle.peer.specs.Ties.{Tied, hearing_anybody, tied_waiting}
use Rattle.endpoint.specs.declared.udp.Route.{Route}
use Rattle.options.specs.declared.ends.plans.PublishPlan.{PublishPlan}
use Rattle.publisher.specs.Beginnings.{device_of}
use Rattle.publisher.specs.Openings.{identity_of}
use Rattle.publisher.specs.Progress.{nothing_seen}
use Rattle.agents.specs.Duties.{Agent}
use Rattle.flow_control.specs.Stream.{flow_after}
use Rattle.flow_control.specs.declared.stream.StreamFlow.{StreamFlow}
use Rattle.publisher.specs.Endings.{heard_along}
use Rattle.publisher.specs.Seeing.{ChannelDestination}

-- its place among several, if it isn't the only one
abbrev pub place_of : ℕ → ℕ → Option ℕ
place_of many number = if nat_lt 1 many then Some number else None

-- there its id is its number
abbrev pub id_of : Option ℕ → Option ℤ
id_of None = None
id_of (Some number) = Some (pos number)

-- at this place and peer, over this device; nothing was seen of it yet
abbrev pub IsDestinationOf : {D : Type 0} → PublishPlan → Option ℕ → SocketAddr → D → ChannelDestination D → Type 0
IsDestinationOf p place peer device w = w ≡ record { device = device_of p place device; id = id_of place; peer = peer; before = record { nones = 0; lost = 0 }; progress = nothing_seen; silence = None; unheard = 0; quiet = false; behind = None; broken = false }

-- to whom a route leads
abbrev pub peer_of : Route → SocketAddr
peer_of route = route.peer

-- the socket along it: tied to its peer, it waits for the start of the plan's stream, and nothing has come or gone
abbrev pub socket_along : PublishPlan → Route → Tied
socket_along p route = tied_waiting hearing_anybody (peer_of route) (Some (record { sent = identity_of p; start = p.start }))

-- by its number the one along the route that stands there, over its socket
pub record IsAlong (p : PublishPlan) (routes : List Route) (number : ℕ) (w : ChannelDestination Tied) : Type 0 where
  pub route : Route
  pub stands : route ≡ slice_index_or routes number route
  pub is : IsDestinationOf p (place_of (length routes) number) (peer_of route) (socket_along p route) w

-- one along each route, in order
pub record AreDestinationsAlong (p : PublishPlan) (routes : List Route) (destinations : List (ChannelDestination Tied)) : Type 0 where
  pub many : length destinations ≡ length routes
  pub each : (number : ℕ) (d : ChannelDestination Tied) → number < length destinations → IsAlong p routes number (slice_index_or destinations number d)

-- ---- where the others begin without some

-- a destination but for its id
abbrev pub unnumbered : {D : Type 0} → ChannelDestination D → ChannelDestination D
unnumbered w = record w { id = None }

-- a sender that goes on by another flow control
abbrev pub with_flow : {R F : Type 0} → Agent R F → F → Agent R F
with_flow a flow = record a { core = record (a.core) { flow = flow } }

-- ---- with whom it begins then

-- somebody was heard there
abbrev pub is_heard_along : {D : Type 0} → ChannelDestination D → Bool
is_heard_along w = is_some (heard_along w).present

abbrev pub heard_count : {D : Type 0} → List (ChannelDestination D) → ℕ
heard_count destinations = count_by is_heard_along destinations

-- one where somebody was heard has this id, another that of no group
abbrev pub with_number : {D : Type 0} → ℕ → ChannelDestination D → ChannelDestination D
with_number next w = record w { id = Some (if is_heard_along w then cast_signed w64 next else negsuc 0) }

abbrev pub next_number : {D : Type 0} → ℕ → ChannelDestination D → ℕ
next_number next w = if is_heard_along w then (next + 1) % 2 ^ 64 else next

-- those where somebody was heard are numbered in order, from this number on
abbrev pub numbered_from : {D : Type 0} → ℕ → List (ChannelDestination D) → List (ChannelDestination D)
numbered_from next [] = []
numbered_from next (w ∷ ws) = with_number next w ∷ numbered_from (next_number next w) ws

-- it begins now: it hasn't yet, the wait is over, somebody was heard, and so few that they can be a group, at a position of a stream
abbrev pub begins_now : Bool → ℕ → ℕ → ℕ → ℕ → Bool
begins_now begun wait now heard at = not begun && (nat_le wait now && (nat_lt 0 heard && (nat_le heard 8 && nat_lt at (2 ^ 63))))

-- with exactly those that were heard, where others weren't: their destinations get the ids from 0 on, and its flow control is that of a
-- group of as many
abbrev pub flow_with : {D : Type 0} → Bool → ℕ → List (ChannelDestination D) → StreamFlow → StreamFlow
flow_with begins at destinations flow = if begins && nat_lt (heard_count destinations) (length destinations) then flow_after (Some (heard_count destinations)) at [] else flow

abbrev pub destinations_with : {D : Type 0} → Bool → List (ChannelDestination D) → List (ChannelDestination D)
destinations_with begins destinations = if begins && nat_lt (heard_count destinations) (length destinations) then numbered_from 0 destinations else destinations
