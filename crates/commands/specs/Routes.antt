-- Where an end's socket is bound, and to whom it sends.
use Rattle.std.specs.Prelude.{◌≡◌, ◌≢◌, ◌<◌, false, length, slice_index_or, All, ◌++◌, ⊤, ℕ, List, [], ◌∷◌, codes, Option, None, Some}
use Rattle.std.specs.Net.Addr.{IsUnspecifiedV4, IsUnspecifiedV6, IsV4And, IsV6And, MatchIp}
use Rattle.std.specs.Net.Socket.{IsPlainSocket, socket_ip, socket_port}
use Rattle.std.specs.declared.net.IpAddr.{IpAddr}
use Rattle.std.specs.declared.net.SocketAddr.{SocketAddr}
use Rattle.channel.specs.Channels.{IsFit, to_address}
use Rattle.channel.specs.Hosts.{IsName, IsNamed, is_of_many}
use Rattle.channel.specs.declared.channel.Transport.{Transport}
use Rattle.channel.specs.declared.host.Host.{Host}
use Rattle.channel.specs.declared.host.Host.TheVariants.{Address, Name}
use Rattle.endpoint.specs.declared.udp.Binding.{Binding}
use Rattle.endpoint.specs.declared.udp.Route.{Route}
use Rattle.commands.specs.declared.route.RouteFault.{RouteFault}
use Rattle.commands.specs.declared.route.RouteFault.TheVariants.{Unknown, Twice, Memory}
use Rattle.std.specs.Net.Text.{socket_text}
use Rattle.peer.specs.Texts.{joined}

-- this address and port, and nothing else
pub record IsAt (a : IpAddr) (port : ℕ) (s : SocketAddr) : Type 0 where
  pub address : socket_ip s ≡ a
  pub plain : IsPlainSocket s port

-- at the endpoint's port an address of one host that goes with what else the channel names
pub record IsFound (t : Transport) (s : SocketAddr) : Type 0 where
  pub port : socket_port s ≡ t.endpoint.port
  pub fit : IsFit (to_address t (socket_ip s))
  pub of_one : is_of_many (socket_ip s) ≡ false

-- the endpoint's own address, or one that was found for its name
abbrev pub IsPeer : Transport → Host → SocketAddr → Type 0
IsPeer t (Address a) s = IsAt a t.endpoint.port s
IsPeer t (Name n) s = IsFound t s

-- what a user reads of the address to which a name has led
abbrev pub found_line : List ℕ → SocketAddr → List ℕ
found_line name peer = joined (name ∷ codes " is " ∷ socket_text peer ∷ codes "\n" ∷ [])

-- a line is told of a name, and of an address none
abbrev pub TellsFound : Host → SocketAddr → (List ℕ → Type 0) → Type 0 → Type 0
TellsFound (Address a) peer Told Quiet = Quiet
TellsFound (Name n) peer Told Quiet = (name : List ℕ) → IsNamed name n → IsName name → Told (found_line name peer)

-- 0.0.0.0 or ::, by the other's family
abbrev pub IsAnyAddress : IpAddr → IpAddr → Type 0
IsAnyAddress peer a = MatchIp peer (λ _. IsV4And a IsUnspecifiedV4) (λ _. IsV6And a IsUnspecifiedV6)

-- the interface, or any address
abbrev pub IsSource : Option IpAddr → IpAddr → IpAddr → Type 0
IsSource (Some interface) peer a = a ≡ interface
IsSource None peer a = IsAnyAddress peer a

-- a publisher's: a port that the system chooses, and the channel's time to live
pub record IsRouteOf (t : Transport) (peer : SocketAddr) (r : Route) : Type 0 where
  pub peer_is : r.peer ≡ peer
  pub ttl : r.binding.ttl ≡ t.ttl
  pub source : IsSource t.interface (socket_ip peer) (socket_ip r.binding.address)
  pub any_port : IsPlainSocket r.binding.address 0

-- to its endpoint's own address, or one that was found for its name
pub record IsRouteAlong (t : Transport) (r : Route) : Type 0 where
  pub peer : SocketAddr
  pub found : IsPeer t t.endpoint.host peer
  pub is : IsRouteOf t peer r

-- along each way one, in order
abbrev pub AreRoutesAlong : List Transport → List Route → Type 0
AreRoutesAlong [] [] = ⊤
AreRoutesAlong [] (r ∷ rs) = ⊥
AreRoutesAlong (t ∷ ts) [] = ⊥
AreRoutesAlong (t ∷ ts) (r ∷ rs) = IsRouteAlong t r × AreRoutesAlong ts rs

-- no address was found
abbrev pub IsUnknown : RouteFault → Type 0
IsUnknown (Unknown name) = ⊤
IsUnknown (Twice peer) = ⊥
IsUnknown Memory = ⊥

-- what a user reads where there are none
abbrev pub route_text : RouteFault → List ℕ
route_text (Unknown name) = codes "no address of " ++ name.now ++ codes " was found"
route_text (Twice peer) = joined (codes "to: " ∷ socket_text peer ∷ codes " stands twice" ∷ [])
route_text Memory = codes "memory"

-- one of these leads to this peer
pub record LeadsThere (routes : List Route) (peer : SocketAddr) : Type 0 where
  pub number : ℕ
  pub within : number < length routes
  pub there : (d : Route) → (slice_index_or routes number d).peer ≡ peer

abbrev pub LeadsAway : SocketAddr → Route → Type 0
LeadsAway peer route = route.peer ≢ peer

-- none does
abbrev pub LeadElsewhere : List Route → SocketAddr → Type 0
LeadElsewhere routes peer = All (LeadsAway peer) routes

-- no two lead to one peer
abbrev pub ArePeersApart : List Route → Type 0
ArePeersApart routes = (i j : ℕ) (d : Route) → i < j → j < length routes → (slice_index_or routes i d).peer ≢ (slice_index_or routes j d).peer

-- at the interface and the endpoint's port, or at the endpoint's own address
abbrev pub IsHearing : Option IpAddr → SocketAddr → SocketAddr → Type 0
IsHearing (Some interface) endpoint s = IsAt interface (socket_port endpoint) s
IsHearing None endpoint s = s ≡ endpoint

-- a subscriber's
pub record IsBindingOf (t : Transport) (endpoint : SocketAddr) (b : Binding) : Type 0 where
  pub address : IsHearing t.interface endpoint b.address
  pub ttl : b.ttl ≡ t.ttl
