-- Which text is which channel, and which fault is its first.
use Rattle.std.specs.Prelude.{◌≡◌, ◌≢◌, ◌==◌, ◌&&◌, ◌||◌, ℕ, ℤ, Bool, true, false, ◌⊎◌, List, [], ◌∷◌, ◌++◌, Option, Some, None, is_some, codes}
use Rattle.std.specs.List.{slice_split}
use Rattle.std.proofs.Common.{Bor}
use Rattle.channel.specs.declared.parameter.Parameter.{Parameter}
use Rattle.std.specs.declared.net.IpAddr.{IpAddr}
use Rattle.std.specs.Net.Addr.{is_ipv4, is_ipv6}
use Rattle.channel.specs.declared.endpoint.Endpoint.{Endpoint}
use Rattle.channel.specs.declared.host.Host.{Host}
use Rattle.channel.specs.declared.host.Host.TheVariants.{Address, Name}
use Rattle.channel.specs.declared.settings.Settings.{Settings}
use Rattle.channel.specs.declared.parts.Parts.{Parts}
use Rattle.channel.specs.declared.channel.Channel.{Channel}
use Rattle.channel.specs.declared.channel.Start.{Start}
use Rattle.channel.specs.declared.channel.Transport.{Transport}
use Rattle.channel.specs.declared.fault.ChannelFault.{ChannelFault}
use Rattle.channel.specs.declared.fault.ChannelFault.TheVariants.{Prefix, Part, Unknown, Repeated, Value, NoEndpoint, Families, Ttl, Apart}
use Rattle.channel.specs.Bytes.{Lacks}
use Rattle.channel.specs.Hosts.{is_of_many}
use Rattle.channel.specs.Settings.{name_of, HasNoValue, is_set, nothing, Sets}

-- what stands between the `|` of a text
abbrev pub parts : List ℕ → List (List ℕ)
parts text = slice_split (λ b. b == 124) text

abbrev pub parts_in : Option (Bor (List ℕ)) → List (List ℕ)
parts_in None = []
parts_in (Some rest) = parts rest.now

abbrev pub parts_left : Parts → List (List ℕ)
parts_left reader = parts_in reader.rest

abbrev pub prefix : List ℕ
prefix = codes "aeron:udp?"

-- the three stand together or not at all
abbrev pub start_of : Option ℤ → Option ℤ → Option ℕ → Option (Option Start)
start_of (Some initial) (Some term) (Some offset) = Some (Some (record { initial_term_id = initial; term_id = term; term_offset = offset }))
start_of None None None = Some None
start_of (Some initial) (Some term) None = None
start_of (Some initial) None offset = None
start_of None (Some term) offset = None
start_of None None (Some offset) = None

-- ---- the families of addresses

-- the host is an address like this
abbrev pub host_is : (IpAddr → Bool) → Host → Bool
host_is like (Address a) = like a
host_is like (Name name) = false

-- there is an address like this
abbrev pub some_is : (IpAddr → Bool) → Option IpAddr → Bool
some_is like None = false
some_is like (Some a) = like a

abbrev pub names_ipv4 : Transport → Bool
names_ipv4 t = host_is is_ipv4 t.endpoint.host || some_is is_ipv4 t.interface

abbrev pub names_ipv6 : Transport → Bool
names_ipv6 t = host_is is_ipv6 t.endpoint.host || some_is is_ipv6 t.interface

-- an address of each family
abbrev pub is_mixed : Transport → Bool
is_mixed t = names_ipv4 t && names_ipv6 t

-- a time to live with an address of IPv6
abbrev pub has_lost_ttl : Transport → Bool
has_lost_ttl t = is_some t.ttl && names_ipv6 t

-- neither of these
pub record IsFit (t : Transport) : Type 0 where
  pub one_family : is_mixed t ≡ false
  pub no_lost_ttl : has_lost_ttl t ≡ false

-- the same to this address
abbrev pub to_address : Transport → IpAddr → Transport
to_address t a = record t { endpoint = record t.endpoint { host = Address a } }

-- the same to this address, which goes with what else is named
pub record IsToAddress (old : Transport) (a : IpAddr) (new : Transport) : Type 0 where
  pub is : new ≡ to_address old a
  pub fit : IsFit new
  pub of_one : is_of_many a ≡ false

-- the same to this endpoint
abbrev pub to_endpoint : Transport → Endpoint → Transport
to_endpoint t e = record t { endpoint = e }

-- the same to this endpoint, which goes with what else is named
pub record IsToEndpoint (old : Transport) (e : Endpoint) (new : Transport) : Type 0 where
  pub is : new ≡ to_endpoint old e
  pub fit : IsFit new

-- ---- a channel

-- to this endpoint, and else as it was set
abbrev pub transport_of : Settings → Endpoint → Transport
transport_of s e = record { endpoint = e; interface = s.interface; ttl = s.ttl }

-- the channel is what was set
pub record IsMadeOf (s : Settings) (c : Channel) : Type 0 where
  pub endpoint : s.endpoint ≡ Some c.transport.endpoint
  pub transport : c.transport ≡ transport_of s c.transport.endpoint
  pub fit : IsFit c.transport
  pub mtu : c.mtu ≡ s.mtu
  pub term_length : c.term_length ≡ s.term_length
  pub session_id : c.session_id ≡ s.session_id
  pub start : start_of s.initial_term_id s.term_id s.term_offset ≡ Some c.start

-- the text is this channel
pub record IsChannel (text : List ℕ) (c : Channel) : Type 0 where
  pub rest : List ℕ
  pub begins : text ≡ prefix ++ rest
  pub settings : Settings
  pub sets : Sets nothing (parts rest) settings
  pub made : IsMadeOf settings c

-- what is wrong with a part, behind others that have set this
abbrev pub IsPartFault : Settings → List ℕ → ChannelFault → Type 0
IsPartFault s part Prefix = ⊥
IsPartFault s part (Part whole) = (part ≡ whole.now) × Lacks 61 part
IsPartFault s part (Unknown name) = (value : List ℕ) × (part ≡ name.now ++ 61 ∷ value) × Lacks 61 name.now × ((p : Parameter) → name.now ≢ name_of p)
IsPartFault s part (Repeated p) = (value : List ℕ) × (part ≡ name_of p ++ 61 ∷ value) × (is_set s p ≡ true)
IsPartFault s part (Value p value) = (part ≡ name_of p ++ 61 ∷ value.now) × (is_set s p ≡ false) × HasNoValue p value.now
IsPartFault s part NoEndpoint = ⊥
IsPartFault s part Families = ⊥
IsPartFault s part Ttl = ⊥
IsPartFault s part Apart = ⊥

-- what is wrong when all parts have set this
abbrev pub IsEndFault : Settings → ChannelFault → Type 0
IsEndFault s Prefix = ⊥
IsEndFault s (Part whole) = ⊥
IsEndFault s (Unknown name) = ⊥
IsEndFault s (Repeated p) = ⊥
IsEndFault s (Value p value) = ⊥
IsEndFault s NoEndpoint = s.endpoint ≡ None
IsEndFault s Families = (e : Endpoint) × (s.endpoint ≡ Some e) × (is_mixed (transport_of s e) ≡ true)
IsEndFault s Ttl = (e : Endpoint) × (s.endpoint ≡ Some e) × (is_mixed (transport_of s e) ≡ false) × (has_lost_ttl (transport_of s e) ≡ true)
IsEndFault s Apart =
    (e : Endpoint) × (s.endpoint ≡ Some e) × (is_mixed (transport_of s e) ≡ false) × (has_lost_ttl (transport_of s e) ≡ false)
    × (start_of s.initial_term_id s.term_id s.term_offset ≡ None)

-- the parts before this one set something, and this one is wrong
pub record IsFaultAmong (all : List (List ℕ)) (fault : ChannelFault) : Type 0 where
  pub before : List (List ℕ)
  pub part : List ℕ
  pub behind : List (List ℕ)
  pub cut : all ≡ before ++ part ∷ behind
  pub settings : Settings
  pub sets : Sets nothing before settings
  pub wrong : IsPartFault settings part fault

pub record IsFaultAtEnd (all : List (List ℕ)) (fault : ChannelFault) : Type 0 where
  pub settings : Settings
  pub sets : Sets nothing all settings
  pub wrong : IsEndFault settings fault

-- the first fault of the text, from the left
abbrev pub IsFirstFault : List ℕ → ChannelFault → Type 0
IsFirstFault text fault =
    ((fault ≡ Prefix) × ((rest : List ℕ) → text ≢ prefix ++ rest))
    ⊎ ((rest : List ℕ) × (text ≡ prefix ++ rest) × (IsFaultAmong (parts rest) fault ⊎ IsFaultAtEnd (parts rest) fault))
