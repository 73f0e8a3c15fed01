-- What a user reads of a fault.
use Rattle.std.specs.Prelude.{ℕ, List, ◌++◌, codes}
use Rattle.channel.specs.Settings.{name_of}
use Rattle.channel.specs.declared.parameter.Parameter.{Parameter}
use Rattle.channel.specs.declared.parameter.Parameter.TheVariants.{Endpoint, Interface, Ttl, Mtu, TermLength, SessionId, InitialTermId, TermId, TermOffset}
use Rattle.channel.specs.declared.fault.ChannelFault.{ChannelFault}
use Rattle.channel.specs.declared.fault.ChannelFault.TheVariants as faults
use Rattle.channel.specs.declared.fault.ChannelFault.TheVariants.{Prefix, Part, Unknown, Repeated, Value, NoEndpoint, Families, Apart}

-- which values a parameter takes
abbrev pub range_of : Parameter → List ℕ
range_of Endpoint = codes "an IPv4 address, an IPv6 address in brackets or a name, a colon and a port from 1 to 65535; no multicast or broadcast address"
range_of Interface = codes "an IPv4 address or an IPv6 address in brackets; no multicast or broadcast address"
range_of Ttl = codes "a whole number from 1 to 255"
range_of Mtu = codes "a multiple of 32 from 256 to an eighth of the term, at most 65504"
range_of TermLength = codes "a power of two from 65536 to 16777216, as 64k or 16m"
range_of SessionId = codes "a whole number of 32 bits"
range_of InitialTermId = codes "a whole number of 32 bits"
range_of TermId = codes "a whole number of 32 bits"
range_of TermOffset = codes "a multiple of 32 below the term's length"

abbrev pub text_of : ChannelFault → List ℕ
text_of Prefix = codes "channel: it doesn't begin with aeron:udp?"
text_of (Part part) = codes "channel: no name=value: " ++ part.now
text_of (Unknown name) = codes "channel: " ++ name.now ++ codes " isn't taken"
text_of (Repeated parameter) = codes "channel: " ++ name_of parameter ++ codes " stands twice"
text_of (Value parameter value) = codes "channel: " ++ name_of parameter ++ codes "=" ++ value.now ++ codes ": " ++ range_of parameter
text_of NoEndpoint = codes "channel: no endpoint=HOST:PORT"
text_of Families = codes "channel: endpoint and interface aren't both IPv4 or both IPv6"
text_of faults.Ttl = codes "channel: ttl is for IPv4 alone"
text_of Apart = codes "channel: init-term-id, term-id and term-offset stand together"
