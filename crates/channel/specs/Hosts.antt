-- Which text spells which host.
use Rattle.std.specs.Prelude.{◌≡◌, ◌≤◌, ◌⊎◌, ◌==◌, ◌&&◌, ◌||◌, ℕ, ◌-◌, ◌/◌, Bool, true, false, List, [], ◌∷◌, ◌++◌, length, take, replicate, slice_index, bytes_eq, codes}
use Rattle.std.specs.List.{list_all}
use Rattle.std.specs.Char.{is_ascii_alphanumeric, is_ascii_digit}
use Rattle.std.specs.Net.Addr.{ipv4_octets, ipv6_segments}
use Rattle.std.specs.Net.Grammar.{IsIpv4Text, IsIpv6Text}
use Rattle.std.specs.declared.net.IpAddr.{IpAddr}
use Rattle.std.specs.declared.net.IpAddr.TheVariants as addresses
use Rattle.std.specs.declared.net.Ipv6Addr.{Ipv6Addr}
use Rattle.channel.specs.Bytes.{Lacks}
use Rattle.channel.specs.declared.host.Host.{Host}
use Rattle.channel.specs.declared.host.Name.{Name as AnyName}
use Rattle.channel.specs.declared.host.Host.TheVariants.{Address, Name}

-- ---- an address

abbrev pub bracketed : List ℕ → List ℕ
bracketed inner = 91 ∷ inner ++ 93 ∷ []

-- an IPv6 address in brackets
pub record IsBracketed (text : List ℕ) (a : Ipv6Addr) : Type 0 where
  pub inner : List ℕ
  pub cut : text ≡ bracketed inner
  pub spells : IsIpv6Text inner a

-- four numbers and three dots, or an IPv6 address in brackets
abbrev pub Spells : List ℕ → IpAddr → Type 0
Spells text (addresses.V4 a) = IsIpv4Text text a
Spells text (addresses.V6 a) = IsBracketed text a

-- multicast, 224.0.0.0/4 and ff00::/8, or broadcast, 255.255.255.255
abbrev pub is_of_many : IpAddr → Bool
is_of_many (addresses.V4 a) = (slice_index (ipv4_octets a) 0 / 16 == 14) || bytes_eq (ipv4_octets a) (255 ∷ 255 ∷ 255 ∷ 255 ∷ [])
is_of_many (addresses.V6 a) = slice_index (ipv6_segments a) 0 / 256 == 255

-- an address of one host
pub record IsAddress (text : List ℕ) (a : IpAddr) : Type 0 where
  pub spelled : Spells text a
  pub of_one : is_of_many a ≡ false

-- ---- a name

-- a letter, a digit, a hyphen, a dot or an underscore
abbrev pub is_name_byte : ℕ → Bool
is_name_byte b = is_ascii_alphanumeric b || (b == 45) || (b == 46) || (b == 95)

-- what stands behind the last dot of a text, or all of it
pub record IsLastLabel (text label : List ℕ) : Type 0 where
  pub lacks : Lacks 46 label
  pub cut : (text ≡ label) ⊎ ((front : List ℕ) × (text ≡ front ++ 46 ∷ label))

-- at most 253 such bytes, of which those behind the last dot aren't digits alone
pub record IsName (text : List ℕ) : Type 0 where
  pub few : length text ≤ 253
  pub bytes : list_all is_name_byte text ≡ true
  pub no_number : (label : List ℕ) → IsLastLabel text label → list_all is_ascii_digit label ≡ false

-- ---- a host

-- the bytes of the text, and zeros up to 253
pub record IsNamed (text : List ℕ) (n : AnyName) : Type 0 where
  pub size : n.length ≡ length text
  pub bytes : n.bytes ≡ text ++ replicate (253 - length text) 0

abbrev pub IsHost : List ℕ → Host → Type 0
IsHost text (Address a) = IsAddress text a
IsHost text (Name name) = IsNamed text name × IsName text

-- 127.0.0.0/8 and ::1
abbrev pub is_here_at : IpAddr → Bool
is_here_at (addresses.V4 a) = slice_index (ipv4_octets a) 0 == 127
is_here_at (addresses.V6 a) = bytes_eq (ipv6_segments a) (0 ∷ 0 ∷ 0 ∷ 0 ∷ 0 ∷ 0 ∷ 0 ∷ 1 ∷ [])

abbrev pub is_localhost : AnyName → Bool
is_localhost n = (n.length == 9) && bytes_eq (take 9 n.bytes) (codes "localhost")

-- this machine, by what is spelled
abbrev pub is_here : Host → Bool
is_here (Address a) = is_here_at a
is_here (Name name) = is_localhost name
