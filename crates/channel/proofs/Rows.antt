-- A few texts and what they spell.
use Rattle.std.proofs.Common.{◌≡◌, inr, None, Some, ℕ, true, false, Bool, List, [], ◌∷◌, refl, arith}
use Rattle.std.specs.Prelude.{codes, negsuc}
use Rattle.std.specs.declared.net.IpAddr.TheVariants as addresses
use Rattle.channel.specs.Hosts.{IsName, is_of_many}
use Rattle.channel.proofs.Addresses.{name_made}
use Rattle.channel.proofs.Cuts.{lacks_from}
use Rattle.text.specs.Decimals.{signed_of, number_of}
use Rattle.channel.specs.Values.{size_of}

sixty_four_k : size_of (codes "64k") ≡ Some 65536
unfolding size_of number_of
sixty_four_k = refl

capital_m : size_of (codes "016M") ≡ Some 16777216
unfolding size_of number_of
capital_m = refl

plain : size_of (codes "1408") ≡ Some 1408
unfolding size_of number_of
plain = refl

too_large : size_of (codes "4g") ≡ None
unfolding size_of number_of
too_large = refl

unit_alone : size_of (codes "k") ≡ None
unfolding size_of number_of
unit_alone = refl

two_units : size_of (codes "1kk") ≡ None
unfolding size_of number_of
two_units = refl

minus_seven : signed_of (codes "-7") ≡ Some (negsuc 6)
unfolding signed_of number_of
minus_seven = refl

-- ---- hosts

a_name : IsName (codes "feed-7.example_1.org")
a_name = name_made (codes "feed-7.example_1.org") (codes "org") (omega arith) refl (record { lacks = lacks_from 46 (codes "org") refl; cut = inr (codes "feed-7.example_1", refl) }) refl

-- the last octet is left out
three_numbers : IsName (codes "10.0.0") → ⊥
three_numbers name = let none = name.no_number (codes "0") (record { lacks = lacks_from 46 (codes "0") refl; cut = inr (codes "10.0", refl) }) in cc

-- ---- addresses of many

abbrev short : ℕ → ℕ → ℕ → ℕ → Bool
short a b c d = is_of_many (addresses.V4 (record { octets = a ∷ b ∷ c ∷ d ∷ [] }))

abbrev long : ℕ → ℕ → Bool
long a b = is_of_many (addresses.V6 (record { segments = a ∷ 0 ∷ 0 ∷ 0 ∷ 0 ∷ 0 ∷ 0 ∷ b ∷ [] }))

first_multicast : short 224 0 0 0 ≡ true
first_multicast = refl

last_multicast : short 239 255 255 255 ≡ true
last_multicast = refl

below_multicast : short 223 255 255 255 ≡ false
below_multicast = refl

above_multicast : short 240 0 0 0 ≡ false
above_multicast = refl

broadcast : short 255 255 255 255 ≡ true
broadcast = refl

any_address : short 0 0 0 0 ≡ false
any_address = refl

long_multicast : long 65282 1 ≡ true
long_multicast = refl

link_local : long 65152 1 ≡ false
link_local = refl
