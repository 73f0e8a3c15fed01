-- A text is one address or one name at the most.
use Rattle.std.proofs.Common.{◌≡◌, ◌≢◌, ◌∙◌, inl, inr, ℕ, zero, suc, ◌-◌, ◌<◌, ◌≤◌, Bool, true, false, cond, List, [], ◌∷◌, ◌++◌, length, take, take_at, Option, None, Some, lit<, lit≤, refl, sym, ap, subst, append_assoc, arith}
use Rattle.std.specs.Prelude.{decimal, codes, nat_lt, min, replicate, ◌⊎◌, IfNone, IfSome, MatchOption}
use Rattle.std.specs.Borrow.{Bor}
use Rattle.std.specs.Str.{IsAscii, IsUtf8}
use Rattle.std.proofs.lemmas.Str.{IsUtf8-from_ascii}
use Rattle.std.specs.Str.Parse.{AllDigits}
use Rattle.std.specs.Char.{digit_value}
use Rattle.std.proofs.lemmas.Bool.{and_from, and_parts}
use Rattle.std.proofs.lemmas.Bool.Decides.{nat_tests}
use Rattle.std.proofs.lemmas.Fmt.{decimal_is_IsNumeral}
use Rattle.std.proofs.lemmas.Str.Parse.{digit_from_value}
use Rattle.std.specs.List.{list_all}
use Rattle.std.specs.Char.{is_ascii_digit}
use Rattle.std.specs.Net.Addr.{ipv4_octets}
use Rattle.std.specs.Net.Grammar.{IsDotted, IsIpv6Text}
use Rattle.std.specs.Net.Reader.{read_ipv4, read_octet, read_number}
use Rattle.std.specs.declared.net.IpAddr.{IpAddr}
use Rattle.std.specs.declared.net.IpAddr.TheVariants as addresses
use Rattle.std.specs.declared.net.Ipv6Addr.{Ipv6Addr}
use Rattle.std.proofs.NetLemmas.Ipv4.{read_ipv4_complete}
use Rattle.std.proofs.NetLemmas.Theorems.{IsIpv4Text_unique, IsIpv6Text_unique}
use Rattle.text.specs.Decimals.{is_number, number_of}
use Rattle.channel.specs.Bytes.{Lacks}
use Rattle.channel.specs.Hosts.{IsAddress, IsBracketed, IsHost, IsLastLabel, IsName, IsNamed, Spells, bracketed, is_name_byte, is_of_many}
use Rattle.channel.specs.Settings.{Cuts, IsEndpoint, IsNotCut}
use Rattle.channel.specs.Values.{IsPositive}
use Rattle.channel.specs.declared.endpoint.Endpoint.{Endpoint}
use Rattle.channel.specs.declared.host.Name.{Name as AnyName}
use Rattle.channel.specs.declared.host.Host.{Host}
use Rattle.channel.specs.declared.host.Host.TheVariants.{Address, Name}
use Rattle.channel.proofs.Cuts.{IsLastCut, cut_last_once, lacks_none, rsplit_parts}

-- bytes that all pass a test lack one that doesn't
lacks_all : (p : ℕ → Bool) (c : ℕ) → p c ≡ false → (xs : List ℕ) → list_all p xs ≡ true → Lacks c xs
lacks_all p c fails [] h i low = absurd (omega arith)
lacks_all p c fails (x ∷ xs) h zero low = λ e. (let passes : p c ≡ true = subst (λ y. p y ≡ true) e (and_parts (p x) (list_all p xs) h).0 in cc)
lacks_all p c fails (x ∷ xs) h (suc i) low = lacks_all p c fails xs (and_parts (p x) (list_all p xs) h).1 i (omega arith)

some_if : (b : Bool) (v n : ℕ) → cond b (Some v) None ≡ Some n → b ≡ true
some_if true v n h = refl
some_if false v n h = absurd (cc)

digits_in_number : (most : ℕ) (digits : List ℕ) (n : ℕ) → number_of most digits ≡ Some n → list_all is_ascii_digit digits ≡ true
unfolding number_of
digits_in_number most digits n h =
    (and_parts (list_all is_ascii_digit digits) _ (and_parts (nat_lt 0 (length digits)) _ (some_if (is_number most digits) _ n h)).1).0

pub number_lacks : (most : ℕ) (digits : List ℕ) (n : ℕ) → number_of most digits ≡ Some n → Lacks 58 digits
number_lacks most digits n h = lacks_all is_ascii_digit 58 refl digits (digits_in_number most digits n h)

-- ---- addresses

not_dotted : (rest : List ℕ) → read_ipv4 (91 ∷ rest) ≡ None
unfolding read_ipv4 read_octet read_number
not_dotted rest = refl

-- four numbers don't begin with a bracket
pub dotted_or_bracketed : (text inner octets : List ℕ) → IsDotted text octets → text ≡ bracketed inner → ⊥
dotted_or_bracketed text inner octets h cut =
    let read = read_ipv4_complete (bracketed inner) octets [] (subst (λ t. IsDotted t octets) cut h) (lit≤ tt) in
    let none = not_dotted ((inner ++ 93 ∷ []) ++ []) in
    cc

inner_once : (a b : List ℕ) → bracketed a ≡ bracketed b → a ≡ b
inner_once a b e =
    let rest : a ++ 93 ∷ [] ≡ b ++ 93 ∷ [] = cc in
    (cut_last_once 93 a [] b [] (λ i low. absurd (omega arith)) (λ i low. absurd (omega arith)) rest).0

pub bracketed_once : (text : List ℕ) (a b : Ipv6Addr) → IsBracketed text a → IsBracketed text b → a ≡ b
bracketed_once text a b h k =
    IsIpv6Text_unique k.inner a b (subst (λ t. IsIpv6Text t a) (inner_once h.inner k.inner (sym h.cut ∙ k.cut)) h.spells) k.spells

-- the address in these brackets
pub bracketed_is : (text inner : List ℕ) (a : Ipv6Addr) → text ≡ bracketed inner → IsBracketed text a → IsIpv6Text inner a
bracketed_is text inner a cut h = subst (λ t. IsIpv6Text t a) (inner_once h.inner inner (sym h.cut ∙ cut)) h.spells

spelled_once : (text : List ℕ) (a b : IpAddr) → Spells text a → Spells text b → a ≡ b
spelled_once text (addresses.V4 a) (addresses.V4 b) h k = ap addresses.V4 (IsIpv4Text_unique text a b h k)
spelled_once text (addresses.V4 a) (addresses.V6 b) h k = absurd (dotted_or_bracketed text k.inner (ipv4_octets a) h k.cut)
spelled_once text (addresses.V6 a) (addresses.V4 b) h k = absurd (dotted_or_bracketed text h.inner (ipv4_octets b) k h.cut)
spelled_once text (addresses.V6 a) (addresses.V6 b) h k = ap addresses.V6 (bracketed_once text a b h k)

pub address_once : (text : List ℕ) (a b : IpAddr) → IsAddress text a → IsAddress text b → a ≡ b
address_once text a b h k = spelled_once text a b h.spelled k.spelled

-- where that one is of many there is none of one host
pub none_of_many : (text : List ℕ) (a b : IpAddr) → Spells text a → is_of_many a ≡ true → IsAddress text b → ⊥
none_of_many text a b h many k =
    let same = spelled_once text a b h k.spelled in
    let one : is_of_many a ≡ false = subst (λ x. is_of_many x ≡ false) (sym same) k.of_one in
    cc

-- ---- names

digit_in_range : (c : ℕ) → digit_value c < 10 → is_ascii_digit c ≡ true
digit_in_range c h = grind (arith, nat_tests, digit_from_value c h)

all_digits : (ds : List ℕ) → AllDigits 10 ds → list_all is_ascii_digit ds ≡ true
all_digits [] h = refl
all_digits (d ∷ ds) h = and_from _ _ (digit_in_range d h.0) (all_digits ds h.1)

-- a decimal number below 256 is digits alone
octet_digits : (n : ℕ) → n < 256 → list_all is_ascii_digit (decimal n) ≡ true
octet_digits n small = all_digits (decimal n) (decimal_is_IsNumeral n (omega (arith, small))).0.1

-- so four numbers are no name
dotted_or_name : (text octets : List ℕ) → IsDotted text octets → IsName text → ⊥
dotted_or_name text octets h name =
    let digits = octet_digits h.d h.fit.3 in
    let front = decimal h.a ++ codes "." ++ decimal h.b ++ codes "." ++ decimal h.c in
    let label : IsLastLabel text (decimal h.d) = record {
      lacks = lacks_all is_ascii_digit 46 refl (decimal h.d) digits;
      cut = inr (front, h.spelled ∙ append_assoc front (46 ∷ []) (decimal h.d));
    } in
    let none = name.no_number (decimal h.d) label in
    cc

bracketed_or_name : (text inner : List ℕ) → text ≡ bracketed inner → IsName text → ⊥
bracketed_or_name text inner cut name =
    let all : list_all is_name_byte (bracketed inner) ≡ true = subst (λ t. list_all is_name_byte t ≡ true) cut name.bytes in
    cc

address_or_name : (text : List ℕ) (a : IpAddr) → Spells text a → IsName text → ⊥
address_or_name text (addresses.V4 a) h name = dotted_or_name text (ipv4_octets a) h name
address_or_name text (addresses.V6 a) h name = bracketed_or_name text h.inner h.cut name

abbrev named : List ℕ → ℕ → AnyName
named bytes length = record { bytes = bytes; length = length }

name_once : (text : List ℕ) (a b : AnyName) → IsNamed text a → IsNamed text b → a ≡ b
name_once text a b h k =
    let bytes = h.bytes ∙ sym k.bytes in
    let size = h.size ∙ sym k.size in
    λ i. named (bytes i) (size i)

pub host_once : (text : List ℕ) (a b : Host) → IsHost text a → IsHost text b → a ≡ b
host_once text (Address a) (Address b) h k = ap Address (address_once text a b h k)
host_once text (Address a) (Name b) h k = absurd (address_or_name text a h.spelled k.1)
host_once text (Name a) (Address b) h k = absurd (address_or_name text b k.spelled h.1)
host_once text (Name a) (Name b) h k = ap Name (name_once text a b h.0 k.0)

-- ---- the last label, and the last colon

pub labels : (text : List ℕ) (r : Option (Bor (List ℕ) × Bor (List ℕ))) → IsLastCut 46 text r → MatchOption r (IsLastLabel text text) (λ x. IsLastLabel text x.1.now)
labels text None h = record { lacks = rsplit_parts 46 text None h (lit< tt); cut = inl refl }
labels text (Some x) h = let parts = rsplit_parts 46 text (Some x) h (lit< tt) in record { lacks = parts.1; cut = inr (x.0.now, parts.0) }

pub last_cut : (text : List ℕ) (r : Option (Bor (List ℕ) × Bor (List ℕ))) → IsLastCut 58 text r → IfSome r (λ x. Cuts text x.0.now x.1.now)
last_cut text None h = tt
last_cut text (Some x) h = let parts = rsplit_parts 58 text (Some x) h (lit< tt) in record { parts = parts.0; last = parts.1 }

pub no_cut : (text : List ℕ) (r : Option (Bor (List ℕ) × Bor (List ℕ))) → IsLastCut 58 text r → IfNone r (IsNotCut text)
no_cut text None h = rsplit_parts 58 text None h (lit< tt)
no_cut text (Some x) h = tt

pub not_cut : (value : List ℕ) (e : Endpoint) → IsNotCut value → IsEndpoint value e → ⊥
not_cut value e none is = lacks_none 58 value is.host is.digits is.parts none

pub cut_is : (value before behind : List ℕ) (e : Endpoint) → Cuts value before behind → IsEndpoint value e → IsHost before e.host × IsPositive 65535 behind e.port
cut_is value before behind e cut is =
    let same = cut_last_once 58 is.host is.digits before behind (number_lacks _ is.digits _ is.number.number) cut.last (sym is.parts ∙ cut.parts) in
    (subst (λ t. IsHost t e.host) same.0 is.spelled, subst (λ ds. IsPositive 65535 ds e.port) same.1 is.number)

-- ---- a text that is a name

one_label : (text a b : List ℕ) → Lacks 46 a → Lacks 46 b → (text ≡ a) ⊎ ((front : List ℕ) × (text ≡ front ++ 46 ∷ a)) → (text ≡ b) ⊎ ((front : List ℕ) × (text ≡ front ++ 46 ∷ b)) → a ≡ b
one_label text a b la lb (inl h) (inl k) = sym h ∙ k
one_label text a b la lb (inl h) (inr k) = absurd (lacks_none 46 a k.0 b (sym h ∙ k.1) la)
one_label text a b la lb (inr h) (inl k) = absurd (lacks_none 46 b h.0 a (sym k ∙ h.1) lb)
one_label text a b la lb (inr h) (inr k) = (cut_last_once 46 h.0 a k.0 b la lb (sym h.1 ∙ k.1)).1

label_once : (text a b : List ℕ) → IsLastLabel text a → IsLastLabel text b → a ≡ b
label_once text a b h k = one_label text a b h.lacks k.lacks h.cut k.cut

pub name_made : (text label : List ℕ) → length text ≤ 253 → list_all is_name_byte text ≡ true → IsLastLabel text label → list_all is_ascii_digit label ≡ false → IsName text
name_made text label few bytes last none = record {
  few = few;
  bytes = bytes;
  no_number = λ other is. subst (λ l. list_all is_ascii_digit l ≡ false) (label_once text label other last is) none;
}

ascii : (xs : List ℕ) → list_all is_name_byte xs ≡ true → IsAscii xs
ascii [] h i = omega arith
ascii (x ∷ xs) h zero = let passes = (and_parts (is_name_byte x) (list_all is_name_byte xs) h).0 in grind (arith, nat_tests, passes)
ascii (x ∷ xs) h (suc i) = ascii xs (and_parts (is_name_byte x) (list_all is_name_byte xs) h).1 i

pub name_is_text : (text : List ℕ) → IsName text → IsUtf8 text
name_is_text text h = IsUtf8-from_ascii text (ascii text h.bytes)

pub used_is : (text : List ℕ) (n : AnyName) → IsNamed text n → IsName text → take (min n.length 253) n.bytes ≡ text
used_is text n h name =
    let size : min n.length 253 ≡ length text = omega (arith, h.size, name.few) in
    (λ i. take (size i) (h.bytes i)) ∙ take_at text (replicate (253 - length text) 0) (length text) refl

-- an option that is none or not
pub if_none : {A : Type 0} (r : Option A) (P : Type 0) → P → IfNone r P
if_none None P p = p
if_none (Some x) P p = tt

-- ---- between brackets

pub within : (text rest : List ℕ) (r : Option (Bor (List ℕ))) → text ≡ 91 ∷ rest → MatchOption r ((front : List ℕ) → rest ≢ front ++ 93 ∷ []) (λ x. rest ≡ x.now ++ 93 ∷ []) → IfSome r (λ inner. text ≡ bracketed inner.now)
within text rest None e h = tt
within text rest (Some x) e h = e ∙ ap (λ (l : List ℕ). 91 ∷ l) h

pub within_none : (text rest : List ℕ) (r : Option (Bor (List ℕ))) → text ≡ 91 ∷ rest → MatchOption r ((front : List ℕ) → rest ≢ front ++ 93 ∷ []) (λ x. rest ≡ x.now ++ 93 ∷ []) → IfNone r ((inner : List ℕ) → text ≡ bracketed inner → ⊥)
within_none text rest None e h = λ inner is. h inner (let same : rest ≡ inner ++ 93 ∷ [] = cc in same)
within_none text rest (Some x) e h = tt
