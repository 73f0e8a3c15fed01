-- A text is one channel, or it has a fault, but never both.
use Rattle.std.proofs.Common.{◌≡◌, ◌∙◌, ℕ, ◌+◌, ◌*◌, true, false, List, [], ◌∷◌, ◌++◌, length, get_or, Option, Some, refl, sym, ap, subst, arith}
use Rattle.channel.specs.declared.parameter.Parameter.{Parameter}
use Rattle.channel.specs.declared.parameter.Parameter.TheVariants as named
use Rattle.channel.specs.declared.parameter.Parameter.TheVariants.{Endpoint, Interface, Mtu, TermLength, SessionId, InitialTermId, TermId, TermOffset}
use Rattle.channel.specs.declared.parameter.Setting.{Setting}
use Rattle.channel.specs.declared.parameter.Setting.TheVariants as sets
use Rattle.channel.specs.declared.settings.Settings.{Settings}
use Rattle.channel.specs.declared.fault.ChannelFault.{ChannelFault}
use Rattle.channel.specs.declared.fault.ChannelFault.TheVariants.{Prefix, Part, Unknown, Repeated, Value, NoEndpoint, Families, Ttl, Apart}
use Rattle.channel.specs.Settings.{name_of, parameter_of, is_set, with_setting, Says, Sets, IsEndpoint, IsValueOf, HasNoValue}
use Rattle.text.specs.Decimals.{number_of}
use Rattle.channel.specs.Hosts.{IsHost}
use Rattle.channel.specs.Values.{IsPositive}
use Rattle.channel.specs.declared.endpoint.Endpoint.{Endpoint as AnyEndpoint}
use Rattle.channel.specs.declared.host.Host.{Host}
use Rattle.channel.specs.Channels.{IsPartFault}
use Rattle.channel.proofs.Cuts.{cut_once, cut_last_once, lacks_none, name_lacks}
use Rattle.channel.proofs.Addresses.{address_once, host_once, number_lacks}

-- a number that tells the names apart
abbrev key : List ℕ → ℕ
key name = length name + get_or name 5 0 + 1000 * get_or name 0 0

name_once : (p q : Parameter) → name_of p ≡ name_of q → p ≡ q
name_once Endpoint Endpoint e = refl
name_once Endpoint q e = absurd (omega (arith, ap key e))
name_once Interface Interface e = refl
name_once Interface q e = absurd (omega (arith, ap key e))
name_once named.Ttl named.Ttl e = refl
name_once named.Ttl q e = absurd (omega (arith, ap key e))
name_once Mtu Mtu e = refl
name_once Mtu q e = absurd (omega (arith, ap key e))
name_once TermLength TermLength e = refl
name_once TermLength q e = absurd (omega (arith, ap key e))
name_once SessionId SessionId e = refl
name_once SessionId q e = absurd (omega (arith, ap key e))
name_once InitialTermId InitialTermId e = refl
name_once InitialTermId q e = absurd (omega (arith, ap key e))
name_once TermId TermId e = refl
name_once TermId q e = absurd (omega (arith, ap key e))
name_once TermOffset TermOffset e = refl
name_once TermOffset q e = absurd (omega (arith, ap key e))

pub some_once : {A : Type 0} (o : Option A) (x y : A) → o ≡ Some x → o ≡ Some y → x ≡ y
some_once o x y h k = cc

positive_once : (most : ℕ) (digits : List ℕ) (a b : ℕ) → IsPositive most digits a → IsPositive most digits b → a ≡ b
positive_once most digits a b h k = some_once (number_of most digits) a b h.number k.number

abbrev to : Host → ℕ → AnyEndpoint
to host port = record { host = host; port = port }

endpoint_once : (value : List ℕ) (a b : AnyEndpoint) → IsEndpoint value a → IsEndpoint value b → a ≡ b
endpoint_once value a b h k =
    let same = cut_last_once 58 h.host h.digits k.host k.digits (number_lacks _ h.digits _ h.number.number) (number_lacks _ k.digits _ k.number.number) (sym h.parts ∙ k.parts) in
    let host = host_once k.host a.host b.host (subst (λ t. IsHost t a.host) same.0 h.spelled) k.spelled in
    let port = positive_once 65535 k.digits a.port b.port (subst (λ ds. IsPositive 65535 ds a.port) same.1 h.number) k.number in
    λ i. to (host i) (port i)

value_once : (value : List ℕ) (a b : Setting) → parameter_of a ≡ parameter_of b → IsValueOf value a → IsValueOf value b → a ≡ b
value_once value (sets.Endpoint x) (sets.Endpoint y) e h k = ap sets.Endpoint (endpoint_once value x y h k)
value_once value (sets.Endpoint x) b e h k = absurd (cc)
value_once value (sets.Interface x) (sets.Interface y) e h k = ap sets.Interface (address_once value x y h k)
value_once value (sets.Interface x) b e h k = absurd (cc)
value_once value (sets.Ttl x) (sets.Ttl y) e h k = ap sets.Ttl (positive_once 255 value x y h k)
value_once value (sets.Ttl x) b e h k = absurd (cc)
value_once value (sets.Mtu x) (sets.Mtu y) e h k = ap sets.Mtu (some_once _ x y h k)
value_once value (sets.Mtu x) b e h k = absurd (cc)
value_once value (sets.TermLength x) (sets.TermLength y) e h k = ap sets.TermLength (some_once _ x y h k)
value_once value (sets.TermLength x) b e h k = absurd (cc)
value_once value (sets.SessionId x) (sets.SessionId y) e h k = ap sets.SessionId (some_once _ x y h k)
value_once value (sets.SessionId x) b e h k = absurd (cc)
value_once value (sets.InitialTermId x) (sets.InitialTermId y) e h k = ap sets.InitialTermId (some_once _ x y h k)
value_once value (sets.InitialTermId x) b e h k = absurd (cc)
value_once value (sets.TermId x) (sets.TermId y) e h k = ap sets.TermId (some_once _ x y h k)
value_once value (sets.TermId x) b e h k = absurd (cc)
value_once value (sets.TermOffset x) (sets.TermOffset y) e h k = ap sets.TermOffset (some_once _ x y h k)
value_once value (sets.TermOffset x) b e h k = absurd (cc)

-- the same name and value
named_once : (p q : Parameter) (part v w : List ℕ) → part ≡ name_of p ++ 61 ∷ v → part ≡ name_of q ++ 61 ∷ w → (p ≡ q) × (v ≡ w)
named_once p q part v w h k =
    let same = cut_once 61 (name_of p) v (name_of q) w (name_lacks p) (name_lacks q) (sym h ∙ k) in (name_once p q same.0, same.1)

says_once : (part : List ℕ) (a b : Setting) → Says part a → Says part b → a ≡ b
says_once part a b h k =
    let same = named_once (parameter_of a) (parameter_of b) part h.value k.value h.parts k.parts in
    value_once k.value a b same.0 (subst (λ v. IsValueOf v a) same.1 h.is) k.is

pub sets_once : (s t u : Settings) (parts : List (List ℕ)) → Sets s parts t → Sets s parts u → t ≡ u
sets_once s t u [] h k = h ∙ sym k
sets_once s t u (part ∷ parts) (a, says_a, free_a, h) (b, says_b, free_b, k) =
    sets_once (with_setting s b) t u parts (subst (λ x. Sets (with_setting s x) parts t) (says_once part a b says_a says_b) h) k

no_value : (value : List ℕ) (a : Setting) → IsValueOf value a → HasNoValue (parameter_of a) value → ⊥
no_value value (sets.Endpoint x) h none = none x h
no_value value (sets.Interface x) h none = none x h
no_value value (sets.Ttl x) h none = none x h
no_value value (sets.Mtu x) h none = cc
no_value value (sets.TermLength x) h none = cc
no_value value (sets.SessionId x) h none = cc
no_value value (sets.InitialTermId x) h none = cc
no_value value (sets.TermId x) h none = cc
no_value value (sets.TermOffset x) h none = cc

-- what sets something has no fault
no_part_fault : (s : Settings) (part : List ℕ) (a : Setting) (fault : ChannelFault) → Says part a → is_set s (parameter_of a) ≡ false → IsPartFault s part fault → ⊥
no_part_fault s part a Prefix h free wrong = wrong
no_part_fault s part a (Part whole) h free (same, lacks) = lacks_none 61 part (name_of (parameter_of a)) h.value h.parts lacks
no_part_fault s part a (Unknown name) h free (v, is, lacks, none) =
    none (parameter_of a) (cut_once 61 name.now v (name_of (parameter_of a)) h.value lacks (name_lacks (parameter_of a)) (sym is ∙ h.parts)).0
no_part_fault s part a (Repeated q) h free (v, is, set) =
    let same = (named_once q (parameter_of a) part v h.value is h.parts).0 in
    let again : is_set s (parameter_of a) ≡ true = subst (λ p. is_set s p ≡ true) same set in cc
no_part_fault s part a (Value q v) h free (is, unset, none) =
    let same = named_once q (parameter_of a) part v.now h.value is h.parts in
    no_value h.value a h.is (subst (λ p. HasNoValue p h.value) same.0 (subst (HasNoValue q) same.1 none))
no_part_fault s part a NoEndpoint h free wrong = wrong
no_part_fault s part a Families h free wrong = wrong
no_part_fault s part a Ttl h free wrong = wrong
no_part_fault s part a Apart h free wrong = wrong

pub no_fault_among : (s t u : Settings) (before : List (List ℕ)) (part : List ℕ) (behind : List (List ℕ)) (fault : ChannelFault) → Sets s (before ++ part ∷ behind) t → Sets s before u → IsPartFault u part fault → ⊥
no_fault_among s t u [] part behind fault (a, says, free, rest) is wrong = no_part_fault s part a fault says free (subst (λ x. IsPartFault x part fault) is wrong)
no_fault_among s t u (first ∷ before) part behind fault (a, says_a, free_a, rest) (b, says_b, free_b, is) wrong =
    no_fault_among (with_setting s b) t u before part behind fault (subst (λ x. Sets (with_setting s x) (before ++ part ∷ behind) t) (says_once first a b says_a says_b) rest) is wrong
