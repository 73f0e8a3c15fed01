-- What the parts of a channel set.
use Rattle.std.specs.Prelude.{◌≡◌, ℕ, ◌-◌, ◌^◌, Bool, false, List, [], ◌∷◌, ◌++◌, Some, None, is_some, codes}
use Rattle.std.specs.declared.net.IpAddr.{IpAddr}
use Rattle.channel.specs.declared.endpoint.Endpoint.{Endpoint as AnyEndpoint}
use Rattle.channel.specs.declared.parameter.Parameter.{Parameter}
use Rattle.channel.specs.declared.parameter.Parameter.TheVariants.{Endpoint, Interface, Ttl, Mtu, TermLength, SessionId, InitialTermId, TermId, TermOffset}
use Rattle.channel.specs.declared.parameter.Setting.{Setting}
use Rattle.channel.specs.declared.parameter.Setting.TheVariants as sets
use Rattle.channel.specs.declared.settings.Settings.{Settings}
use Rattle.text.specs.Decimals.{number_of, signed_of}
use Rattle.channel.specs.Values.{IsPositive, size_of}
use Rattle.channel.specs.Bytes.{Lacks}
use Rattle.channel.specs.Hosts.{IsAddress, IsHost}

abbrev pub name_of : Parameter → List ℕ
name_of Endpoint = codes "endpoint"
name_of Interface = codes "interface"
name_of Ttl = codes "ttl"
name_of Mtu = codes "mtu"
name_of TermLength = codes "term-length"
name_of SessionId = codes "session-id"
name_of InitialTermId = codes "init-term-id"
name_of TermId = codes "term-id"
name_of TermOffset = codes "term-offset"

abbrev pub parameter_of : Setting → Parameter
parameter_of (sets.Endpoint e) = Endpoint
parameter_of (sets.Interface a) = Interface
parameter_of (sets.Ttl n) = Ttl
parameter_of (sets.Mtu bytes) = Mtu
parameter_of (sets.TermLength bytes) = TermLength
parameter_of (sets.SessionId id) = SessionId
parameter_of (sets.InitialTermId id) = InitialTermId
parameter_of (sets.TermId id) = TermId
parameter_of (sets.TermOffset bytes) = TermOffset

-- a text is what stands before its last colon, and what stands behind it
pub record Cuts (value before behind : List ℕ) : Type 0 where
  pub parts : value ≡ before ++ 58 ∷ behind
  pub last : Lacks 58 behind

-- there is no colon
abbrev pub IsNotCut : List ℕ → Type 0
IsNotCut value = Lacks 58 value

-- HOST:PORT
pub record IsEndpoint (value : List ℕ) (e : AnyEndpoint) : Type 0 where
  pub host : List ℕ
  pub digits : List ℕ
  pub parts : value ≡ host ++ 58 ∷ digits
  pub spelled : IsHost host e.host
  pub number : IsPositive 65535 digits e.port

-- the value of the setting's parameter
abbrev pub IsValueOf : List ℕ → Setting → Type 0
IsValueOf value (sets.Endpoint e) = IsEndpoint value e
IsValueOf value (sets.Interface a) = IsAddress value a
IsValueOf value (sets.Ttl n) = IsPositive 255 value n
IsValueOf value (sets.Mtu bytes) = size_of value ≡ Some bytes
IsValueOf value (sets.TermLength bytes) = size_of value ≡ Some bytes
IsValueOf value (sets.SessionId id) = signed_of value ≡ Some id
IsValueOf value (sets.InitialTermId id) = signed_of value ≡ Some id
IsValueOf value (sets.TermId id) = signed_of value ≡ Some id
IsValueOf value (sets.TermOffset bytes) = number_of (2 ^ 32 - 1) value ≡ Some bytes

-- the text is no value of the parameter
abbrev pub HasNoValue : Parameter → List ℕ → Type 0
HasNoValue Endpoint value = (e : AnyEndpoint) → IsEndpoint value e → ⊥
HasNoValue Interface value = (a : IpAddr) → IsAddress value a → ⊥
HasNoValue Ttl value = (n : ℕ) → IsPositive 255 value n → ⊥
HasNoValue Mtu value = size_of value ≡ None
HasNoValue TermLength value = size_of value ≡ None
HasNoValue SessionId value = signed_of value ≡ None
HasNoValue InitialTermId value = signed_of value ≡ None
HasNoValue TermId value = signed_of value ≡ None
HasNoValue TermOffset value = number_of (2 ^ 32 - 1) value ≡ None

-- name=value
pub record Says (part : List ℕ) (setting : Setting) : Type 0 where
  pub value : List ℕ
  pub parts : part ≡ name_of (parameter_of setting) ++ 61 ∷ value
  pub is : IsValueOf value setting

abbrev pub is_set : Settings → Parameter → Bool
is_set s Endpoint = is_some s.endpoint
is_set s Interface = is_some s.interface
is_set s Ttl = is_some s.ttl
is_set s Mtu = is_some s.mtu
is_set s TermLength = is_some s.term_length
is_set s SessionId = is_some s.session_id
is_set s InitialTermId = is_some s.initial_term_id
is_set s TermId = is_some s.term_id
is_set s TermOffset = is_some s.term_offset

abbrev pub with_setting : Settings → Setting → Settings
with_setting s (sets.Endpoint e) = record s { endpoint = Some e }
with_setting s (sets.Interface a) = record s { interface = Some a }
with_setting s (sets.Ttl n) = record s { ttl = Some n }
with_setting s (sets.Mtu bytes) = record s { mtu = Some bytes }
with_setting s (sets.TermLength bytes) = record s { term_length = Some bytes }
with_setting s (sets.SessionId id) = record s { session_id = Some id }
with_setting s (sets.InitialTermId id) = record s { initial_term_id = Some id }
with_setting s (sets.TermId id) = record s { term_id = Some id }
with_setting s (sets.TermOffset bytes) = record s { term_offset = Some bytes }

abbrev pub nothing : Settings
nothing = record { endpoint = None; interface = None; ttl = None; mtu = None; term_length = None; session_id = None; initial_term_id = None; term_id = None; term_offset = None }

-- each part sets a parameter that none before it has set
abbrev pub Sets : Settings → List (List ℕ) → Settings → Type 0
Sets s [] t = t ≡ s
Sets s (part ∷ parts) t = (setting : Setting) × Says part setting × (is_set s (parameter_of setting) ≡ false) × Sets (with_setting s setting) parts t
