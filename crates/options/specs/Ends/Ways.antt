-- The ways of a publisher, and why what it is told makes none.
use Rattle.std.specs.Prelude.{◌≡◌, ◌≢◌, ◌≤◌, ◌<◌, ℕ, List, [], ◌∷◌, ◌++◌, ⊤, length, slice_index_or, All}
use Rattle.std.specs.Borrow.{Bor}
use Rattle.channel.specs.Channels.{IsFit, IsToEndpoint, to_endpoint}
use Rattle.channel.specs.Settings.{IsEndpoint}
use Rattle.channel.specs.declared.channel.Transport.{Transport}
use Rattle.channel.specs.declared.endpoint.Endpoint.{Endpoint as AnyEndpoint}
use Rattle.options.specs.declared.ends.way_fault.WayFault.{WayFault}
use Rattle.options.specs.declared.ends.way_fault.WayFault.TheVariants.{Many, Endpoint, Family, Twice, Memory}

-- to the endpoint that the text is, with the channel's interface and time to live, which go with it
pub record IsWay (c : Transport) (text : List ℕ) (w : Transport) : Type 0 where
  pub spelled : IsEndpoint text w.endpoint
  pub is : IsToEndpoint c w.endpoint w

-- it leads to another endpoint
abbrev pub LeadsElsewhere : AnyEndpoint → Transport → Type 0
LeadsElsewhere e w = w.endpoint ≢ e

-- one of them leads to this endpoint
pub record IsLed (ways : List Transport) (e : AnyEndpoint) : Type 0 where
  pub number : ℕ
  pub within : number < length ways
  pub there : (d : Transport) → (slice_index_or ways number d).endpoint ≡ e

-- behind these ways there is one to each text's endpoint, in order, and no two lead to the same
abbrev pub LeadsOn : Transport → List Transport → List (Bor (List ℕ)) → List Transport → Type 0
LeadsOn c before [] ways = ways ≡ before
LeadsOn c before (text ∷ texts) ways = (w : Transport) × IsWay c text.now w × All (LeadsElsewhere w.endpoint) before × LeadsOn c (before ++ w ∷ []) texts ways

-- the first way is the channel's own
abbrev pub AreWays : Transport → List (Bor (List ℕ)) → List Transport → Type 0
AreWays c texts ways = LeadsOn c (c ∷ []) texts ways

-- what is wrong with a text alone
abbrev pub IsTextFault : Transport → List ℕ → WayFault → Type 0
IsTextFault c text Many = ⊥
IsTextFault c text (Endpoint told) = (told.now ≡ text) × ((e : AnyEndpoint) → IsEndpoint text e → ⊥)
IsTextFault c text (Family told) = (told.now ≡ text) × ((e : AnyEndpoint) × IsEndpoint text e × (¬ IsFit (to_endpoint c e)))
IsTextFault c text (Twice told) = ⊥
IsTextFault c text Memory = ⊥

-- or with one behind these ways
abbrev pub IsWayFault : Transport → List Transport → List ℕ → WayFault → Type 0
IsWayFault c ways text Many = ⊥
IsWayFault c ways text (Endpoint told) = IsTextFault c text (Endpoint told)
IsWayFault c ways text (Family told) = IsTextFault c text (Family told)
IsWayFault c ways text (Twice told) = (told.now ≡ text) × ((w : Transport) × IsWay c text w × IsLed ways w.endpoint)
IsWayFault c ways text Memory = ⊥

-- the texts before this one make these ways, and this one is wrong
pub record IsFaultBehind (c : Transport) (texts : List (Bor (List ℕ))) (fault : WayFault) : Type 0 where
  pub before : List (Bor (List ℕ))
  pub text : Bor (List ℕ)
  pub behind : List (Bor (List ℕ))
  pub cut : texts ≡ before ++ text ∷ behind
  pub ways : List Transport
  pub lead : AreWays c before ways
  pub wrong : IsWayFault c ways text.now fault

-- the first fault; of memory nothing is said
abbrev pub ExplainsNoWays : Transport → List (Bor (List ℕ)) → WayFault → Type 0
ExplainsNoWays c texts Many = 8 ≤ length texts
ExplainsNoWays c texts (Endpoint told) = IsFaultBehind c texts (Endpoint told)
ExplainsNoWays c texts (Family told) = IsFaultBehind c texts (Family told)
ExplainsNoWays c texts (Twice told) = IsFaultBehind c texts (Twice told)
ExplainsNoWays c texts Memory = ⊤
