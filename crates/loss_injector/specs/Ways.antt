-- What goes of a datagram by its way, and what an injector holds then.
use Rattle.std.specs.Prelude.{ℕ, Bool, List, [], ◌∷◌, ◌++◌, Some, if◌then◌else◌}
use Rattle.std.specs.Option.{option_map, option_to_list}
use Rattle.loss_injector.specs.Injecting.{Injecting}
use Rattle.loss_injector.specs.declared.injector.Way.{Way}
use Rattle.loss_injector.specs.declared.injector.Way.TheVariants.{Nowhere, Kept, Goes}

-- the datagram, once or twice
abbrev pub repeated : Bool → List ℕ → List (List ℕ)
repeated twice datagram = if twice then datagram ∷ datagram ∷ [] else datagram ∷ []

abbrev pub given_by : Way → List ℕ → List (List ℕ)
given_by Nowhere datagram = []
given_by Kept datagram = []
given_by (Goes twice behind) datagram = repeated twice datagram ++ option_to_list (option_map (λ d. d.items) behind)

-- only one that is kept is held
abbrev pub keeping : Way → List ℕ → Injecting → Injecting
keeping Nowhere datagram i = i
keeping Kept datagram i = record i { held = Some datagram }
keeping (Goes twice behind) datagram i = i
