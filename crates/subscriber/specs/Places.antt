-- The places at which a subscriber follows sessions, and what the images at each gave.
use Rattle.std.specs.Prelude.{◌<◌, ◌*◌, ◌^◌, ⊤, ℕ, nat_eq, if◌then◌else◌, max, min, map, List, [], ◌∷◌}
use Rattle.options.specs.declared.ends.plans.SubscribePlan.{SubscribePlan}

-- how many there are at the most: as many as the plan says, from 1 to 16
abbrev pub most_places : SubscribePlan → ℕ
most_places plan = max 1 (min 16 plan.sessions)

-- the number of a place's first image: no other place comes to it, however many images follow one another there
abbrev pub first_number : ℕ → ℕ
first_number place = place * 2 ^ 60

-- a message, and the place whose image gave it
pub record Given : Type 0 where
  pub place : ℕ
  pub message : List ℕ

-- the messages, in the order in which they were given
abbrev pub messages_of : List Given → List (List ℕ)
messages_of given = map (λ (g : Given). g.message) given

-- these messages, at one place
abbrev pub given_at : ℕ → List (List ℕ) → List Given
given_at place messages = map (λ message. record { place = place; message = message }) messages

-- those of one place among all
abbrev pub of_place : ℕ → List Given → List (List ℕ)
of_place place [] = []
of_place place (g ∷ given) = if nat_eq g.place place then g.message ∷ of_place place given else of_place place given

-- all were given at one of so many places
abbrev pub AreBelow : ℕ → List Given → Type 0
AreBelow places [] = ⊤
AreBelow places (g ∷ given) = (g.place < places) × AreBelow places given
