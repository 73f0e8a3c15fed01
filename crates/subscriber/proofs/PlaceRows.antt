-- Rows: which places there are, what was given at each, and which numbers their images have.
use Rattle.std.proofs.Common.{◌≡◌, ◌+◌, ◌^◌, ℕ, max, min, List, [], ◌∷◌, refl, ap, arith}
use Rattle.options.specs.declared.ends.plans.SubscribePlan.{SubscribePlan}
use Rattle.subscriber.specs.Places.{AreBelow, Given, first_number, given_at, messages_of, most_places, of_place}

abbrev said : ℕ → ℕ → Given
said place byte = record { place = place; message = byte ∷ [] }

abbrev mixed : List Given
mixed = said 0 65 ∷ said 1 66 ∷ said 0 67 ∷ said 2 68 ∷ said 0 65 ∷ []

-- ---- what was given

-- each place's are its own, in their order, each as often as it was given
of_first : of_place 0 mixed ≡ (65 ∷ []) ∷ (67 ∷ []) ∷ (65 ∷ []) ∷ []
of_first = refl

of_second : of_place 1 mixed ≡ (66 ∷ []) ∷ []
of_second = refl

of_third : of_place 2 mixed ≡ (68 ∷ []) ∷ []
of_third = refl

of_none : of_place 3 mixed ≡ []
of_none = refl

-- all of them, in the order in which they were given
all_said : messages_of mixed ≡ (65 ∷ []) ∷ (66 ∷ []) ∷ (67 ∷ []) ∷ (68 ∷ []) ∷ (65 ∷ []) ∷ []
all_said = refl

-- one place's, an empty one too
at_second : given_at 1 ((65 ∷ 66 ∷ []) ∷ [] ∷ (67 ∷ []) ∷ []) ≡ record { place = 1; message = 65 ∷ 66 ∷ [] } ∷ record { place = 1; message = [] } ∷ said 1 67 ∷ []
at_second = refl

nothing_at : given_at 1 [] ≡ []
nothing_at = refl

-- three places are enough for them, and two aren't
below_three : AreBelow 3 mixed
below_three = (omega arith, (omega arith, (omega arith, (omega arith, (omega arith, tt)))))

not_below_two : AreBelow 2 mixed → ⊥
not_below_two h = let third = h.1.1.1.0 in omega (arith, third)

none_below : AreBelow 0 []
none_below = tt

one_not_below : AreBelow 0 (said 0 65 ∷ []) → ⊥
one_not_below h = let first = h.0 in omega (arith, first)

-- ---- numbers

numbered_first : first_number 0 ≡ 0
numbered_first = refl

numbered_second : first_number 1 ≡ 1152921504606846976
numbered_second = refl

-- the last place's end where all numbers do
numbered_last : first_number 15 + 1152921504606846976 ≡ 2 ^ 64
numbered_last = refl

-- ---- how many places

so_many : (plan : SubscribePlan) (n : ℕ) → plan.sessions ≡ n → most_places plan ≡ max 1 (min 16 n)
so_many plan n is = ap (λ (k : ℕ). max 1 (min 16 k)) is

-- one at the least, and 16 at the most
asked_none : (plan : SubscribePlan) → plan.sessions ≡ 0 → most_places plan ≡ 1
asked_none plan is = so_many plan 0 is

asked_one : (plan : SubscribePlan) → plan.sessions ≡ 1 → most_places plan ≡ 1
asked_one plan is = so_many plan 1 is

asked_two : (plan : SubscribePlan) → plan.sessions ≡ 2 → most_places plan ≡ 2
asked_two plan is = so_many plan 2 is

asked_most : (plan : SubscribePlan) → plan.sessions ≡ 16 → most_places plan ≡ 16
asked_most plan is = so_many plan 16 is

asked_more : (plan : SubscribePlan) → plan.sessions ≡ 17 → most_places plan ≡ 16
asked_more plan is = so_many plan 17 is

asked_all : (plan : SubscribePlan) → plan.sessions ≡ 4294967295 → most_places plan ≡ 16
asked_all plan is = so_many plan 4294967295 is
