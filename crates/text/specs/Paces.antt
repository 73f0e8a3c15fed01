-- How fast something went.
use Rattle.std.specs.Prelude.{◌≡◌, ℕ, ◌*◌, ◌/◌, ◌%◌, ◌-◌, ◌^◌, max, min, List, [], ◌∷◌, codes, decimal}
use Rattle.std.specs.List.{flat_map}
use Rattle.text.specs.declared.pace.Pace.{Pace}

-- how many in a second, at the greatest of 64 bits
abbrev pub rate : Pace → ℕ
rate p = min (p.count * 1000000000 / max p.nanoseconds 1) (2 ^ 64 - 1)

-- seconds with three digits behind the point
abbrev pub seconds_text : ℕ → List ℕ
seconds_text milliseconds = flat_map (λ part. part) (
    decimal (milliseconds / 1000) ∷ codes "." ∷ decimal (milliseconds / 100 % 10) ∷ decimal (milliseconds / 10 % 10) ∷ decimal (milliseconds % 10) ∷ [])

abbrev pub pace_text : Pace → List ℕ
pace_text p = flat_map (λ part. part) (codes "in " ∷ seconds_text (p.nanoseconds / 1000000) ∷ codes " s, " ∷ decimal (rate p) ∷ codes " a second" ∷ [])

-- three messages in a twelfth of a second
abbrev pub three_in_a_twelfth : Pace
three_in_a_twelfth = record { count = 3; nanoseconds = 83333333 }

abbrev pub PacesAreCut : Type 0
PacesAreCut =
    (rate three_in_a_twelfth ≡ 36)
    × (pace_text three_in_a_twelfth ≡ flat_map (λ part. part) (codes "in " ∷ seconds_text 83 ∷ codes " s, " ∷ decimal 36 ∷ codes " a second" ∷ []))
    × (seconds_text 83 ≡ flat_map (λ part. part) (decimal 0 ∷ codes "." ∷ decimal 0 ∷ decimal 8 ∷ decimal 3 ∷ []))
