-- Which text spells which size, or number from 1 on.
use Rattle.std.specs.Prelude.{◌≡◌, ◌<◌, ◌==◌, ℕ, ◌-◌, ◌*◌, ◌^◌, ◌||◌, nat_lt, List, length, take, slice_index, Option, Some, None, if◌then◌else◌}
use Rattle.text.specs.Decimals.{◌>>=◌, number_of}

-- what a last letter stands for: k and K, m and M, g and G; any other is none of the unit
abbrev pub unit_of : ℕ → ℕ
unit_of c =
    if (c == 107) || (c == 75) then 1024
    else (if (c == 109) || (c == 77) then 1048576
    else (if (c == 103) || (c == 71) then 1073741824 else 1))

abbrev pub unit_in : List ℕ → ℕ
unit_in text = unit_of (slice_index text (length text - 1))

abbrev pub digits_in : List ℕ → List ℕ
digits_in text = if unit_in text == 1 then text else take (length text - 1) text

-- a whole number of units, of 32 bits
unfoldable pub size_of : List ℕ → Option ℕ
size_of text = number_of (2 ^ 32 - 1) (digits_in text) >>= λ n. (if nat_lt (n * unit_in text) (2 ^ 32) then Some (n * unit_in text) else None)

-- a number from 1 to `most`
pub record IsPositive (most : ℕ) (digits : List ℕ) (n : ℕ) : Type 0 where
  pub number : number_of most digits ≡ Some n
  pub some : 0 < n
