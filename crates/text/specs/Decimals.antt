-- Which text spells which number.
use Rattle.std.specs.Prelude.{ℕ, ◌+◌, ◌-◌, ◌^◌, ℤ, pos, neg_ℤ, Bool, ◌&&◌, nat_lt, List, length, drop, Option, Some, None, if◌then◌else◌}
use Rattle.std.specs.List.{list_all}
use Rattle.std.specs.Char.{is_ascii_digit}
use Rattle.std.specs.Str.Parse.{digits_value, starts_with_minus}

infixl 10 ◌>>=◌
abbrev pub ◌>>=◌ : {A B : Type 0} → Option A → (A → Option B) → Option B
(Some x) >>= f = f x
None >>= f = None

-- one digit or more, of a number of at most `most`
abbrev pub is_number : ℕ → List ℕ → Bool
is_number most digits = nat_lt 0 (length digits) && (list_all is_ascii_digit digits && nat_lt (digits_value 10 digits) (most + 1))

unfoldable pub number_of : ℕ → List ℕ → Option ℕ
number_of most digits = if is_number most digits then Some (digits_value 10 digits) else None

-- a number of 32 bits, behind a minus sign or not
unfoldable pub signed_of : List ℕ → Option ℤ
signed_of word =
    if starts_with_minus word then (number_of (2 ^ 31) (drop 1 word) >>= λ n. Some (neg_ℤ (pos n)))
    else (number_of (2 ^ 31 - 1) word >>= λ n. Some (pos n))
