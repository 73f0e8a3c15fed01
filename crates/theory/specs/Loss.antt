-- What a network that loses, repeats and holds back datagrams does with one, by a random word.
use Rattle.std.specs.Prelude.{ℕ, ◌+◌, ◌%◌, ◌<◌, ◌≤◌, List, [], ◌∷◌, Option, None, Some}
use Rattle.std.specs.Option.{option_to_list}

-- how many of a thousand words drop, repeat and hold a datagram
pub record Rates : Type 0 where
  pub drop : ℕ
  pub repeat : ℕ
  pub hold : ℕ

abbrev pub IsRates : Rates → Type 0
IsRates r = r.drop + r.repeat + r.hold ≤ 1000

pub data Verdict : Type 0 where
  Pass : Verdict
  Drop : Verdict
  Repeat : Verdict
  Hold : Verdict

-- of the thousand remainders the first drop, the next repeat, the next hold, and the others pass
abbrev pub IsVerdict : Rates → ℕ → Verdict → Type 0
IsVerdict r word Drop = word % 1000 < r.drop
IsVerdict r word Repeat = (r.drop ≤ word % 1000) × (word % 1000 < r.drop + r.repeat)
IsVerdict r word Hold = (r.drop + r.repeat ≤ word % 1000) × (word % 1000 < r.drop + r.repeat + r.hold)
IsVerdict r word Pass = r.drop + r.repeat + r.hold ≤ word % 1000

-- the datagrams that are given, and the one that is held then
pub record Given : Type 0 where
  pub out : List (List ℕ)
  pub held : Option (List ℕ)

-- one datagram can be held: it is given behind the next that passes, is repeated or would be held
abbrev pub given : Option (List ℕ) → List ℕ → Verdict → Given
given held datagram Pass = record { out = datagram ∷ option_to_list held; held = None }
given held datagram Drop = record { out = []; held = held }
given held datagram Repeat = record { out = datagram ∷ datagram ∷ option_to_list held; held = None }
given None datagram Hold = record { out = []; held = Some datagram }
given (Some first) datagram Hold = record { out = datagram ∷ first ∷ []; held = None }
