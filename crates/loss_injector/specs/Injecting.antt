-- What a contract sees of an injector, and what a datagram makes it give.
use Rattle.std.specs.Prelude.{◌≡◌, ℕ, List, Option, None}
use Rattle.theory.specs.Loss.{Rates, Verdict, IsVerdict, given, Hold}

pub record Injecting : Type 0 where
  pub rates : Rates
  pub held : Option (List ℕ)

-- by the verdict of its word, the datagram makes the injector give these, in order, and hold what it holds then
pub record Gives (old : Injecting) (word : ℕ) (datagram : List ℕ) (out : List (List ℕ)) (new : Injecting) : Type 0 where
  pub verdict : Verdict
  pub decided : IsVerdict old.rates word verdict
  pub out_is : out ≡ (given old.held datagram verdict).out
  pub new_is : new ≡ record old { held = (given old.held datagram verdict).held }

-- a datagram that comes with this word is held back, as none is yet
abbrev pub IsKeeping : Injecting → ℕ → Type 0
IsKeeping i word = IsVerdict i.rates word Hold × (i.held ≡ None)
