-- Frame starts in ascending order, a unit apart or more.
use Rattle.std.specs.Prelude.{ℕ, Bool, false, nat_lt, ◌+◌, ◌<◌, ◌≤◌, List, [], ◌∷◌, length, slice_index}

-- from the lower position on, and each frame ends at the upper one or before
abbrev pub AreSpaced : ℕ → ℕ → List ℕ → Type 0
AreSpaced lower upper [] = lower ≤ upper
AreSpaced lower upper (p ∷ ps) = (lower ≤ p) × AreSpaced (p + 32) upper ps

-- the first of them is below a position
abbrev pub begins_below : ℕ → List ℕ → Bool
begins_below from [] = false
begins_below from (p ∷ ps) = nat_lt p from

-- at this place those below the position end, and the others begin
pub record SplitsAt (starts : List ℕ) (position place : ℕ) : Type 0 where
  pub below : (k : ℕ) → k < place → k < length starts → slice_index starts k < position
  pub above : (k : ℕ) → place ≤ k → k < length starts → position ≤ slice_index starts k
