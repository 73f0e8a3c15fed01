-- Sums over passes, claims and frames, and where a range has a position.
use Rattle.std.specs.Prelude.{ℕ, ◌+◌, ◌-◌, List, [], ◌∷◌, min}

abbrev pub total : {A : Type 0} → (A → ℕ) → List A → ℕ
total f [] = 0
total f (x ∷ xs) = f x + total f xs

-- 1 where the range that begins here and has this length has the position x
abbrev pub covers : ℕ → ℕ → ℕ → ℕ
covers x start length = min 1 (min (x + 1 - start) (start + length - x))
