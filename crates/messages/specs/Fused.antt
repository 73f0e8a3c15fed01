-- A reader whose end is read once, and what it has left.
use Rattle.std.specs.Prelude.{ℕ, Bool, true, false, List, [], Option, Some}

-- the reader behind it, and whether a read of that has found its end
pub record Fused (R : Type 0) : Type 0 where
  pub inner : R
  pub ended : Bool

-- nothing was read of it yet
abbrev pub unread : {R : Type 0} → R → Fused R
unread inner = record { inner = inner; ended = false }

-- behind its end nothing is left, whatever the reader behind it may come to have
abbrev pub left_of : Option (List ℕ) → Bool → Option (List ℕ)
left_of inner true = Some []
left_of inner false = inner

abbrev pub fused_remaining : {R : Type 0} → (R → Option (List ℕ)) → Fused R → Option (List ℕ)
fused_remaining remaining f = left_of (remaining f.inner) f.ended
