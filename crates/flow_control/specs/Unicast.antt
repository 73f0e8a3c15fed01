-- What a contract sees of the flow control of one receiver, and what a list of events makes of it.
use Rattle.std.specs.Prelude.{ℕ, Bool, true, false, List, [], ◌∷◌, max, ◌+ℤ◌}
use Rattle.theory.specs.FlowLimit.{clipped}
use Rattle.theory.specs.GroupLimit.{GroupEvent, StatusCame, Ticked}

-- the limit, and whether a status message has come
pub record Unicast : Type 0 where
  pub limit : ℕ
  pub heard : Bool

-- behind these events, newest first, from a stream's start
abbrev pub unicast_after : ℕ → List GroupEvent → Unicast
unicast_after start [] = record { limit = start; heard = false }
unicast_after start (StatusCame r p w now ∷ es) = record { limit = max (clipped (p +ℤ w)) (unicast_after start es).limit; heard = true }
unicast_after start (Ticked now ∷ es) = unicast_after start es
