-- An offer that is refused, and when that is for good.
use Rattle.std.specs.Prelude.{ℕ, ⊤}
use Rattle.publication.specs.declared.pass.Pass.{Pass}
use Rattle.publication.specs.declared.refusal.Refusal.{Refusal}
use Rattle.publication.specs.declared.refusal.Refusal.TheVariants.{NotConnected, BackPressured, AdminAction, Closed, MaxPositionExceeded}
use Rattle.publication.specs.Claims.{Justified}
use Rattle.publication.specs.Refusals.{SightsJustify}

-- a message of this many bytes was refused: what the pass saw in that call justifies it, and all that it has is what it had,
-- or a padding more
pub record IsRefused (p : Pass) (size : ℕ) (why : Refusal) (q : Pass) : Type 0 where
  pub justified : Justified p size why q
  pub seen : SightsJustify p size why q

-- no later offer is accepted either
abbrev pub IsForGood : Refusal → Type 0
IsForGood NotConnected = ⊥
IsForGood BackPressured = ⊥
IsForGood AdminAction = ⊥
IsForGood Closed = ⊤
IsForGood MaxPositionExceeded = ⊤

pub record IsRefusedForGood (p : Pass) (size : ℕ) (q : Pass) : Type 0 where
  pub why : Refusal
  pub good : IsForGood why
  pub refused : IsRefused p size why q
