-- What a seat owns doesn't depend on the order of its slots.
use Rattle.std.proofs.Common.{ℕ, zero, suc, List}
use seplogic.Ra.Ura.{Ura}
use base.Logic.{ent, id⊢, via}
use base.Stored.{Coded}
use types.Logic.{Logic, sem}
use denote.RattleType.{RattleType}
use Rattle.atomic_table.specs.Table.{turned}
use Rattle.atomic_table.specs.Seated.{TableId, mine}
use Rattle.atomic_table.proofs.Moves.{turns}
use Rattle.log_memory.specs.Order.{rotated}

module _ {M : Type 1} {𝓤 : Ura M} (𝓛 : Logic 𝓤) (R : RattleType) {V : Type 0} (cv : Coded V) (z : TableId) where
  pub rotates : (id : ℕ) (v : V) (n : ℕ) (cs : List (ℕ × R.Denot)) → ent 𝓤 (sem 𝓛 (mine R cv.code z id (v, cs))) (sem 𝓛 (mine R cv.code z id (v, rotated n cs)))
  rotates id v zero cs = id⊢ 𝓤 _
  rotates id v (suc n) cs = via 𝓤 (sem 𝓛 (mine R cv.code z id (v, turned cs))) (turns 𝓛 R cv z id v cs) (rotates id v n (turned cs))
