-- A `&` to a region shows that the region's lifetime lasts. Assumes `Logic`.
use Rattle.std.proofs.Common.{ℕ, [], ◌∷◌}
use seplogic.Ra.Ura.{Ura}
use base.Logic.{ent}
use base.Fml.{Lft, Fml, fhide, flft, fshr_bor}
use ghost.Rules.{Halves}
use types.Logic.{Logic, sem}
use types.Kit.{‵, ◌⊛◌, ◌$◌, ◌∵◌, !, qed, drop, use1, split, done}
use denote.Memory.{hidden_shr}
use denote.Opens.{unhide}
use denote.Struct.Lending.{lent_out}
use denote.Struct.Owning.{shape, to}
use denote.Struct.Struct.{Struct}
use Rattle.region.specs.Identity.{Identity}
use Rattle.region.specs.contracts.region.Emptied as E
use Rattle.region.specs.contracts.region.Region as R

abbrev pub Lasting : Lft → Identity → Fml
Lasting κ i = fshr_bor κ (λ q. flft (i.life ∷ []) q)

pub lasts : {M : Type 1} {𝓤 : Ura M} (𝓛 : Logic 𝓤) (d : R.the_row.Denot) (κ : Lft) (b o : ℕ) → ent 𝓤 (sem 𝓛 (hidden_shr R.the_row κ d b o)) (sem 𝓛 (Lasting κ d.identity))
lasts 𝓛 d κ b o =
    qed 𝓛 (‵ (hidden_shr R.the_row κ d b o) ∷ []) ∵
    use1 𝓛 (‵ (hidden_shr (Struct (shape R.the_type)) κ (to R.the_type d) b o) ⊛ ‵ (fhide (Lasting κ d.identity)))
    (lent_out 𝓛 R.struct (R.the_codes E.the_row.coded) R.the_heap R.the_lent κ d b o) $ split ! $ drop ! $ unhide ! $ done !

pub token_halves : {M : Type 1} {𝓤 : Ura M} (𝓛 : Logic 𝓤) (κ : Lft) → Halves 𝓤 𝓛.H 𝓛.A (λ q. flft κ q)
token_halves 𝓛 κ = record { cut = 𝓛.lfts.lft_split κ; join = 𝓛.lfts.lft_join κ }
