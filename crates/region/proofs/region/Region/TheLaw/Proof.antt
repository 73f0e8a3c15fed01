-- A `&` to a region holds a share of its lifetime's token. Assumes `Logic`.
use mathlib.Core.List.{[], ◌∷◌}
use base.Fraction.{full_share}
use base.Fml.{Share, fbor, flft}
use types.Logic.{lfts}
use types.Kit.{‵, raw, ◌$◌, ◌∵◌, !, qed, updating, now, done}
use types.Tokens.{bor_fracture}
use denote.Sharing.{one}
use denote.SharingLaws.{one_shr_laws}
use denote.Struct.Lending.{of_Lends, Lends-first}
use Rattle.bytes.specs.Ownership.{lent}
use Rattle.region.specs.Identity.{Identity}
use Rattle.region.specs.contracts.region.Emptied as Emptied
use Rattle.region.specs.contracts.region.Region as C
use Rattle.region.proofs.region.Emptied.TheLaws as emptied
use Rattle.region.proofs.region.Region.TheLaw.Statement.{statement}

pub shares : statement
shares = of_Lends C.struct (C.the_codes Emptied.the_row.coded) C.the_heap C.the_lent (λ d p. one_shr_laws (λ q. flft (d.identity.life ∷ []) q)) (emptied.the_field_shared, tt) (λ M 𝓤 𝓛 d p.
    let i : Identity = d.identity in let T = λ (q : Share). flft (i.life ∷ []) q in
    Lends-first 𝓛 (T full_share) (lent i.life i.names i.block i.first) (one T) C.the_row.lives (λ κ ts inc sp.
    qed 𝓛 (‵ (fbor κ (T full_share)) ∷ raw (lfts 𝓛 ts) ∷ []) ∵ updating ! $ bor_fracture ! tt T full_share $ now ! $ done !))
