-- A `&` to some part of a round holds a share of its tokens.
use Rattle.std.proofs.Common.{ℕ, zero, suc, ◌+◌, List, [], ◌∷◌}
use seplogic.Ra.Ura.{Ura}
use mir.Syntax.{w8}
use base.Fml.{Lft, Fml, ftrue, fsep}
use types.Logic.{Logic}
use denote.Builtin.{u8}
use denote.Plain.{uint_row_laws}
use denote.Sharing.{ShrLaws, within}
use denote.SharingLaws.{nothing_shr_laws, within_shr_laws}
use denote.Slice.{elements_shr_laws}
use denote.Struct.Lending.{of_Lends, Lends, Lends-first, Lends-nothing}
use Rattle.left_right.specs.Parted.{tokens}
use Rattle.left_right.proofs.PartSteps.{lent_laws, Lends-part}
use Rattle.region.specs.Identity.{Identity, Round}
use Rattle.region.specs.Owned.{both, shown, deed_of, stake, safe, read_owns, read_shares}
use Rattle.region.specs.contracts.access.ReadAccess as C
use Rattle.region.proofs.access.ReadAccess.TheLaw.Statement.{statement}

module _ (r : Round) (i : Identity) (at : ℕ) (xs : List ℕ) where
  abbrev t : Lft → Fml
  t = within (i.life ∷ []) (shown r i at xs)

  t_laws : ShrLaws t
  t_laws = within_shr_laws (i.life ∷ []) (shown r i at xs) (elements_shr_laws u8 (uint_row_laws w8) xs i.block (i.first + at))

  laws : (k : ℕ) → ShrLaws (read_shares r i at xs k)
  laws zero = nothing_shr_laws
  laws (suc k) = lent_laws t t_laws r.life

  lends : {M : Type 1} {𝓤 : Ura M} (𝓛 : Logic 𝓤) (k : ℕ) (κ : Lft) → Lends 𝓛 (read_owns r i at xs k) (read_shares r i at xs k) κ
  lends 𝓛 zero κ = Lends-nothing 𝓛 ftrue κ
  lends 𝓛 (suc k) κ =
      Lends-first 𝓛 (fsep (tokens r.life (suc k)) (shown r i at xs (both r.life i.life))) (fsep (stake r.book (suc k)) (safe r.book (deed_of r i at xs))) (read_shares r i at xs (suc k)) κ
      (Lends-part t t_laws 𝓛 r.life (suc k) κ)

pub shares : statement
shares = of_Lends C.struct C.the_codes C.the_heap C.the_lent (λ d p. laws d.round d.identity d.at d.items d.count) tt (λ M 𝓤 𝓛 d p. lends d.round d.identity d.at d.items 𝓛 d.count C.the_row.lives)
