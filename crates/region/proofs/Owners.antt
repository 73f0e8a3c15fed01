-- What an owner of a counted region can give for a while. Assumes `Logic`.
use Rattle.std.proofs.Common.{ℕ, ◌+◌, [], ◌∷◌, Bool, false}
use seplogic.Ra.Ura.{Ura}
use base.Fraction.{full_share}
use base.Logic.{SProp, ent, sep, ex}
use base.Fml.{Incl-refl, Share, fwand, flft}
use contract.BorrowLft.{⊑_refl}
use mir.Val.{Val}
use types.Logic.{Logic, sem}
use types.Kit.{later, use0, use1, use2, await, updating, now, ‵, ◌$◌, ◌∵◌, !, qed, ◌⊛◌, move, drop, split, frame, assume, show, fsplit, fsplit3, fjoin, fjoin3, fpick, fpack, done}
use types.RcWeak.{part, part_in}
use denote.Param.Laws.{Laws}
use denote.RattleType.{RattleType}
use denote.RawPtr.{block_of, count_of}
use denote.SharingLaws.{contraction}
use Rattle.std.specs.contracts.alloc.Global as heap
use Rattle.std.specs.contracts.impls.GlobalAllocator.TheImpl.{ghosts}
use Rattle.std.proofs.alloc.Global.TheLaws as heap_laws
use Rattle.std_alloc.specs.Owners.{sole_or_counted}
use Rattle.std_alloc.specs.Arc.Ownership.{sole_owns, counted_owns, owner_owns, value_and_blocks, fields_shared}
use Rattle.std_alloc.specs.contracts.arc.Arc as Arc
use Rattle.std_alloc.proofs.ArcSteps.{arc-Settles}
use Rattle.std_alloc.proofs.SharedLaws.{arc_fields_laws}
use Rattle.std_alloc.proofs.arc.Arc.TheLaws as arc_laws
use Rattle.bytes.proofs.Walks.{plainly, one, one_made}
use Rattle.region.specs.contracts.region.Region as R
use Rattle.region.proofs.region.Region.TheLaws as region_laws
use Rattle.region.proofs.Lasts.{Lasting}

abbrev pub Counted : RattleType
Counted = Arc.the_row R.the_row heap.the_row ghosts

abbrev pub counted_laws : Laws Counted
counted_laws = arc_laws.the_row_laws R.the_row heap.the_row ghosts region_laws.the_row_laws heap_laws.the_row_laws

module _ {M : Type 1} {𝓤 : Ura M} (𝓛 : Logic 𝓤) (d : Counted.Denot) (u : Val) where
  -- a share of the token of its own lifetime, under which the region lasts, and the way back
  abbrev pub Given : ℕ × Share → SProp 𝓤
  Given s =
      sep 𝓤 (sem 𝓛 (Lasting (s.0 ∷ []) d.value.identity))
      (sep 𝓤 (sem 𝓛 (flft (s.0 ∷ []) s.1)) (sem 𝓛 (fwand (flft (s.0 ∷ []) s.1) ((plainly (Counted ∷ [])).own_val (d, tt) (one u ∷ [])))))

  pub owner_gives : ent 𝓤 (sem 𝓛 (Counted.own_val d (u ∷ []))) (𝓛.H.⇛ (ex 𝓤 Given))
  owner_gives =
      let p = d.ptr in let x = d.value in let t = ghosts.dealloc_token in
      let shown = fields_shared heap.the_row t R.the_row p x in let counted = counted_owns heap.the_row t R.the_row p x in
      let settled = arc-Settles heap.the_row R.the_row t heap_laws.the_row_laws region_laws.the_row_laws 𝓛 p x [] (⊑_refl []) (⊑_refl []) [] full_share (Incl-refl []) in
      qed 𝓛 (‵ (Counted.own_val d (u ∷ [])) ∷ []) ∵ updating ! $ fsplit ! $ move ! (1 ∷ []) $ fsplit ! $ use0 𝓛 (‵ (flft [] full_share)) (𝓛.lfts.lft-nil full_share) $ move ! (2 ∷ 0 ∷ []) $
      use2 𝓛 (later (‵ counted ⊛ ‵ (flft [] full_share))) settled $ await ! tt $ split ! $ move ! (1 ∷ []) $ drop ! $ now ! $
      fpick ! (λ a. fsplit3 ! $ fpick ! (λ e. fpick ! (λ counts. move ! (2 ∷ []) $
      -- [what is shared; the token; the count; the rest of the `Arc`]
      use1 𝓛 (‵ (shown (a ∷ [])) ⊛ ‵ (shown (a ∷ []))) (contraction 𝓛 shown (arc_fields_laws heap.the_row t R.the_row heap_laws.the_row_laws.shr_laws region_laws.the_row_laws.shr_laws p x) (a ∷ [])) $ split ! $
      fsplit ! $ move ! (1 ∷ []) $ drop ! $ fsplit ! $ drop ! $ fsplit ! $ drop ! $ show ! Given (a, e) $
      frame ! $ move ! (1 ∷ []) $ frame ! $ assume ! (‵ (flft (a ∷ []) e)) $ use1 𝓛 (‵ (part 63 a)) (part_in 63 𝓛 a e counts) $
      move ! (0 ∷ 2 ∷ 1 ∷ []) $ fjoin3 ! $ fpack ! ℕ (λ i. owner_owns (value_and_blocks heap.the_row t R.the_row p x) (block_of p) (count_of p + 0) i shown) a $
      fpack ! Bool (sole_or_counted (sole_owns heap.the_row t R.the_row p x) counted) false $ move ! (1 ∷ 0 ∷ []) $ fjoin ! $ move ! (1 ∷ 0 ∷ []) $ fjoin ! $ one_made ! Counted d u $ done !)))
