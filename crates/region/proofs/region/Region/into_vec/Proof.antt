-- `into_vec` ends the lifetime, and the bytes that are back are the `Vec`'s again.
use Rattle.region.proofs.Steps.{ℕ, List, [], ◌∷◌, ◌++◌, length, refl, ◌∙◌, proved_at, tables, ftrue, fsep, sem, ‵, raw, ◌⊛◌, later, prop, ◌$◌, ◌∵◌, !, qed, done, move, keep, join, use1, use2, split, fsplit, fsplit3, fjoin, fpick, feq_l, feq_i, await, regoal, suffices, forget, of_opd, get_in, get, fld, stop, sub, whole, enter, returns, alloc_all, pass_all, free_all, look_at, sets, plain, yes, owns, alive, types_at, as_fields, layout, Val, WpFn, Goes-blank, Stays, walk_of, says, stay_dropped, ends_at, nothing, one, one_had, plainly, only, take_at, give_at, rewrite, fat, ap}
use base.Fml.{fex, feq, fwand}
use base.Fraction.{full_share}
use base.Logic.{all_e, apply∗}
use types.Tokens.{lft_end}
use denote.RawPtr.Bytes.{bytes}
use Rattle.bytes.proofs.Loans.{Back, regain}
use Rattle.region.proofs.Memory.{Bytes, bytes_laws, Inner}
use Rattle.region.specs.Identity.{Identity}
use Rattle.region.specs.contracts.region.Emptied as E
use Rattle.region.proofs.region.Emptied.TheLaws as emptied_laws
use Rattle.region.specs.contracts.region.Region as R
use Rattle.region.specs.contracts.region.Region.into_vec as f
use Rattle.region.proofs.region.Region.into_vec.Statement.{statement}
use Rattle.region.proofs.region.Region.into_vec.Code as code

abbrev stayed : Stays f.ended.signature.params f.ended.kept
stayed = (stay_dropped _ yes, tt)

pub into_vec_spec : {M : Type 1} → statement M
into_vec_spec 𝓤 𝓛 𝓜 𝓡 wired =
    let c = f.clauses 𝓛 𝓜.mem 𝓡.returns in let 𝓦 = walk_of 𝓛 f.ended stayed c in let 𝓣 = tables 𝓤 𝓛.H 𝓜 𝓡 𝓡.env in
    proved_at 𝓛 f.ended stayed c 𝓜 𝓡 (Goes-blank 𝓛 0 (plain (λ _. R.the_row)) yes (λ κs x w. tt), tt)
    f.Key.name code.function (code.unfolded 𝓤 𝓛.H 𝓜 𝓡 wired) (λ z are.
    let region = z.0.3.0 in let i : Identity = region.identity in
    let Given = λ (xs : List ℕ). fsep (feq ℕ (length xs) (length i.names)) (bytes full_share xs i.block i.first) in
    qed 𝓛 ((raw (alive 𝓛 f.ended.signature z.0.0 z.0.1) ⊛ ‵ (owns (types_at f.ended.signature.params z.0.0) z.0.3 z.0.4)) ∷ ‵ ftrue ∷ []) ∵
    split ! $ forget ! $ fsplit ! $ fsplit ! $ one_had ! E.the_row emptied_laws.the_row_laws region.memory z.0.4.0 (λ w is good.
    rewrite ! 0 (λ (j : Identity). ‵ (E.the_row.own_val j (w ∷ []))) region.same refl $
    regoal ! (λ (us : List Val). prop (WpFn 𝓤 𝓛.H 𝓣.C 𝓣.Λ code.function (us ++ []) (𝓦.post z))) is refl $
    enter ! _ _ _ _ _ $ alloc_all ! (λ l. pass_all ! refl (as_fields (layout E.the_row ∷ []) (w ∷ []) (good, tt), tt) $
    let Owned = λ (x : Inner). (plainly (Bytes ∷ [])).own_val (x.vec, tt) (w ∷ []) in
    let Got = λ (xs : List ℕ). fex Inner (λ (x : Inner). fsep (feq (List ℕ) x.vec.items xs) (Owned x)) in
    fsplit ! $ fpick ! (λ typed. forget ! $ move ! (1 ∷ []) $ fsplit ! $ lft_end ! tt $
    use2 𝓛 (later (‵ (fex (List ℕ) (Back 𝓛 i.life i.block i.names i.first)))) (regain 𝓛 i.life i.block i.names i.first) $ await ! tt $ fpick ! (λ zs. fsplit3 ! $ feq_l ! (λ long.
    -- [the bytes; their names; the way back; ..]
    feq_i ! ℕ (length zs) (length i.names) long $ fjoin ! $ move ! (2 ∷ []) $ use1 𝓛 (‵ (fwand (Given zs) (Got zs))) (all_e 𝓤 (λ xs. sem 𝓛 (fwand (Given xs) (Got xs))) zs) $
    move ! (1 ∷ 0 ∷ []) $ use2 𝓛 (‵ (Got zs)) (apply∗ 𝓤 (sem 𝓛 (Given zs)) (sem 𝓛 (Got zs))) $ fpick ! (λ x. fsplit ! $ feq_l ! (λ same. one_had ! Bytes bytes_laws x.vec (w ∷ []) (λ u shape fine.
    take_at ! 1 $ rewrite ! 0 (λ (y : Val). ‵ (fat full_share (layout R.the_row) (l 1) 0 (one y))) (ap only shape) refl $ give_at ! 1 $
    sets ! (of_opd ! (get_in ! (fld ! refl (stop !)) (sub ! 0 refl (whole !)))) refl (as_fields (layout Bytes ∷ []) (u ∷ []) (fine, tt)) $
    sets ! (of_opd ! (get_in ! (fld ! refl (stop !)) (sub ! 0 refl (whole !)))) refl fine $
    sets ! (of_opd ! (get ! refl)) refl fine $
    returns ! (look_at ! 0 refl) $ free_all ! refl $
    suffices ! _ (ends_at 𝓛 f.ended stayed c z u x.vec ((tt, tt), tt) (tt, tt)) $ says ! (x.vec.ok.0 ∙ ap length same ∙ long) $
    keep ! (0 ∷ []) $ nothing ! $ nothing ! $ join ! $ nothing ! $ done !)))))))))
