-- `end` puts the bytes back into their borrows, and the share of the region's token back to the owner.
use Rattle.region.proofs.Steps.{◌≡◌, ℕ, ◌+◌, ◌^◌, ◌<◌, List, [], ◌∷◌, ◌++◌, refl, sym, ap, ◌∙◌, arith, proved_at, tables, flft, fat, sem, w64, u8, ‵, raw, ◌⊛◌, later, prop, ◌$◌, ◌∵◌, !, qed, done, move, keep, use1, use2, split, fsplit, fsplit3, fjoin, fpick, join, learn, await, rewrite, regoal, suffices, forget, fact, heard, agg, of_opd, get, get_in, fld, stop, sub, whole, take_at, give_at, and_then, enter, no_more, returns, alloc_all, pass_all, free_all, look_at, sets, yes, plain, owns, alive, types_at, as_fields, layout, Val, WpFn, Goes-blank, Stays, walk_of, says_both, stay_dropped, ends_at, nothing, none, one_had, two, none_made, two_made, tells, plainly, only}
use mir.Val.{vint}
use base.Fraction.{full_share}
use base.Logic.{apply∗}
use types.Kit.{given}
use types.ByLocal.{lands_as}
use types.Tokens.{obor_close}
use denote.RawPtr.{Ptr, block_ptr}
use denote.RawPtr.Bytes.{bytes}
use denote.Triple.Call.{calls_at}
use denote.Triple.Table.{framed}
use Rattle.std_alloc.proofs.vec.lodged.Vec+T+Lodged.dislodge.Met.{met}
use Rattle.bytes.specs.Ownership.{IsPlaced, run_owns, opened}
use Rattle.bytes.proofs.Loans.{close_all, run_out}
use Rattle.bytes.proofs.Lodging.{Housed, housed-laws, byte_laws, Dislodges, at_dislodge, dislodge_goes, dislodge_gives}
use Rattle.region.specs.Identity.{Identity}
use Rattle.region.specs.Owned.{names_from, write_owns}
use Rattle.region.specs.Lent.{IsOut}
use Rattle.region.proofs.Owners.{Counted, counted_laws}
use Rattle.region.specs.contracts.access.WriteAccess as W
use Rattle.region.specs.contracts.loan.Loan as L
use Rattle.region.proofs.loan.Loan.TheLaws as loan_laws
use Rattle.region.specs.contracts.loan.Loan.end as f
use Rattle.region.proofs.loan.Loan.end.Statement.{statement}
use Rattle.region.proofs.loan.Loan.end.Code as code

abbrev stayed : Stays f.ended.signature.params f.ended.kept
stayed = (stay_dropped _ yes, (stay_dropped _ yes, tt))

pub end_spec : {M : Type 1} → statement M
end_spec 𝓤 𝓛 𝓜 𝓡 wired =
    let c = f.clauses 𝓛 𝓜.mem 𝓡.returns in let 𝓦 = walk_of 𝓛 f.ended stayed c in let 𝓣 = tables 𝓤 𝓛.H 𝓜 𝓡 𝓡.env in
    proved_at 𝓛 f.ended stayed c 𝓜 𝓡 (Goes-blank 𝓛 0 (plain (λ _. L.the_row)) yes (λ κs x w. tt), (Goes-blank 𝓛 0 (plain (λ _. Housed)) yes (λ κs x w. tt), tt))
    f.Key.name code.function (code.unfolded 𝓤 𝓛.H 𝓜 𝓡 wired) (λ z are.
    let t = z.0.3.0 in let v = z.0.3.1.0 in let vss = z.0.4 in let i : Identity = t.identity in let xs = v.items in
    let b = i.block in let o = i.first + t.at in let gs = names_from i t.at in let access : W.the_row.Denot = record { identity = i; at = t.at; items = xs } in
    let D = Dislodges 𝓛 𝓜.mem 𝓡.returns in
    qed 𝓛 ((raw (alive 𝓛 f.ended.signature z.0.0 z.0.1) ⊛ ‵ (owns (types_at f.ended.signature.params z.0.0) z.0.3 z.0.4)) ∷ raw (fact 𝓤 (IsOut v t)) ∷ []) ∵
    move ! (1 ∷ []) $ heard ! (IsOut v t) (λ out. split ! $ forget ! $ fsplit ! $ tells ! L.the_row loan_laws.the_row_laws t vss.0 (λ w is₀ good. move ! (1 ∷ []) $ fsplit ! $ tells ! Housed housed-laws v vss.1.0 (λ k is₁ fine.
    regoal ! (λ (us : List Val). prop (WpFn 𝓤 𝓛.H 𝓣.C 𝓣.Λ code.function us (𝓦.post z))) (λ j. is₀ j ++ (is₁ j ++ [])) refl $
    enter ! _ _ _ _ _ $ alloc_all ! (λ l. pass_all ! refl (good, (fine, tt)) $
    let y = at_dislodge 𝓛 𝓜.mem 𝓡.returns v k in
    sets ! (of_opd ! (get ! refl)) refl fine $ use1 𝓛 (raw (D.pre y)) (dislodge_goes 𝓛 𝓜.mem 𝓡.returns v k) $
    calls_at ! (framed 𝓤 𝓛.H 𝓜 𝓣) D (met 𝓤 𝓛 𝓜 𝓡 (code.calls-std_alloc::vec::lodged::Vec+T+Lodged::dislodge 𝓡.env wired) u8 byte_laws) y (and_then ! (get ! refl) (no_more !)) (λ r.
    let filled : 0 < v.len = let same = out.all in let some = out.some in omega (arith, same, some) in
    use1 𝓛 (later (given ((r ≡ vint w64 v.len) × (v.len < 2 ^ 64)) (‵ (run_owns v.ptr xs)))) (dislodge_gives 𝓛 𝓜.mem 𝓡.returns v k filled r) $ await ! tt $ learn ! (λ got.
    lands_as ! got.0 refl (tt, record { fits = got.1 }) $
    rewrite ! 0 (λ (p : Ptr). ‵ (run_owns p xs)) out.place refl $ use1 𝓛 (given (IsPlaced (block_ptr b o)) (‵ (bytes full_share xs b o))) (run_out 𝓛 (block_ptr b o) xs) $ learn ! (λ _.
    -- [the bytes; nothing; the loan]
    move ! (2 ∷ []) $ fsplit ! $ forget ! $ fpick ! (λ x. fpick ! (λ same. fpick ! (λ s. fsplit3 ! $
    rewrite ! 2 (λ (n : ℕ). ‵ (opened i.life s.2 gs n b o)) (sym out.all ∙ v.ok.0) refl $ move ! (3 ∷ 2 ∷ []) $
    use2 𝓛 (later (‵ (write_owns i t.at xs) ⊛ ‵ (flft (i.life ∷ []) s.2))) (close_all 𝓛 i.life b s.2 gs xs o) $ await ! tt $ split ! $
    -- [the borrows; the region's token; the way back to the owner; the open borrow]
    move ! (3 ∷ 1 ∷ []) $ obor_close ! tt $ forget ! $ move ! (0 ∷ 2 ∷ []) $
    let Whole = (plainly (Counted ∷ [])).own_val (x.region, tt) (w ∷ []) in
    use2 𝓛 (‵ Whole) (apply∗ 𝓤 (sem 𝓛 (flft (s.0 ∷ []) s.1)) (sem 𝓛 Whole)) $ one_had ! Counted counted_laws x.region (w ∷ []) (λ u shape sound.
    take_at ! 1 $ rewrite ! 0 (λ (q : Val). ‵ (fat full_share (layout L.the_row) (l 1) 0 q)) (ap only shape) refl $ give_at ! 1 $
    sets ! (of_opd ! (get_in ! (fld ! refl (stop !)) (sub ! 0 refl (whole !)))) refl sound $ sets ! (of_opd ! (get ! refl)) refl sound $ sets ! (agg ! (no_more !)) refl (tt, tt) $
    sets ! (agg ! (and_then ! (get ! refl) (and_then ! (get ! refl) (no_more !)))) refl (as_fields (layout Counted ∷ layout W.the_row ∷ []) (u ∷ none ∷ []) (sound, ((tt, tt), tt))) $
    move ! (1 ∷ []) $ none_made ! $ fjoin ! $ move ! (1 ∷ 0 ∷ []) $ two_made ! Counted W.the_row x.region access u none $
    returns ! (look_at ! 0 refl) $ free_all ! refl $
    suffices ! _ (ends_at 𝓛 f.ended stayed c z (two u none) (x.region, access) (tt, (tt, tt)) (tt, (tt, tt))) $ says_both ! same refl $
    keep ! (0 ∷ []) $ nothing ! $ nothing ! $ join ! $ nothing ! $ join ! $ nothing ! $ done !))))))))))))
