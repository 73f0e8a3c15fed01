-- `begin_reading` shares the bytes, by a share of the region's token that the `&` lends.
use Rattle.region.proofs.Steps.{◌≡◌, ◌^◌, ◌<◌, [], ◌∷◌, length, refl, sym, proved, ftrue, flft, ‵, raw, ◌⊛◌, later, ◌$◌, ◌∵◌, !, qed, done, move, keep, use1, use2, split, fsplit, fjoin, fpick, join, feq_l, await, rewrite, suffices, forget, fact, heard, agg, enter, no_more, returns, alloc_all, pass_all, free_all, look_at, sets, yes, plain, Stays, walk_of, says_both, stay_dropped, Goes-dropped, ends_at, nothing, none, none_made, none_had}
use base.Fml.{GName, fex}
use mir.Syntax.{named}
use types.Kit.{split3, group}
use types.Tokens.{lft_new, shr_bor-open, obor_close}
use denote.Builtin.{RefOf}
use denote.Ref.{ShrRef, shr_vals, shr_Tells}
use Rattle.region.specs.Identity.{Identity}
use Rattle.region.proofs.Lasts.{Lasting, lasts, token_halves}
use Rattle.region.proofs.Rights.{Begun, read_begins}
use Rattle.region.specs.contracts.access.WriteAccess as W
use Rattle.region.specs.contracts.access.ReadAccess as A
use Rattle.region.specs.contracts.region.Region as R
use Rattle.region.proofs.access.WriteAccess.TheLaws.{lowers}
use Rattle.region.specs.contracts.access.WriteAccess.begin_reading as f
use Rattle.region.proofs.access.WriteAccess.begin_reading.Statement.{statement}
use Rattle.region.proofs.access.WriteAccess.begin_reading.Code as code

abbrev stayed : Stays f.ended.signature.params f.ended.kept
stayed = (stay_dropped _ yes, (stay_dropped _ yes, tt))

pub begin_reading_spec : {M : Type 1} → statement M
begin_reading_spec 𝓤 𝓛 𝓜 𝓡 wired =
    let c = f.clauses 𝓛 𝓜.mem 𝓡.returns in
    proved 𝓛 f.ended stayed c 𝓜 𝓡 (Goes-dropped 𝓛 1 (plain (λ _. W.the_row)) yes (λ κs x w. refl), (Goes-dropped 𝓛 1 (RefOf (0 ∷ []) tt (plain (λ _. R.the_row)) (λ _. tt)) yes (λ κs x w. refl), tt))
    f.Key.name code.function (code.unfolded 𝓤 𝓛.H 𝓜 𝓡 wired)
    (λ κs. ((λ _. none ∷ []), (shr_vals, tt))) (λ κs. (lowers.val_is, (shr_Tells (named 0) κs.0 R.the_row, tt))) (λ κs qs bounds a n are.
    let w = a.0 in let region = a.1.0.now in let i : Identity = w.identity in let κ = κs.0 in
    let y : (walk_of 𝓛 f.ended stayed c).Ghost = ((κs, qs, bounds, a, (none ∷ [], (shr_vals a.1.0, tt))), n) in
    let Asked = (i ≡ region.identity) × (length w.items < 2 ^ 63) in
    qed 𝓛 (((‵ (flft κ qs.0) ⊛ ‵ ftrue) ⊛ ‵ (W.the_row.own_val w (none ∷ [])) ⊛ ‵ ((ShrRef (named 0) κ R.the_row).own_val a.1.0 (shr_vals a.1.0)) ⊛ ‵ ftrue) ∷ raw (fact 𝓤 Asked) ∷ []) ∵
    move ! (1 ∷ []) $ heard ! Asked (λ asked. split ! $ split ! $ move ! (2 ∷ []) $ split3 ! $ fsplit ! $ none_had ! (none ∷ []) (λ _. move ! (1 ∷ []) $ fsplit ! $ feq_l ! (λ _.
    use1 𝓛 (‵ (Lasting κ region.identity)) (lasts 𝓛 region κ a.1.0.ref_ptr.0 a.1.0.ref_ptr.1) $ rewrite ! 0 (λ (j : Identity). ‵ (Lasting κ j)) (sym asked.0) refl $
    keep ! (0 ∷ 3 ∷ 1 ∷ []) $
    enter ! _ _ _ _ _ $ alloc_all ! (λ l. pass_all ! refl ((tt, tt), ((tt, tt), tt)) $
    shr_bor-open ! tt (token_halves 𝓛 (i.life ∷ [])) (λ q. move ! (1 ∷ []) $ lft_new ! tt (λ α. join ! $
    -- [the tokens of the round and of the region; the region's borrow; the bytes' borrows]
    move ! (2 ∷ 0 ∷ []) $ use2 𝓛 (later (‵ (fex GName (Begun 𝓛 α i w.at w.items)) ⊛ ‵ (flft (i.life ∷ []) q))) (read_begins 𝓛 α i w.at w.items q) $ await ! tt $ split ! $
    move ! (2 ∷ 1 ∷ []) $ obor_close ! tt $ forget ! $ move ! (1 ∷ []) $ fpick ! (λ book.
    let r : A.the_row.Denot = record { round = record { life = α; book = book }; count = 2 ^ 63; identity = i; at = w.at; items = w.items; small = asked.1 } in
    none_made ! $ fjoin ! $
    sets ! (agg ! (no_more !)) refl (tt, tt) $ returns ! (look_at ! 0 refl) $ free_all ! refl $
    suffices ! _ (ends_at 𝓛 f.ended stayed c y none r (tt, (tt, tt)) (tt, (tt, tt))) $ says_both ! refl (refl, refl, refl) $
    nothing ! $ nothing ! $ join ! $ nothing ! $ join ! $ nothing ! $ move ! (3 ∷ 0 ∷ []) $ join ! $ group ! 3 $ done !))))))))
