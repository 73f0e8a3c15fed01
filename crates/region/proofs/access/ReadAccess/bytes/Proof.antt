-- `bytes` takes what is shown for the round to the lifetime of the two `&`, while which the round and the region last.
use Rattle.region.proofs.Steps.{◌≡◌, ◌∙◌, ℕ, ◌+◌, ◌*◌, ◌^◌, ◌<◌, ◌≤◌, List, [], ◌∷◌, length, take, refl, sym, ap, arith, proved, tables, ftrue, flft, w64, usize, ‵, raw, ◌⊛◌, prop, at_ret, ◌$◌, ◌∵◌, !, qed, done, move, keep, use1, use2, split, split3, fsplit, fjoin, join, feq_l, feq_i, rewrite, regoal, suffices, forget, fact, heard, agg, sub, whole, of_opd, get, get_in, fld, stop, and_then, enter, no_more, returns, first, blocks, exec, alloc_all, pass_all, free_all, look_at, sets, sets_last, env, yes, uint_vals, uint_Tells, plain, Val, WpFn, Stays, walk_of, says, stay_dropped, Goes-dropped, ends_at, nothing}
use Rattle.std.proofs.lemmas.List.{length-take-le}
use mir.Syntax.{named}
use mir.Val.{vint, vptr}
use types.Kit.{group, flt_i}
use types.Run.{bin}
use denote.Builtin.{RefOf}
use denote.Opens.{unhide, hide}
use denote.RawPtr.{Ptr}
use denote.Ref.{ShrRef, shr_vals, shr_Tells}
use denote.Slice.{slice_val}
use Rattle.region.specs.Identity.{Identity, start_address}
use Rattle.region.specs.Owned.{shown}
use Rattle.region.proofs.Lasts.{Lasting, lasts}
use Rattle.region.proofs.Rights.{first_shown, moved}
use Rattle.region.specs.contracts.access.ReadAccess as A
use Rattle.region.specs.contracts.region.Region as R
use Rattle.region.specs.contracts.region.RegionStart as S
use Rattle.region.proofs.region.RegionStart.TheLaws.{lowers}
use Rattle.region.specs.contracts.access.ReadAccess.bytes as f
use Rattle.region.proofs.access.ReadAccess.bytes.Statement.{statement}
use Rattle.region.proofs.access.ReadAccess.bytes.Code as code

abbrev stayed : Stays f.ended.signature.params f.ended.kept
stayed = (stay_dropped _ yes, (stay_dropped _ yes, (stay_dropped _ yes, (stay_dropped _ yes, (stay_dropped _ yes, tt)))))

pub bytes_spec : {M : Type 1} → statement M
bytes_spec 𝓤 𝓛 𝓜 𝓡 wired =
    let c = f.clauses 𝓛 𝓜.mem 𝓡.returns in let 𝓦 = walk_of 𝓛 f.ended stayed c in let 𝓣 = tables 𝓤 𝓛.H 𝓜 𝓡 𝓡.env in
    let number = Goes-dropped 𝓛 1 (plain (λ _. usize)) yes (λ κs x w. refl) in
    proved 𝓛 f.ended stayed c 𝓜 𝓡
    (Goes-dropped 𝓛 1 (RefOf (0 ∷ []) tt (plain (λ _. A.the_row)) (λ _. tt)) yes (λ κs x w. refl), (Goes-dropped 𝓛 1 (RefOf (0 ∷ []) tt (plain (λ _. R.the_row)) (λ _. tt)) yes (λ κs x w. refl), (Goes-dropped 𝓛 1 (plain (λ _. S.the_row)) yes (λ κs x w. refl), (number, (number, tt)))))
    f.Key.name code.function (code.unfolded 𝓤 𝓛.H 𝓜 𝓡 wired)
    (λ κs. (shr_vals, (shr_vals, ((λ s. lowers.lowered s ∷ []), (uint_vals w64, (uint_vals w64, tt)))))) (λ κs. (shr_Tells (named 0) κs.0 A.the_row, (shr_Tells (named 0) κs.0 R.the_row, (lowers.val_is, (uint_Tells w64, (uint_Tells w64, tt)))))) (λ κs qs bounds a n are.
    let s = a.0.now in let region = a.1.0.now in let start = a.1.1.0 in let at = a.1.1.1.0 in let len = a.1.1.1.1.0 in let i : Identity = s.identity in let κ = κs.0 in
    let y : 𝓦.Ghost = ((κs, qs, bounds, a, (shr_vals a.0, (shr_vals a.1.0, (lowers.lowered start ∷ [], (uint_vals w64 at, (uint_vals w64 len, tt)))))), n) in
    let fits : len < 2 ^ 64 = are.1.1.1.1.0.1 in
    let Some = 0 < s.count in let Same = i ≡ region.identity in let Placed = (start.address ≡ start_address i) × (at ≡ s.at) × (len ≤ length s.items) in
    let front : List ℕ = take len s.items in
    qed 𝓛 (((‵ (flft κ qs.0) ⊛ ‵ ftrue) ⊛ ‵ ((ShrRef (named 0) κ A.the_row).own_val a.0 (shr_vals a.0)) ⊛ ‵ ((ShrRef (named 0) κ R.the_row).own_val a.1.0 (shr_vals a.1.0)) ⊛ ‵ (S.the_row.own_val start (lowers.lowered start ∷ [])) ⊛ ‵ (usize.own_val at (uint_vals w64 at)) ⊛ ‵ (usize.own_val len (uint_vals w64 len)) ⊛ ‵ ftrue) ∷ (raw (fact 𝓤 Some) ⊛ raw (fact 𝓤 Same) ⊛ raw (fact 𝓤 Placed)) ∷ []) ∵
    move ! (1 ∷ []) $ split3 ! $ heard ! Some (λ some. heard ! Same (λ same. heard ! Placed (λ placed. split ! $ split ! $ move ! (2 ∷ []) $ split3 ! $ keep ! (0 ∷ 1 ∷ 3 ∷ []) $
    -- [the `&` to the access; to the region; the token]
    fsplit ! $ feq_l ! (λ _. unhide ! $ fsplit ! $ forget ! $ move ! (1 ∷ []) $ fsplit ! $ feq_l ! (λ _.
    use1 𝓛 (‵ (Lasting κ region.identity)) (lasts 𝓛 region κ a.1.0.ref_ptr.0 a.1.0.ref_ptr.1) $ rewrite ! 0 (λ (j : Identity). ‵ (Lasting κ j)) (sym same) refl $
    use2 𝓛 (‵ (shown s.round i s.at s.items κ)) (moved 𝓛 s.round i s.at s.items s.count κ some) $ use1 𝓛 (‵ (shown s.round i s.at front κ)) (first_shown 𝓛 s.round i s.at s.items len κ) $
    regoal ! (λ (q : Ptr). prop (WpFn 𝓤 𝓛.H 𝓣.C 𝓣.Λ code.function (vptr a.0.ref_ptr.0 a.0.ref_ptr.1 ∷ vptr a.1.0.ref_ptr.0 a.1.0.ref_ptr.1 ∷ lowers.lowered (record { address = q }) ∷ vint w64 at ∷ vint w64 len ∷ []) (𝓦.post y))) placed.0 refl $
    enter ! _ _ _ _ _ $ alloc_all ! (λ l. pass_all ! refl ((tt, tt), ((tt, tt), ((tt, (tt, tt)), ((tt, record { fits = are.1.1.1.0.1 }), ((tt, record { fits = fits }), tt))))) $
    first ! $ blocks ! $ sets ! (bin ! (get_in ! (fld ! refl (stop !)) (sub ! 0 refl (whole !))) (get ! refl) tt) refl (tt, tt) $
    sets_last ! (agg ! (and_then ! (get ! refl) (and_then ! (get ! refl) (no_more !)))) refl (tt, (tt, (record { fits = fits }, tt))) $
    exec ! 𝓣.C 𝓣.Λ (env code.Mir.locals l) code.Mir.t-2 (at_ret _ (𝓦.post y)) $
    sets ! (of_opd ! (get ! refl)) refl (tt, (tt, (record { fits = fits }, tt))) $ returns ! (look_at ! 0 refl) $ free_all ! refl $
    let reached : ℕ × ℕ = (i.block, at + i.first) in let place : ℕ × ℕ = (i.block, i.first + s.at) in let there : at + i.first ≡ i.first + s.at = omega (arith, placed.1) in
    let all : len ≡ length front = sym (length-take-le len s.items placed.2) in
    hide ! $ flt_i ! (length front * 1) (2 ^ 63) (omega (arith, s.small, all, placed.2)) $ flt_i ! (length front) (2 ^ 64) (omega (arith, s.small, all, placed.2)) $ fjoin ! $
    feq_i ! (List Val) (slice_val reached len ∷ []) (slice_val place (length front) ∷ []) (ap (λ k. slice_val (i.block, k) len ∷ []) there ∙ ap (λ k. slice_val place k ∷ []) all) $ fjoin ! $ fjoin ! $
    suffices ! _ (ends_at 𝓛 f.ended stayed c y (slice_val reached len) (record { ref_ptr = place; now = front }) (tt, (tt, (tt, (tt, (tt, tt))))) (tt, (tt, (tt, (tt, (tt, tt)))))) $ says ! refl $
    nothing ! $ nothing ! $ join ! $ nothing ! $ join ! $ nothing ! $ join ! $ nothing ! $ join ! $ nothing ! $ join ! $ nothing ! $ move ! (3 ∷ 0 ∷ []) $ join ! $ group ! 3 $ done !)))))))
