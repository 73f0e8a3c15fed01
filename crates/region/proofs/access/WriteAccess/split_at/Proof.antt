-- `split_at` cuts the borrows.
use Rattle.region.proofs.Steps.{◌+◌, ◌≤◌, [], ◌∷◌, length, take, drop, refl, proved, ftrue, w64, ‵, raw, ◌⊛◌, ◌$◌, ◌∵◌, !, qed, done, move, use1, split, fsplit, fjoin, join, suffices, forget, fact, heard, agg, get, and_then, enter, no_more, returns, alloc_all, pass_all, free_all, look_at, sets, yes, usize, uint_vals, uint_Tells, plain, Stays, walk_of, says_both, stay_dropped, Goes-dropped, ends_at, nothing, none, two, none_made, none_had, two_made}
use Rattle.region.specs.Owned.{write_owns}
use Rattle.region.proofs.Rights.{cut_at}
use Rattle.region.specs.contracts.access.WriteAccess as W
use Rattle.region.proofs.access.WriteAccess.TheLaws.{lowers}
use Rattle.region.specs.contracts.access.WriteAccess.split_at as f
use Rattle.region.proofs.access.WriteAccess.split_at.Statement.{statement}
use Rattle.region.proofs.access.WriteAccess.split_at.Code as code

abbrev stayed : Stays f.ended.signature.params f.ended.kept
stayed = (stay_dropped _ yes, (stay_dropped _ yes, tt))

pub split_at_spec : {M : Type 1} → statement M
split_at_spec 𝓤 𝓛 𝓜 𝓡 wired =
    let c = f.clauses 𝓛 𝓜.mem 𝓡.returns in
    proved 𝓛 f.ended stayed c 𝓜 𝓡 (Goes-dropped 𝓛 0 (plain (λ _. W.the_row)) yes (λ κs x w. refl), (Goes-dropped 𝓛 0 (plain (λ _. usize)) yes (λ κs x w. refl), tt))
    f.Key.name code.function (code.unfolded 𝓤 𝓛.H 𝓜 𝓡 wired)
    (λ κs. ((λ _. none ∷ []), (uint_vals w64, tt))) (λ κs. (lowers.val_is, (uint_Tells w64, tt))) (λ κs qs bounds a n are.
    let g = a.0 in let mid = a.1.0 in let R = W.the_row in
    let y : (walk_of 𝓛 f.ended stayed c).Ghost = ((κs, qs, bounds, a, (none ∷ [], (uint_vals w64 mid, tt))), n) in
    let r : R.Denot = record g { items = take mid g.items } in let s : R.Denot = record g { at = g.at + mid; items = drop mid g.items } in
    let Asked = mid ≤ length g.items in
    qed 𝓛 ((‵ ftrue ⊛ ‵ (R.own_val g (none ∷ [])) ⊛ ‵ (usize.own_val mid (uint_vals w64 mid)) ⊛ ‵ ftrue) ∷ raw (fact 𝓤 Asked) ∷ []) ∵
    split ! $ move ! (2 ∷ []) $ heard ! Asked (λ asked. forget ! $ split ! $ fsplit ! $ none_had ! (none ∷ []) (λ _. move ! (1 ∷ []) $ forget ! $
    use1 𝓛 (‵ (write_owns r.identity r.at r.items) ⊛ ‵ (write_owns s.identity s.at s.items)) (cut_at 𝓛 g.identity g.at g.items mid asked) $ split ! $
    none_made ! $ fjoin ! $ move ! (1 ∷ []) $ none_made ! $ fjoin ! $ move ! (1 ∷ 0 ∷ []) $ two_made ! R R r s none none $
    enter ! _ _ _ _ _ $ alloc_all ! (λ l. pass_all ! refl ((tt, tt), ((tt, record { fits = are.1.0.1 }), tt)) $
    sets ! (agg ! (no_more !)) refl (tt, tt) $ sets ! (agg ! (no_more !)) refl (tt, tt) $
    sets ! (agg ! (and_then ! (get ! refl) (and_then ! (get ! refl) (no_more !)))) refl (tt, (tt, (tt, tt))) $
    returns ! (look_at ! 0 refl) $ free_all ! refl $
    suffices ! _ (ends_at 𝓛 f.ended stayed c y (two none none) (r, s) (tt, (tt, tt)) (tt, (tt, tt))) $ says_both ! refl refl $
    nothing ! $ nothing ! $ join ! $ nothing ! $ join ! $ nothing ! $ done !))))
