-- `split` cuts the tokens.
use Rattle.region.proofs.Steps.{◌-◌, ◌^◌, ◌≤◌, ℕ, [], ◌∷◌, refl, arith, proved, ftrue, w64, ‵, raw, ◌⊛◌, ◌$◌, ◌∵◌, !, qed, done, move, use1, split, fsplit, fjoin, join, suffices, forget, fact, heard, agg, get, and_then, enter, no_more, returns, alloc_all, pass_all, free_all, look_at, sets, yes, usize, uint_vals, uint_Tells, plain, Stays, walk_of, says_both, stay_dropped, Goes-dropped, ends_at, nothing, none, two, none_made, none_had, two_made}
use Rattle.region.specs.Owned.{read_owns}
use Rattle.region.proofs.Rights.{read_cut}
use Rattle.region.specs.contracts.access.ReadAccess as A
use Rattle.region.proofs.access.ReadAccess.TheLaws.{lowers}
use Rattle.region.specs.contracts.access.ReadAccess.split as f
use Rattle.region.proofs.access.ReadAccess.split.Statement.{statement}
use Rattle.region.proofs.access.ReadAccess.split.Code as code

abbrev stayed : Stays f.ended.signature.params f.ended.kept
stayed = (stay_dropped _ yes, (stay_dropped _ yes, tt))

pub split_spec : {M : Type 1} → statement M
split_spec 𝓤 𝓛 𝓜 𝓡 wired =
    let c = f.clauses 𝓛 𝓜.mem 𝓡.returns in
    proved 𝓛 f.ended stayed c 𝓜 𝓡 (Goes-dropped 𝓛 0 (plain (λ _. A.the_row)) yes (λ κs x w. refl), (Goes-dropped 𝓛 0 (plain (λ _. usize)) yes (λ κs x w. refl), tt))
    f.Key.name code.function (code.unfolded 𝓤 𝓛.H 𝓜 𝓡 wired)
    (λ κs. ((λ _. none ∷ []), (uint_vals w64, tt))) (λ κs. (lowers.val_is, (uint_Tells w64, tt))) (λ κs qs bounds a n are.
    let g = a.0 in let k = a.1.0 in let R = A.the_row in
    let y : (walk_of 𝓛 f.ended stayed c).Ghost = ((κs, qs, bounds, a, (none ∷ [], (uint_vals w64 k, tt))), n) in
    let r : R.Denot = record g { count = k } in let s : R.Denot = record g { count = g.count - k } in
    let own = λ (m : ℕ). read_owns g.round g.identity g.at g.items m in
    let Asked = (k ≤ g.count) × (g.count ≤ 2 ^ 63) in
    qed 𝓛 ((‵ ftrue ⊛ ‵ (R.own_val g (none ∷ [])) ⊛ ‵ (usize.own_val k (uint_vals w64 k)) ⊛ ‵ ftrue) ∷ raw (fact 𝓤 Asked) ∷ []) ∵
    split ! $ move ! (2 ∷ []) $ heard ! Asked (λ asked. forget ! $ split ! $ fsplit ! $ none_had ! (none ∷ []) (λ _. move ! (1 ∷ []) $ forget ! $
    use1 𝓛 (‵ (own k) ⊛ ‵ (own (g.count - k))) (read_cut 𝓛 g.round g.identity g.at g.items g.count k (g.count - k) (let few = asked.0 in omega arith) asked.1) $ split ! $
    none_made ! $ fjoin ! $ move ! (1 ∷ []) $ none_made ! $ fjoin ! $ move ! (1 ∷ 0 ∷ []) $ two_made ! R R r s none none $
    enter ! _ _ _ _ _ $ alloc_all ! (λ l. pass_all ! refl ((tt, tt), ((tt, record { fits = are.1.0.1 }), tt)) $
    sets ! (agg ! (no_more !)) refl (tt, tt) $ sets ! (agg ! (no_more !)) refl (tt, tt) $
    sets ! (agg ! (and_then ! (get ! refl) (and_then ! (get ! refl) (no_more !)))) refl (tt, (tt, (tt, tt))) $
    returns ! (look_at ! 0 refl) $ free_all ! refl $
    suffices ! _ (ends_at 𝓛 f.ended stayed c y (two none none) (r, s) (tt, (tt, tt)) (tt, (tt, tt))) $ says_both ! refl refl $
    nothing ! $ nothing ! $ join ! $ nothing ! $ join ! $ nothing ! $ done !))))
