-- `append` makes one run of two.
use Rattle.region.proofs.Steps.{◌≡◌, ◌+◌, ◌++◌, ℕ, [], ◌∷◌, length, refl, proved, ftrue, ‵, raw, ◌⊛◌, ◌$◌, ◌∵◌, !, qed, done, move, use2, split, fsplit, fjoin, join, rewrite, suffices, forget, fact, heard, agg, enter, no_more, returns, alloc_all, pass_all, free_all, look_at, sets, yes, plain, Stays, walk_of, says, stay_dropped, Goes-dropped, ends_at, nothing, none, none_made, none_had}
use Rattle.region.specs.Identity.{Identity}
use Rattle.region.specs.Owned.{write_owns}
use Rattle.region.proofs.Rights.{appended}
use Rattle.region.specs.contracts.access.WriteAccess as W
use Rattle.region.proofs.access.WriteAccess.TheLaws.{lowers}
use Rattle.region.specs.contracts.access.WriteAccess.append as f
use Rattle.region.proofs.access.WriteAccess.append.Statement.{statement}
use Rattle.region.proofs.access.WriteAccess.append.Code as code

abbrev stayed : Stays f.ended.signature.params f.ended.kept
stayed = (stay_dropped _ yes, (stay_dropped _ yes, tt))

pub append_spec : {M : Type 1} → statement M
append_spec 𝓤 𝓛 𝓜 𝓡 wired =
    let c = f.clauses 𝓛 𝓜.mem 𝓡.returns in let 𝓦 = walk_of 𝓛 f.ended stayed c in
    let goes = Goes-dropped 𝓛 0 (plain (λ _. W.the_row)) yes (λ κs x w. refl) in
    proved 𝓛 f.ended stayed c 𝓜 𝓡 (goes, (goes, tt)) f.Key.name code.function (code.unfolded 𝓤 𝓛.H 𝓜 𝓡 wired)
    (λ κs. ((λ _. none ∷ []), ((λ _. none ∷ []), tt))) (λ κs. (lowers.val_is, (lowers.val_is, tt))) (λ κs qs bounds a n are.
    let g = a.0 in let h = a.1.0 in let R = W.the_row in
    let y : 𝓦.Ghost = ((κs, qs, bounds, a, (none ∷ [], (none ∷ [], tt))), n) in
    let r : R.Denot = record g { items = g.items ++ h.items } in
    let Asked = (h.identity ≡ g.identity) × (h.at ≡ g.at + length g.items) in
    qed 𝓛 ((‵ ftrue ⊛ ‵ (R.own_val g (none ∷ [])) ⊛ ‵ (R.own_val h (none ∷ [])) ⊛ ‵ ftrue) ∷ raw (fact 𝓤 Asked) ∷ []) ∵
    split ! $ move ! (2 ∷ []) $ heard ! Asked (λ asked. forget ! $ split ! $ fsplit ! $ none_had ! (none ∷ []) (λ _. move ! (1 ∷ []) $ split ! $ fsplit ! $ none_had ! (none ∷ []) (λ _. move ! (2 ∷ 0 ∷ []) $
    rewrite ! 1 (λ (i : Identity). ‵ (write_owns i h.at h.items)) asked.0 refl $ rewrite ! 1 (λ (k : ℕ). ‵ (write_owns g.identity k h.items)) asked.1 refl $
    use2 𝓛 (‵ (write_owns g.identity g.at (g.items ++ h.items))) (appended 𝓛 g.identity g.at g.items h.items) $
    none_made ! $ fjoin ! $ move ! (1 ∷ []) $ forget ! $
    enter ! _ _ _ _ _ $ alloc_all ! (λ l. pass_all ! refl ((tt, tt), ((tt, tt), tt)) $
    sets ! (agg ! (no_more !)) refl (tt, tt) $ returns ! (look_at ! 0 refl) $ free_all ! refl $
    suffices ! _ (ends_at 𝓛 f.ended stayed c y none r (tt, (tt, tt)) (tt, (tt, tt))) $ says ! refl $
    nothing ! $ nothing ! $ join ! $ nothing ! $ join ! $ nothing ! $ done !)))))
