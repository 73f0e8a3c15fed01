-- `join` puts the tokens together.
use Rattle.region.proofs.Steps.{◌≡◌, ◌+◌, ◌^◌, ◌<◌, ◌≤◌, [], ◌∷◌, refl, proved, ftrue, ‵, raw, ◌⊛◌, ◌$◌, ◌∵◌, !, qed, done, move, use2, split, fsplit, fjoin, join, rewrite, suffices, forget, fact, heard, agg, enter, no_more, returns, alloc_all, pass_all, free_all, look_at, sets, yes, plain, Stays, walk_of, says, stay_dropped, Goes-dropped, ends_at, nothing, none, none_made, none_had}
use Rattle.region.specs.Identity.{Round}
use Rattle.region.specs.Owned.{read_owns}
use Rattle.region.proofs.Rights.{read_join}
use Rattle.region.specs.contracts.access.ReadAccess as A
use Rattle.region.proofs.access.ReadAccess.TheLaws.{lowers}
use Rattle.region.specs.contracts.access.ReadAccess.join as f
use Rattle.region.proofs.access.ReadAccess.join.Statement.{statement}
use Rattle.region.proofs.access.ReadAccess.join.Code as code

abbrev stayed : Stays f.ended.signature.params f.ended.kept
stayed = (stay_dropped _ yes, (stay_dropped _ yes, tt))

pub join_spec : {M : Type 1} → statement M
join_spec 𝓤 𝓛 𝓜 𝓡 wired =
    let c = f.clauses 𝓛 𝓜.mem 𝓡.returns in let goes = Goes-dropped 𝓛 0 (plain (λ _. A.the_row)) yes (λ κs x w. refl) in
    proved 𝓛 f.ended stayed c 𝓜 𝓡 (goes, (goes, tt)) f.Key.name code.function (code.unfolded 𝓤 𝓛.H 𝓜 𝓡 wired)
    (λ κs. ((λ _. none ∷ []), ((λ _. none ∷ []), tt))) (λ κs. (lowers.val_is, (lowers.val_is, tt))) (λ κs qs bounds a n are.
    let g = a.0 in let h = a.1.0 in let R = A.the_row in
    let y : (walk_of 𝓛 f.ended stayed c).Ghost = ((κs, qs, bounds, a, (none ∷ [], (none ∷ [], tt))), n) in
    let r : R.Denot = record g { count = g.count + h.count } in
    let Same = (h.round.life ≡ g.round.life) × (h.round.book ≡ g.round.book) in let Fits = (0 < g.count) × (g.count + h.count ≤ 2 ^ 63) in
    qed 𝓛 ((‵ ftrue ⊛ ‵ (R.own_val g (none ∷ [])) ⊛ ‵ (R.own_val h (none ∷ [])) ⊛ ‵ ftrue) ∷ (raw (fact 𝓤 Same) ⊛ raw (fact 𝓤 Fits)) ∷ []) ∵
    split ! $ move ! (2 ∷ []) $ split ! $ heard ! Same (λ same. let one : h.round ≡ g.round = λ j. record { life = same.0 j; book = same.1 j } in heard ! Fits (λ fits. forget ! $ split ! $ fsplit ! $ none_had ! (none ∷ []) (λ _. move ! (1 ∷ []) $ split ! $ fsplit ! $ none_had ! (none ∷ []) (λ _. move ! (2 ∷ 0 ∷ []) $
    rewrite ! 1 (λ (ρ : Round). ‵ (read_owns ρ h.identity h.at h.items h.count)) one refl $
    use2 𝓛 (‵ (read_owns g.round g.identity g.at g.items (g.count + h.count))) (read_join 𝓛 g.round g.identity g.at g.items h.identity h.at h.items g.count h.count fits.0 fits.1) $
    none_made ! $ fjoin ! $ move ! (1 ∷ []) $ forget ! $
    enter ! _ _ _ _ _ $ alloc_all ! (λ l. pass_all ! refl ((tt, tt), ((tt, tt), tt)) $
    sets ! (agg ! (no_more !)) refl (tt, tt) $ returns ! (look_at ! 0 refl) $ free_all ! refl $
    suffices ! _ (ends_at 𝓛 f.ended stayed c y none r (tt, (tt, tt)) (tt, (tt, tt))) $ says ! refl $
    nothing ! $ nothing ! $ join ! $ nothing ! $ join ! $ nothing ! $ done !))))))
