-- `put` puts bytes back.
use Rattle.region.proofs.Steps.{◌≡◌, ◌+◌, ℕ, [], ◌∷◌, length, refl, proved, ftrue, ‵, raw, ◌⊛◌, ◌$◌, ◌∵◌, !, qed, done, move, use2, split, fsplit, fjoin, join, rewrite, suffices, forget, fact, heard, agg, enter, no_more, returns, alloc_all, pass_all, free_all, look_at, sets, yes, plain, Stays, walk_of, says, stay_dropped, Goes-dropped, ends_at, nothing, none, none_made, none_had}
use mathlib.Core.Bool.{true, false}
use Rattle.region.specs.Identity.{Identity}
use Rattle.region.specs.Owned.{write_owns}
use Rattle.region.specs.Pooled.{AreAll, pool_owns, stands}
use Rattle.region.proofs.Pools.{puts}
use Rattle.region.specs.contracts.access.WriteAccess as W
use Rattle.region.specs.contracts.pool.Pool as P
use Rattle.region.proofs.access.WriteAccess.TheLaws as write
use Rattle.region.proofs.pool.Pool.TheLaws.{lowers}
use Rattle.region.specs.contracts.pool.Pool.put as f
use Rattle.region.proofs.pool.Pool.put.Statement.{statement}
use Rattle.region.proofs.pool.Pool.put.Code as code

abbrev stayed : Stays f.ended.signature.params f.ended.kept
stayed = (stay_dropped _ yes, (stay_dropped _ yes, tt))

pub put_spec : {M : Type 1} → statement M
put_spec 𝓤 𝓛 𝓜 𝓡 wired =
    let c = f.clauses 𝓛 𝓜.mem 𝓡.returns in let 𝓦 = walk_of 𝓛 f.ended stayed c in
    proved 𝓛 f.ended stayed c 𝓜 𝓡 (Goes-dropped 𝓛 0 (plain (λ _. P.the_row)) yes (λ κs x w. refl), (Goes-dropped 𝓛 0 (plain (λ _. W.the_row)) yes (λ κs x w. refl), tt)) f.Key.name code.function (code.unfolded 𝓤 𝓛.H 𝓜 𝓡 wired)
    (λ κs. ((λ _. none ∷ []), ((λ _. none ∷ []), tt))) (λ κs. (lowers.val_is, (write.lowers.val_is, tt))) (λ κs qs bounds a n are.
    let g = a.0 in let h = a.1.0 in let i = g.identity in
    let y : 𝓦.Ghost = ((κs, qs, bounds, a, (none ∷ [], (none ∷ [], tt))), n) in
    let r : (P.the_row).Denot = record g { free = stands true h.at (length h.items) g.free } in
    let Asked = (h.identity ≡ g.identity) × AreAll false h.at (length h.items) g.free in
    qed 𝓛 ((‵ ftrue ⊛ ‵ ((P.the_row).own_val g (none ∷ [])) ⊛ ‵ ((W.the_row).own_val h (none ∷ [])) ⊛ ‵ ftrue) ∷ raw (fact 𝓤 Asked) ∷ []) ∵
    split ! $ move ! (2 ∷ []) $ heard ! Asked (λ asked. forget ! $ split ! $ fsplit ! $ none_had ! (none ∷ []) (λ _. move ! (1 ∷ []) $ split ! $ fsplit ! $ none_had ! (none ∷ []) (λ _. move ! (0 ∷ 2 ∷ []) $
    rewrite ! 0 (λ (j : Identity). ‵ (write_owns j h.at h.items)) asked.0 refl $
    use2 𝓛 (‵ (pool_owns i (stands true h.at (length h.items) g.free))) (puts 𝓛 i.life i.block g.free i.names h.items h.at i.first (i.first + h.at) refl asked.1) $
    none_made ! $ fjoin ! $ move ! (1 ∷ []) $ forget ! $
    enter ! _ _ _ _ _ $ alloc_all ! (λ l. pass_all ! refl ((tt, tt), ((tt, tt), tt)) $
    sets ! (agg ! (no_more !)) refl (tt, tt) $ returns ! (look_at ! 0 refl) $ free_all ! refl $
    suffices ! _ (ends_at 𝓛 f.ended stayed c y none r (tt, (tt, tt)) (tt, (tt, tt))) $ says ! refl $
    nothing ! $ nothing ! $ join ! $ nothing ! $ join ! $ nothing ! $ done !)))))
