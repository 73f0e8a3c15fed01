-- `new` makes a pool of all bytes.
use Rattle.region.proofs.Steps.{◌≡◌, ◌+◌, ℕ, List, [], ◌∷◌, length, drop, refl, proved, ftrue, ‵, raw, ◌⊛◌, ◌$◌, ◌∵◌, !, qed, done, move, use1, split, fsplit, fjoin, join, rewrite, suffices, forget, fact, heard, agg, enter, no_more, returns, alloc_all, pass_all, free_all, look_at, sets, yes, plain, Stays, walk_of, says, stay_dropped, Goes-dropped, ends_at, nothing, none, none_made, none_had, arith}
use Rattle.bytes.specs.Ownership.{closed}
use Rattle.region.specs.Owned.{write_owns}
use Rattle.region.specs.Pooled.{all_of, pool_owns}
use Rattle.region.proofs.Pools.{all_free}
use Rattle.region.specs.contracts.access.WriteAccess as W
use Rattle.region.specs.contracts.pool.Pool as P
use Rattle.region.proofs.access.WriteAccess.TheLaws.{lowers}
use Rattle.region.specs.contracts.pool.Pool.new as f
use Rattle.region.proofs.pool.Pool.new.Statement.{statement}
use Rattle.region.proofs.pool.Pool.new.Code as code

abbrev stayed : Stays f.ended.signature.params f.ended.kept
stayed = (stay_dropped _ yes, tt)

pub new_spec : {M : Type 1} → statement M
new_spec 𝓤 𝓛 𝓜 𝓡 wired =
    let c = f.clauses 𝓛 𝓜.mem 𝓡.returns in let 𝓦 = walk_of 𝓛 f.ended stayed c in
    proved 𝓛 f.ended stayed c 𝓜 𝓡 (Goes-dropped 𝓛 0 (plain (λ _. W.the_row)) yes (λ κs x w. refl), tt) f.Key.name code.function (code.unfolded 𝓤 𝓛.H 𝓜 𝓡 wired)
    (λ κs. ((λ _. none ∷ []), tt)) (λ κs. (lowers.val_is, tt)) (λ κs qs bounds a n are.
    let g = a.0 in let i = g.identity in
    let y : 𝓦.Ghost = ((κs, qs, bounds, a, (none ∷ [], tt)), n) in
    let r : (P.the_row).Denot = record { identity = i; free = all_of (length g.items) } in
    let Asked = g.at ≡ 0 in
    qed 𝓛 ((‵ ftrue ⊛ ‵ ((W.the_row).own_val g (none ∷ [])) ⊛ ‵ ftrue) ∷ raw (fact 𝓤 Asked) ∷ []) ∵
    split ! $ move ! (2 ∷ []) $ heard ! Asked (λ asked. forget ! $ split ! $ fsplit ! $ none_had ! (none ∷ []) (λ _. move ! (1 ∷ []) $ forget ! $
    rewrite ! 0 (λ (k : ℕ). ‵ (closed i.life (drop k i.names) g.items i.block (i.first + k))) asked refl $
    rewrite ! 0 (λ (k : ℕ). ‵ (closed i.life i.names g.items i.block k)) (let e : i.first + 0 ≡ i.first = omega arith in e) refl $
    use1 𝓛 (‵ (pool_owns i (all_of (length g.items)))) (all_free 𝓛 i.life i.block i.names g.items i.first) $
    none_made ! $ fjoin ! $
    enter ! _ _ _ _ _ $ alloc_all ! (λ l. pass_all ! refl ((tt, tt), tt) $
    sets ! (agg ! (no_more !)) refl (tt, tt) $ returns ! (look_at ! 0 refl) $ free_all ! refl $
    suffices ! _ (ends_at 𝓛 f.ended stayed c y none r (tt, tt) (tt, tt)) $ says ! refl $
    nothing ! $ nothing ! $ join ! $ nothing ! $ done !))))
