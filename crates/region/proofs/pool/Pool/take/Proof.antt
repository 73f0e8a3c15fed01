-- `take` takes bytes out of the pool.
use Rattle.region.proofs.Steps.{◌+◌, ◌≤◌, ℕ, List, [], ◌∷◌, length, refl, proved, ftrue, w64, ‵, raw, ◌⊛◌, ◌$◌, ◌∵◌, !, qed, done, move, use1, split, fsplit, fpick, fjoin, join, suffices, forget, fact, heard, agg, get, and_then, enter, no_more, returns, alloc_all, pass_all, free_all, look_at, sets, yes, usize, uint_vals, uint_Tells, plain, Stays, walk_of, says_both, stay_dropped, Goes-dropped, ends_at, nothing, none, two, none_made, none_had, two_made}
use mathlib.Core.Bool.{true, false}
use Rattle.region.specs.Pooled.{AreAll, stands}
use Rattle.region.proofs.Pools.{Out, takes}
use Rattle.region.specs.contracts.access.WriteAccess as W
use Rattle.region.specs.contracts.pool.Pool as P
use Rattle.region.proofs.pool.Pool.TheLaws.{lowers}
use Rattle.region.specs.contracts.pool.Pool.take as f
use Rattle.region.proofs.pool.Pool.take.Statement.{statement}
use Rattle.region.proofs.pool.Pool.take.Code as code

abbrev stayed : Stays f.ended.signature.params f.ended.kept
stayed = (stay_dropped _ yes, (stay_dropped _ yes, (stay_dropped _ yes, tt)))

pub take_spec : {M : Type 1} → statement M
take_spec 𝓤 𝓛 𝓜 𝓡 wired =
    let c = f.clauses 𝓛 𝓜.mem 𝓡.returns in
    proved 𝓛 f.ended stayed c 𝓜 𝓡 (Goes-dropped 𝓛 0 (plain (λ _. P.the_row)) yes (λ κs x w. refl), (Goes-dropped 𝓛 0 (plain (λ _. usize)) yes (λ κs x w. refl), (Goes-dropped 𝓛 0 (plain (λ _. usize)) yes (λ κs x w. refl), tt)))
    f.Key.name code.function (code.unfolded 𝓤 𝓛.H 𝓜 𝓡 wired)
    (λ κs. ((λ _. none ∷ []), (uint_vals w64, (uint_vals w64, tt)))) (λ κs. (lowers.val_is, (uint_Tells w64, (uint_Tells w64, tt)))) (λ κs qs bounds a n are.
    let g = a.0 in let at = a.1.0 in let len = a.1.1.0 in let i = g.identity in
    let y : (walk_of 𝓛 f.ended stayed c).Ghost = ((κs, qs, bounds, a, (none ∷ [], (uint_vals w64 at, (uint_vals w64 len, tt)))), n) in
    let s : (P.the_row).Denot = record g { free = stands false at len g.free } in
    let Asked = AreAll true at len g.free in
    qed 𝓛 ((‵ ftrue ⊛ ‵ ((P.the_row).own_val g (none ∷ [])) ⊛ ‵ (usize.own_val at (uint_vals w64 at)) ⊛ ‵ (usize.own_val len (uint_vals w64 len)) ⊛ ‵ ftrue) ∷ raw (fact 𝓤 Asked) ∷ []) ∵
    split ! $ move ! (2 ∷ []) $ heard ! Asked (λ asked. forget ! $ split ! $ fsplit ! $ none_had ! (none ∷ []) (λ _. move ! (1 ∷ []) $ forget ! $
    use1 𝓛 (‵ (Out i.life i.block i.names g.free at len i.first (i.first + at))) (takes 𝓛 i.life i.block g.free i.names at len i.first (i.first + at) refl asked) $ fsplit ! $ fpick ! (λ xs. fpick ! (λ long.
    let r : (W.the_row).Denot = record { identity = i; at = at; items = xs } in
    none_made ! $ fjoin ! $ move ! (1 ∷ []) $ none_made ! $ fjoin ! $ move ! (1 ∷ 0 ∷ []) $ two_made ! (W.the_row) (P.the_row) r s none none $
    enter ! _ _ _ _ _ $ alloc_all ! (λ l. pass_all ! refl ((tt, tt), ((tt, record { fits = are.1.0.1 }), ((tt, record { fits = are.1.1.0.1 }), tt))) $
    sets ! (agg ! (no_more !)) refl (tt, tt) $ sets ! (agg ! (no_more !)) refl (tt, tt) $
    sets ! (agg ! (and_then ! (get ! refl) (and_then ! (get ! refl) (no_more !)))) refl (tt, (tt, (tt, tt))) $
    returns ! (look_at ! 0 refl) $ free_all ! refl $
    suffices ! _ (ends_at 𝓛 f.ended stayed c y (two none none) (r, s) (tt, (tt, (tt, tt))) (tt, (tt, (tt, tt)))) $ says_both ! (refl, refl, long) refl $
    nothing ! $ nothing ! $ join ! $ nothing ! $ join ! $ nothing ! $ join ! $ nothing ! $ done !))))))
