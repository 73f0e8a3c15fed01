-- `key` makes ghost state.
use Rattle.region.proofs.Steps.{[], ◌∷◌, refl, proved, ftrue, flft, ‵, ◌⊛◌, ◌$◌, ◌∵◌, !, qed, done, keep, move, split, fjoin, join, suffices, agg, enter, no_more, returns, alloc_all, pass_all, free_all, look_at, sets, yes, plain, Stays, stay_dropped, Goes-dropped, walk_of, says, ends_at, nothing, none, none_made}
use mir.Syntax.{named}
use types.Kit.{group}
use denote.Builtin.{RefOf}
use denote.Ref.{ShrRef, shr_vals, shr_Tells}
use Rattle.region.specs.contracts.access.WriteAccess as W
use Rattle.region.specs.contracts.access.RegionKey as K
use Rattle.region.specs.contracts.access.WriteAccess.key as f
use Rattle.region.proofs.access.WriteAccess.key.Statement.{statement}
use Rattle.region.proofs.access.WriteAccess.key.Code as code

abbrev stayed : Stays f.ended.signature.params f.ended.kept
stayed = (stay_dropped _ yes, tt)

pub key_spec : {M : Type 1} → statement M
key_spec 𝓤 𝓛 𝓜 𝓡 wired =
    let c = f.clauses 𝓛 𝓜.mem 𝓡.returns in
    proved 𝓛 f.ended stayed c 𝓜 𝓡 (Goes-dropped 𝓛 1 (RefOf (0 ∷ []) tt (plain (λ _. W.the_row)) (λ _. tt)) yes (λ κs x w. refl), tt) f.Key.name code.function (code.unfolded 𝓤 𝓛.H 𝓜 𝓡 wired)
    (λ κs. (shr_vals, tt)) (λ κs. (shr_Tells (named 0) κs.0 W.the_row, tt)) (λ κs qs bounds a n are.
    let y : (walk_of 𝓛 f.ended stayed c).Ghost = ((κs, qs, bounds, a, (shr_vals a.0, tt)), n) in
    let r : (K.the_row).Denot = record { identity = a.0.now.identity } in
    qed 𝓛 (((‵ (flft κs.0 qs.0) ⊛ ‵ ftrue) ⊛ ‵ ((ShrRef (named 0) κs.0 W.the_row).own_val a.0 (shr_vals a.0)) ⊛ ‵ ftrue) ∷ ‵ ftrue ∷ []) ∵ split ! $ split ! $ keep ! (0 ∷ []) $
    enter ! _ _ _ _ _ $ alloc_all ! (λ l. pass_all ! refl ((tt, tt), tt) $
    sets ! (agg ! (no_more !)) refl (tt, tt) $ returns ! (look_at ! 0 refl) $ free_all ! refl $ nothing ! $ none_made ! $ fjoin ! $
    suffices ! _ (ends_at 𝓛 f.ended stayed c y none r (tt, tt) (tt, tt)) $ says ! refl $
    nothing ! $ nothing ! $ join ! $ nothing ! $ move ! (3 ∷ 0 ∷ []) $ join ! $ group ! 3 $ done !))
