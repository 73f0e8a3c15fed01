-- `end_reading` ends the round, and has the borrows back.
use Rattle.region.proofs.Steps.{◌≡◌, ◌^◌, ℕ, [], ◌∷◌, refl, proved, ftrue, ‵, raw, ◌⊛◌, later, await, ◌$◌, ◌∵◌, !, qed, done, move, use1, split, fsplit, fjoin, join, rewrite, suffices, forget, fact, heard, agg, enter, no_more, returns, alloc_all, pass_all, free_all, look_at, sets, yes, plain, Stays, walk_of, says, stay_dropped, Goes-dropped, ends_at, nothing, none, none_made, none_had}
use Rattle.region.specs.Owned.{write_owns, read_owns}
use Rattle.region.proofs.Rights.{read_ends}
use Rattle.region.specs.contracts.access.WriteAccess as W
use Rattle.region.specs.contracts.access.ReadAccess as A
use Rattle.region.proofs.access.ReadAccess.TheLaws.{lowers}
use Rattle.region.specs.contracts.access.ReadAccess.end_reading as f
use Rattle.region.proofs.access.ReadAccess.end_reading.Statement.{statement}
use Rattle.region.proofs.access.ReadAccess.end_reading.Code as code

abbrev stayed : Stays f.ended.signature.params f.ended.kept
stayed = (stay_dropped _ yes, tt)

pub end_reading_spec : {M : Type 1} → statement M
end_reading_spec 𝓤 𝓛 𝓜 𝓡 wired =
    let c = f.clauses 𝓛 𝓜.mem 𝓡.returns in
    proved 𝓛 f.ended stayed c 𝓜 𝓡 (Goes-dropped 𝓛 0 (plain (λ _. A.the_row)) yes (λ κs x w. refl), tt) f.Key.name code.function (code.unfolded 𝓤 𝓛.H 𝓜 𝓡 wired)
    (λ κs. ((λ _. none ∷ []), tt)) (λ κs. (lowers.val_is, tt)) (λ κs qs bounds a n are.
    let s = a.0 in
    let y : (walk_of 𝓛 f.ended stayed c).Ghost = ((κs, qs, bounds, a, (none ∷ [], tt)), n) in
    let r : (W.the_row).Denot = record { identity = s.identity; at = s.at; items = s.items } in
    let Asked = s.count ≡ 2 ^ 63 in
    qed 𝓛 ((‵ ftrue ⊛ ‵ ((A.the_row).own_val s (none ∷ [])) ⊛ ‵ ftrue) ∷ raw (fact 𝓤 Asked) ∷ []) ∵
    split ! $ move ! (2 ∷ []) $ heard ! Asked (λ asked. forget ! $ split ! $ fsplit ! $ none_had ! (none ∷ []) (λ _.
    rewrite ! 0 (λ (k : ℕ). ‵ (read_owns s.round s.identity s.at s.items k)) asked refl $
    enter ! _ _ _ _ _ $ alloc_all ! (λ l. pass_all ! refl ((tt, tt), tt) $
    use1 𝓛 (later (‵ (write_owns s.identity s.at s.items))) (read_ends 𝓛 s.round s.identity s.at s.items) $ await ! tt $
    none_made ! $ fjoin ! $ move ! (1 ∷ []) $ forget ! $
    sets ! (agg ! (no_more !)) refl (tt, tt) $ returns ! (look_at ! 0 refl) $ free_all ! refl $
    suffices ! _ (ends_at 𝓛 f.ended stayed c y none r (tt, tt) (tt, tt)) $ says ! refl $
    nothing ! $ nothing ! $ join ! $ nothing ! $ done !))))
