-- `none` makes one that owns nothing.
use Rattle.region.proofs.Steps.{lit<, [], ◌∷◌, refl, proved, ftrue, ‵, raw, ◌$◌, ◌∵◌, !, qed, done, fjoin, suffices, forget, agg, enter, no_more, returns, alloc_all, pass_all, free_all, look_at, sets, walk_of, says, ends_at, nothing, none, none_made}
use denote.Triple.Entry.{on_entry}
use Rattle.region.specs.contracts.access.ReadAccess as R
use Rattle.region.specs.contracts.access.ReadAccess.none as f
use Rattle.region.proofs.access.ReadAccess.none.Statement.{statement}
use Rattle.region.proofs.access.ReadAccess.none.Code as code

pub none_spec : {M : Type 1} → statement M
none_spec 𝓤 𝓛 𝓜 𝓡 wired =
    let c = f.clauses 𝓛 𝓜.mem 𝓡.returns in
    proved 𝓛 f.ended tt c 𝓜 𝓡 tt f.Key.name code.function (code.unfolded 𝓤 𝓛.H 𝓜 𝓡 wired) (λ κs. tt) (λ κs. tt) (λ κs qs bounds a n are.
    let y : (walk_of 𝓛 f.ended tt c).Ghost = ((κs, qs, bounds, a, tt), n) in
    let r : (R.the_row).Denot = record { round = record { life = 0; book = 0 }; count = 0; identity = record { life = 0; names = []; block = 0; first = 0 }; at = 0; items = []; small = lit< tt } in
    qed 𝓛 (raw (on_entry 𝓛 f.signature κs qs a y.0.4) ∷ ‵ ftrue ∷ []) ∵ forget ! $ forget ! $
    enter ! _ _ _ _ _ $ alloc_all ! (λ l. pass_all ! refl tt $
    sets ! (agg ! (no_more !)) refl (tt, tt) $ returns ! (look_at ! 0 refl) $ free_all ! refl $
    suffices ! _ (ends_at 𝓛 f.ended tt c y none r tt tt) $ says ! refl $
    nothing ! $ none_made ! $ fjoin ! $ nothing ! $ nothing ! $ done !))
