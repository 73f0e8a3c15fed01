-- `into_box` makes a box of the pointer and the heap again.
use Rattle.std.proofs.Common.{◌≡◌, List, [], ◌∷◌, ◌++◌, refl, sym, ap, subst}
use Rattle.std.proofs.raw_atomic.Walks.{proved_at, leaves}
use Rattle.std.proofs.raw_atomic.Calls.{fm}
use base.Logic.{id⊢}
use base.Fml.{ftrue, flft}
use lib.Dec
use mir.Syntax.{Args, a_type, impl, tnil, dcons, dnil}
use mir.MapTy.{inst_fn}
use mir.Val.{Val, has_ty, WT}
use prog.Wp.{WpFn}
use contract.BorrowLft.{◌⊑◌}
use contract.Monad.{fact}
use contract.Running.{tables}
use types.Kit.{‵, raw, ◌⊛◌, some, later, prop, at_ret, ◌$◌, ◌∵◌, !, qed, by, move, keep, drop, use1, split, split3, join, fjoin, feq_i, pick, await, regoal, rewrite}
use types.Run.{enter, of_opd, stop, fld, no_more, and_then, first, blocks, exec, returns}
use types.ByLocal.{alloc_all, pass_all, free_all, look_at, get, get_in, sets, lands_last, env}
use types.Part.{sub, whole}
use denote.Exit.{no}
use denote.RattleType.{RattleType}
use denote.Param.{bounded, layout, param}
use denote.Param.Laws.{param_laws}
use denote.RawPtr.{ptr_val}
use denote.Signature.{plain}
use denote.Steps.{nothing, only}
use denote.Triple.Call.{calls_at_last}
use denote.Triple.Clauses.{Ended, Lasts, lasts}
use denote.Triple.Spec.{triple_of}
use denote.Triple.Walked.{Stays, walk_of, stay_dropped}
use Rattle.std.proofs.alloc.Calls.{Al, Goes-blank, handle_tells}
use Rattle.std.proofs.VecSteps.Shapes.{after}
use Rattle.std.proofs.boxed.Box.TheLaws as boxed_laws
use Rattle.std.specs.contracts.boxed.Box as boxed
use Rattle.std.specs.contracts.boxed.Box.from_raw as callee
use Rattle.std.proofs.boxed.Box.from_raw.Met.{met}
use Rattle.pechvang.specs.contracts.loose.Loose.into_box as f
use Rattle.pechvang.proofs.Values.{at_good, pair_good, pair_out}
use Rattle.pechvang.proofs.Values as values
use Rattle.pechvang.proofs.loose.Loose.into_box.Statement.{statement}
use Rattle.pechvang.proofs.loose.Loose.into_box.Code as code

pub into_box_spec : {M : Type 1} → statement M
into_box_spec 𝓤 𝓛 𝓜 𝓡 wired X A LX LA g d dx da allocator glue_x glue_a =
    let R : RattleType = param 0 X in let Z : RattleType = param 1 A in let LZ = param_laws 1 A LA in let Loose : RattleType = values.Loose R Z LZ g in let B : RattleType = boxed.the_row R Z g in
    let of_box : Al = record { row = B; laws = boxed_laws.the_row_laws R Z g (param_laws 0 X LX) LZ; g = record { dealloc_token = λ a σ p. ftrue }; d = impl [] tnil dnil; drops = impl [] tnil dnil } in
    let T : Ended = f.ended X A g d dx da in let c = f.clauses X A g d dx da 𝓛 𝓜.mem 𝓡.returns in let stayed : Stays T.signature.params T.kept = (stay_dropped (plain (λ _. Loose)) no, tt) in
    let W = walk_of 𝓛 T stayed c in let 𝓣 = tables 𝓤 𝓛.H 𝓜 𝓡 𝓡.env in let args : Args = bounded (a_type ∷ a_type ∷ []) (X, (A, tt)) (dcons d (dcons dx (dcons da dnil))) in let fn = inst_fn args code.function in
    proved_at 𝓛 T stayed c 𝓜 𝓡 (Goes-blank 𝓛 2 (plain (λ _. Loose)) no (λ κs x w. tt), tt) (f.Key.name args) fn (code.unfolded 𝓤 𝓛.H 𝓜 𝓡 wired (X, (A, tt)) d dx da) (λ y are.
    let κs = y.0.0 in let qs = y.0.1 in let v = y.0.3.0 in let toks = ‵ (flft κs.0 qs.0) ⊛ ‵ (flft κs.1.0 qs.1.0) ⊛ ‵ ftrue in
    let k = triple_of 𝓛 (callee.signature X A g d da) (callee.spec X A g d da 𝓛 𝓜.mem 𝓡.returns) in
    qed 𝓛 ((toks ⊛ (‵ (Loose.own_val v y.0.4.0) ⊛ ‵ ftrue)) ∷ (raw (fact 𝓤 (κs.0 ⊑ X.lives)) ⊛ raw (fact 𝓤 (κs.1.0 ⊑ A.lives)) ⊛ ‵ ftrue) ∷ []) ∵ split ! $ move ! (1 ∷ []) $ split ! $
    pair_out R Z LZ g ! v y.0.4.0 (λ h of fits. let z : k.Ghost = ((κs, qs, tt, (v.heap, (v.at, tt)), (h ∷ [], (ptr_val v.at ∷ [], tt))), v.value) in
    -- what `from_raw` asks: the box's block, and what the arguments own
    move ! (4 ∷ []) $ split3 ! $ move ! (1 ∷ 3 ∷ []) $ join ! $ move ! (1 ∷ 0 ∷ []) $ join ! $
    move ! (1 ∷ []) $ feq_i ! (List Val) (ptr_val v.at ∷ []) (ptr_val v.at ∷ []) refl $ fjoin ! $ move ! (2 ∷ 0 ∷ []) $ fjoin ! $ move ! (3 ∷ 0 ∷ []) $ join ! $ join ! $ use1 𝓛 (raw (k.pre z)) (id⊢ 𝓤 _) $
    regoal ! (λ (us : List Val). prop (WpFn 𝓤 𝓛.H 𝓣.C 𝓣.Λ fn (us ++ []) (W.post y))) of refl $
    enter ! _ _ _ _ _ $ alloc_all ! (λ l. pass_all ! refl (pair_good R Z LZ g v.at h fits, tt) $
    sets ! (of_opd ! (get_in ! (fld ! refl (stop !)) (sub ! 0 refl (whole !)))) refl (at_good v.at) $
    sets ! (of_opd ! (get_in ! (fld ! refl (stop !)) (sub ! 1 refl (whole !)))) refl fits $
    first ! $ blocks ! $ sets ! (of_opd ! (get ! refl)) refl fits $
    calls_at_last ! (fm 𝓛 𝓜 𝓡) k (met 𝓤 𝓛 𝓜 𝓡 (code.calls-std::boxed::Box::from_raw 𝓡.env wired) X A LX LA g d da allocator glue_a) z (and_then ! (get ! refl) (and_then ! (get ! refl) (no_more !))) (λ u.
    use1 𝓛 (later (some (λ (r : B.Denot). (toks ⊛ ‵ (B.own_val r (u ∷ []))) ⊛ some (λ (ls : Lasts (callee.ended X A g d da) κs z.0.3). ‵ (lasts (callee.ended X A g d da) κs z.0.3 ls) ⊛ (raw (fact 𝓤 (r.value ≡ v.value)) ⊛ raw (fact 𝓤 (r.alloc ≡ v.heap))))))) (id⊢ 𝓤 (k.post z u)) $
    await ! tt $ pick ! (λ r. split ! $ move ! (1 ∷ []) $ pick ! (λ _. split3 ! $ drop ! $ move ! (2 ∷ []) $ split ! $ move ! (1 ∷ []) $
    -- [the box; the tokens; its value; its heap; nothing]
    handle_tells of_box ! r (u ∷ []) (λ w is good.
    rewrite ! 0 (λ (us : List Val). ‵ (B.own_val r us)) (sym is) refl $
    let typed = subst (λ (x : Val). lib.Dec.T (has_ty (layout B) x) × WT x) (sym (ap only is)) good in
    lands_last ! refl typed $ exec ! 𝓣.C 𝓣.Λ (env fn.locals l) (after 3 fn.body) (at_ret _ (W.post y)) $
    sets ! (of_opd ! (get ! refl)) refl typed $
    returns ! (look_at ! 0 refl) $ free_all ! refl $ keep ! (0 ∷ 1 ∷ 2 ∷ []) $ nothing ! $ nothing ! $ fjoin ! $ keep ! (2 ∷ 0 ∷ 1 ∷ 3 ∷ []) $
    by ! (leaves 𝓛 T stayed c y u r ((tt, (tt, tt)), tt) (tt, tt)))))))))
