-- `of_box` takes a box apart.
use Rattle.std.proofs.Common.{◌≡◌, List, [], ◌∷◌, ◌++◌, refl, sym, ap, ◌∙◌}
use Rattle.std.proofs.raw_atomic.Walks.{proved_at, leaves}
use Rattle.std.proofs.raw_atomic.Calls.{fm}
use base.Logic.{emp, id⊢}
use base.Fml.{ftrue, flft}
use mir.Syntax.{Args, a_type, impl, tnil, dcons, dnil}
use mir.MapTy.{inst_fn}
use mir.Val.{Val, vstruct, of_list}
use prog.Wp.{WpFn}
use contract.BorrowLft.{◌⊑◌}
use contract.Monad.{fact, fact_i}
use contract.Running.{tables}
use types.Kit.{‵, raw, ◌⊛◌, some, later, prop, ◌$◌, ◌∵◌, !, qed, by, move, keep, drop, use0, use1, split, split3, join, fsplit, fjoin, fpick, feq_l, pick, await, regoal, rewrite}
use types.Run.{enter, of_opd, stop, fld, no_more, and_then, returns}
use types.ByLocal.{alloc_all, pass_all, free_all, look_at, get, get_in, sets, lands_as}
use types.Part.{agg, sub, whole}
use denote.Exit.{no}
use denote.RattleType.{RattleType}
use denote.Param.{bounded, param}
use denote.Param.Laws.{param_laws}
use denote.RawPtr.{Ptr, RawPtr}
use denote.Signature.{plain}
use denote.Steps.{nothing, only, heard}
use denote.Struct.Tuple.{Tuple}
use denote.Triple.Call.{calls_at}
use denote.Triple.Clauses.{Ended, Lasts, lasts}
use denote.Triple.Spec.{triple_of}
use denote.Triple.Walked.{Stays, walk_of, stay_dropped}
use Rattle.std.proofs.alloc.Calls.{Al, Goes-blank, handle_tells}
use Rattle.std.proofs.boxed.Box.TheLaws as boxed_laws
use Rattle.std.specs.Box.Ownership.{box_owns}
use Rattle.std.specs.contracts.boxed.Box as boxed
use Rattle.std.specs.contracts.boxed.Box.into_raw_with_allocator as callee
use Rattle.std.proofs.boxed.Box.into_raw_with_allocator.Met.{met}
use Rattle.pechvang.specs.contracts.loose.Loose.of_box as f
use Rattle.pechvang.proofs.Values.{at_good, pair, pair_good, pair_in}
use Rattle.pechvang.proofs.Values as values
use Rattle.pechvang.proofs.loose.Loose.of_box.Statement.{statement}
use Rattle.pechvang.proofs.loose.Loose.of_box.Code as code

pub of_box_spec : {M : Type 1} → statement M
of_box_spec 𝓤 𝓛 𝓜 𝓡 wired X A LX LA g d dx da allocator glue_x glue_a =
    let R : RattleType = param 0 X in let Z : RattleType = param 1 A in let LZ = param_laws 1 A LA in let Loose : RattleType = values.Loose R Z LZ g in let B : RattleType = boxed.the_row R Z g in
    let of_box : Al = record { row = B; laws = boxed_laws.the_row_laws R Z g (param_laws 0 X LX) LZ; g = record { dealloc_token = λ a σ p. ftrue }; d = impl [] tnil dnil; drops = impl [] tnil dnil } in
    let T : Ended = f.ended X A g d dx da in let c = f.clauses X A g d dx da 𝓛 𝓜.mem 𝓡.returns in let stayed : Stays T.signature.params T.kept = (stay_dropped (plain (λ _. B)) no, tt) in
    let of_heap : Al = record { row = Z; laws = LZ; g = g; d = impl [] tnil dnil; drops = impl [] tnil dnil } in let Pair : RattleType = Tuple (RawPtr ∷ Z ∷ []) in
    let W = walk_of 𝓛 T stayed c in let 𝓣 = tables 𝓤 𝓛.H 𝓜 𝓡 𝓡.env in let args : Args = bounded (a_type ∷ a_type ∷ []) (X, (A, tt)) (dcons d (dcons dx (dcons da dnil))) in let fn = inst_fn args code.function in
    proved_at 𝓛 T stayed c 𝓜 𝓡 (Goes-blank 𝓛 2 (plain (λ _. B)) no (λ κs x w. tt), tt) (f.Key.name args) fn (code.unfolded 𝓤 𝓛.H 𝓜 𝓡 wired (X, (A, tt)) d dx da) (λ y are.
    let κs = y.0.0 in let qs = y.0.1 in let v = y.0.3.0 in let toks = ‵ (flft κs.0 qs.0) ⊛ ‵ (flft κs.1.0 qs.1.0) ⊛ ‵ ftrue in
    let k = triple_of 𝓛 (callee.signature X A g d da dx) (callee.spec X A g d da dx 𝓛 𝓜.mem 𝓡.returns) in
    qed 𝓛 ((toks ⊛ (‵ (B.own_val v y.0.4.0) ⊛ ‵ ftrue)) ∷ (raw (fact 𝓤 (κs.0 ⊑ X.lives)) ⊛ raw (fact 𝓤 (κs.1.0 ⊑ A.lives)) ⊛ ‵ ftrue) ∷ []) ∵ split ! $ move ! (1 ∷ []) $ split ! $
    handle_tells of_box ! v y.0.4.0 (λ w of good. let z : k.Ghost = ((κs, qs, tt, (v, tt), (w ∷ [], tt)), tt) in
    -- [the box; nothing; the tokens; what is asked]
    fjoin ! $ move ! (1 ∷ 0 ∷ []) $ join ! $ move ! (0 ∷ 1 ∷ []) $ join ! $ use1 𝓛 (raw (k.pre z)) (id⊢ 𝓤 _) $
    regoal ! (λ (us : List Val). prop (WpFn 𝓤 𝓛.H 𝓣.C 𝓣.Λ fn (us ++ []) (W.post y))) of refl $
    enter ! _ _ _ _ _ $ alloc_all ! (λ l. pass_all ! refl (good, tt) $ sets ! (of_opd ! (get ! refl)) refl good $
    calls_at ! (fm 𝓛 𝓜 𝓡) k (met 𝓤 𝓛 𝓜 𝓡 (code.calls-std::boxed::Box::into_raw_with_allocator 𝓡.env wired) X A LX LA g d da dx allocator glue_a glue_x) z (and_then ! (get ! refl) (no_more !)) (λ u.
    use1 𝓛 (later (some (λ (r : Ptr × A.Denot). (toks ⊛ ‵ (Pair.own_val r (u ∷ []))) ⊛ some (λ (ls : Lasts (callee.ended X A g d da dx) κs z.0.3). ‵ (lasts (callee.ended X A g d da dx) κs z.0.3 ls) ⊛ (raw (fact 𝓤 (r.1 ≡ v.alloc)) ⊛ ‵ (box_owns (g.dealloc_token v.alloc) R r.0 v.value)))))) (id⊢ 𝓤 (k.post z u)) $
    await ! tt $ pick ! (λ r. split ! $ move ! (1 ∷ []) $ pick ! (λ _. split3 ! $ drop ! $ heard ! (r.1 ≡ v.alloc) (λ same. rewrite ! 0 (λ (a : A.Denot). ‵ (box_owns (g.dealloc_token a) R r.0 v.value)) (sym same) refl $
    move ! (1 ∷ []) $ split ! $ move ! (1 ∷ []) $ fpick ! (λ vss. fsplit ! $ feq_l ! (λ whole_is. fsplit ! $ feq_l ! (λ at_is. fsplit ! $
    handle_tells of_heap ! r.1 vss.1.0 (λ h heap_is fits. let made : Loose.Denot = record { at = r.0; heap = r.1; value = v.value } in let typed = pair_good R Z LZ g r.0 h fits in
    -- [the heap; nothing; the tokens; the box's block]
    lands_as ! (ap only (whole_is ∙ (λ j. vstruct (of_list (at_is j ++ (heap_is j ++ []))) ∷ []))) refl typed $
    sets ! (of_opd ! (get_in ! (fld ! refl (stop !)) (sub ! 0 refl (whole !)))) refl (at_good r.0) $
    sets ! (of_opd ! (get_in ! (fld ! refl (stop !)) (sub ! 1 refl (whole !)))) refl fits $
    sets ! (of_opd ! (get ! refl)) refl fits $
    sets ! (agg ! (and_then ! (get ! refl) (and_then ! (get ! refl) (no_more !)))) refl typed $
    move ! (3 ∷ []) $ pair_in R Z LZ g ! r.0 r.1 v.value h $
    returns ! (look_at ! 0 refl) $ free_all ! refl $ keep ! (0 ∷ 2 ∷ []) $
    use0 𝓛 (raw (fact 𝓤 (made.value ≡ v.value))) (fact_i 𝓤 (made.value ≡ v.value) (emp 𝓤) refl) $ nothing ! $ nothing ! $ fjoin ! $ keep ! (3 ∷ 0 ∷ 2 ∷ 1 ∷ []) $
    by ! (leaves 𝓛 T stayed c y (pair R Z LZ g r.0 h) made ((tt, (tt, tt)), tt) (tt, tt)))))))))))))
