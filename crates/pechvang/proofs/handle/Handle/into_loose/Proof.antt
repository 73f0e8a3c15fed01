-- `into_loose` asks whether it is open, and then has the box.
use Rattle.std.proofs.Common.{◌≡◌, List, [], ◌∷◌, ◌++◌, Bool, true, false, ◌&&◌, refl, ◌∙◌, lit<}
use Rattle.std.proofs.raw_atomic.Walks.{proved_at, leaves}
use base.Logic.{emp}
use base.Fml.{ftrue}
use mir.Val.{Val, vcons, vnil, has_ty, WT}
use prog.Wp.{WpFn}
use contract.Monad.{fact, fact_i}
use contract.Running.{tables}
use types.Kit.{‵, raw, ◌⊛◌, prop, at_ret, ◌$◌, ◌∵◌, !, qed, by, move, keep, use0, use1, split, fjoin, regoal}
use types.Run.{enter, of_opd, lit, stop, fld, no_more, and_then, first, branches, exec, returns}
use types.ByLocal.{alloc_all, pass_all, free_all, look_at, get, get_in, sets, sets_last, env}
use types.Match.{live}
use types.Part.{agg, sub, whole}
use lib.Dec.{T}
use denote.Exit.{yes}
use denote.Param.{layout}
use denote.RattleType.{RattleType}
use denote.RawPtr.{ptr_val}
use denote.Signature.{plain, type_at}
use denote.Steps.{nothing}
use denote.Triple.Entry.{alive}
use denote.Triple.Walked.{Stays, walk_of, stay_dropped, Goes-dropped}
use Rattle.std.proofs.option.Made.{Some-of, none_of}
use Rattle.std.specs.contracts.alloc.Global as heap
use Rattle.std.proofs.alloc.Global.TheLaws as heap_laws
use Rattle.std.specs.contracts.impls.GlobalAllocator.TheImpl.{ghosts}
use Rattle.std.specs.declared.option.Option.TheVariants.{None, Some}
use Rattle.pechvang.specs.contracts.held.Pass as pass
use Rattle.pechvang.specs.contracts.handle.Handle as handle
use Rattle.pechvang.specs.contracts.handle.Handle.into_loose as f
use Rattle.pechvang.proofs.Values.{at_good, either_held, pair, pair_good, pair_in, word, word_good, word_out}
use Rattle.pechvang.proofs.Values as values
use Rattle.pechvang.proofs.handle.Handle.into_loose.Statement.{statement}
use Rattle.pechvang.proofs.handle.Handle.into_loose.Code as code

abbrev Loose : RattleType
Loose = values.Loose pass.the_row heap.the_row heap_laws.the_row_laws ghosts

-- a conjunction that ends in true
conj : (x : Bool) → T x → T (x && true)
conj true t = tt
conj false t = t

abbrev stayed : Stays f.ended.signature.params f.ended.kept
stayed = (stay_dropped (plain (λ _. handle.the_row)) yes, tt)

pub into_loose_spec : {M : Type 1} → statement M
into_loose_spec 𝓤 𝓛 𝓜 𝓡 wired =
    let c = f.clauses 𝓛 𝓜.mem 𝓡.returns in let W = walk_of 𝓛 f.ended stayed c in let 𝓣 = tables 𝓤 𝓛.H 𝓜 𝓡 𝓡.env in
    proved_at 𝓛 f.ended stayed c 𝓜 𝓡 (Goes-dropped 𝓛 0 (plain (λ _. handle.the_row)) yes (λ κs x w. refl), tt) f.Key.name code.function (code.unfolded 𝓤 𝓛.H 𝓜 𝓡 wired) (λ y are.
    let d = y.0.3.0 in let Out : RattleType = type_at f.signature.result y.0.0 in
    let Enters = λ (us : List Val). prop (WpFn 𝓤 𝓛.H 𝓣.C 𝓣.Λ code.function (us ++ []) (W.post y)) in
    qed 𝓛 ((raw (alive 𝓛 f.signature y.0.0 y.0.1) ⊛ (‵ (handle.the_row.own_val d y.0.4.0) ⊛ ‵ ftrue)) ∷ ‵ ftrue ∷ []) ∵ split ! $ move ! (1 ∷ []) $ split ! $
    word_out ! d y.0.4.0 (λ h of fits. either_held ! d.is_open d.held d.at d.heap
    (λ none is. regoal ! Enters (of ∙ (λ j. word (ptr_val d.at) h (is j) ∷ [])) refl $
    enter ! _ _ _ _ _ $ alloc_all ! (λ l. pass_all ! refl (word_good d.at h false fits, tt) $
    sets ! (of_opd ! (get_in ! (fld ! {d = 0} refl (stop !)) (sub ! 0 {d = 0} refl (whole !)))) refl (at_good d.at) $
    sets ! (of_opd ! (get_in ! (fld ! {d = 8} refl (stop !)) (sub ! 1 {d = 8} refl (whole !)))) refl fits $
    sets ! (of_opd ! (get_in ! (fld ! {d = 8} refl (stop !)) (sub ! 2 {d = 8} refl (whole !)))) refl (tt, tt) $
    sets ! (of_opd ! (get ! refl)) refl (tt, tt) $
    first ! $ branches ! (get ! refl) (λ wrong. absurd wrong) (λ _.
    sets_last ! (agg ! (and_then ! (lit ! tt) (no_more !))) refl (tt, (record { fits = lit< tt }, tt)) $
    exec ! 𝓣.C 𝓣.Λ (env code.Mir.locals l) code.Mir.t-6 (at_ret _ (W.post y)) $
    sets ! (of_opd ! (get ! refl)) refl (tt, (record { fits = lit< tt }, tt)) $
    returns ! (look_at ! 0 refl) $ free_all ! refl $ keep ! (2 ∷ []) $
    use0 𝓛 (raw (fact 𝓤 (d.held ≡ None))) (fact_i 𝓤 (d.held ≡ None) (emp 𝓤) none) $ use0 𝓛 (‵ (Out.own_val None (live 0 vnil ∷ []))) (none_of 𝓛 Loose) $
    nothing ! $ nothing ! $ fjoin ! $ keep ! (3 ∷ 0 ∷ 1 ∷ 2 ∷ []) $ by ! (leaves 𝓛 f.ended stayed c y (live 0 vnil) None (tt, tt) (tt, tt)))))
    (λ x some is. let made : Loose.Denot = record { at = d.at; heap = d.heap; value = x } in let got : Val = live 1 (vcons (pair pass.the_row heap.the_row heap_laws.the_row_laws ghosts d.at h) vnil) in
    let typed = pair_good pass.the_row heap.the_row heap_laws.the_row_laws ghosts d.at h fits in let good : T (has_ty (layout Out) got) × WT got = (conj _ typed.0, (record { fits = lit< tt }, (typed.1, tt))) in
    regoal ! Enters (of ∙ (λ j. word (ptr_val d.at) h (is j) ∷ [])) refl $
    pair_in pass.the_row heap.the_row heap_laws.the_row_laws ghosts ! d.at d.heap x h $ use1 𝓛 (‵ (Out.own_val (Some made) (got ∷ []))) (Some-of 𝓛 Loose made (pair pass.the_row heap.the_row heap_laws.the_row_laws ghosts d.at h)) $
    enter ! _ _ _ _ _ $ alloc_all ! (λ l. pass_all ! refl (word_good d.at h true fits, tt) $
    sets ! (of_opd ! (get_in ! (fld ! {d = 0} refl (stop !)) (sub ! 0 {d = 0} refl (whole !)))) refl (at_good d.at) $
    sets ! (of_opd ! (get_in ! (fld ! {d = 8} refl (stop !)) (sub ! 1 {d = 8} refl (whole !)))) refl fits $
    sets ! (of_opd ! (get_in ! (fld ! {d = 8} refl (stop !)) (sub ! 2 {d = 8} refl (whole !)))) refl (tt, tt) $
    sets ! (of_opd ! (get ! refl)) refl (tt, tt) $
    first ! $ branches ! (get ! refl) (λ _.
    sets ! (of_opd ! (get ! refl)) refl (at_good d.at) $ sets ! (agg ! (and_then ! (get ! refl) (and_then ! (get ! refl) (no_more !)))) refl typed $
    sets_last ! (agg ! (and_then ! (lit ! tt) (and_then ! (get ! refl) (no_more !)))) refl good $
    exec ! 𝓣.C 𝓣.Λ (env code.Mir.locals l) code.Mir.t-6 (at_ret _ (W.post y)) $
    sets ! (of_opd ! (get ! refl)) refl good $
    returns ! (look_at ! 0 refl) $ free_all ! refl $ keep ! (0 ∷ 2 ∷ []) $
    use0 𝓛 (raw (fact 𝓤 (d.held ≡ Some x))) (fact_i 𝓤 (d.held ≡ Some x) (emp 𝓤) some) $ nothing ! $ nothing ! $ fjoin ! $ keep ! (3 ∷ 0 ∷ 2 ∷ 1 ∷ []) $
    by ! (leaves 𝓛 f.ended stayed c y got (Some made) (tt, tt) (tt, tt))) (λ wrong. absurd wrong)))))
