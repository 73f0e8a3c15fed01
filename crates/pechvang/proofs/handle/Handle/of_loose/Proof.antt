-- `of_loose` keeps the pointer and the heap, and says that it is open.
use Rattle.std.proofs.Common.{◌≡◌, List, [], ◌∷◌, ◌++◌, true, refl}
use Rattle.std.proofs.raw_atomic.Walks.{proved_at, leaves}
use base.Logic.{emp}
use base.Fml.{ftrue}
use mir.Val.{Val}
use prog.Wp.{WpFn}
use contract.Monad.{fact, fact_i}
use contract.Running.{tables}
use types.Kit.{‵, raw, ◌⊛◌, prop, ◌$◌, ◌∵◌, !, qed, by, move, keep, use0, split, fjoin, feq_i, regoal}
use types.Run.{enter, of_opd, stop, fld, true_lit, no_more, and_then, returns}
use types.ByLocal.{alloc_all, pass_all, free_all, look_at, get, get_in, sets}
use types.Part.{agg, sub, whole}
use denote.Exit.{yes}
use denote.RattleType.{RattleType}
use denote.RawPtr.{ptr_val}
use denote.Signature.{plain}
use denote.Steps.{nothing}
use denote.Triple.Entry.{alive}
use denote.Triple.Walked.{Stays, walk_of, stay_dropped, Goes-dropped}
use Rattle.std.specs.contracts.alloc.Global as heap
use Rattle.std.proofs.alloc.Global.TheLaws as heap_laws
use Rattle.std.specs.contracts.impls.GlobalAllocator.TheImpl.{ghosts}
use Rattle.std.specs.declared.option.Option.TheVariants.{Some}
use Rattle.pechvang.specs.contracts.held.Pass as pass
use Rattle.pechvang.specs.contracts.handle.Handle as handle
use Rattle.pechvang.specs.contracts.handle.Handle.of_loose as f
use Rattle.pechvang.proofs.Values.{at_good, pair_good, pair_out, word, word_good, word_in}
use Rattle.pechvang.proofs.Values as values
use Rattle.pechvang.proofs.handle.Handle.of_loose.Statement.{statement}
use Rattle.pechvang.proofs.handle.Handle.of_loose.Code as code

abbrev Loose : RattleType
Loose = values.Loose pass.the_row heap.the_row heap_laws.the_row_laws ghosts

abbrev stayed : Stays f.ended.signature.params f.ended.kept
stayed = (stay_dropped (plain (λ _. Loose)) yes, tt)

pub of_loose_spec : {M : Type 1} → statement M
of_loose_spec 𝓤 𝓛 𝓜 𝓡 wired =
    let c = f.clauses 𝓛 𝓜.mem 𝓡.returns in let W = walk_of 𝓛 f.ended stayed c in let 𝓣 = tables 𝓤 𝓛.H 𝓜 𝓡 𝓡.env in
    proved_at 𝓛 f.ended stayed c 𝓜 𝓡 (Goes-dropped 𝓛 0 (plain (λ _. Loose)) yes (λ κs x w. refl), tt) f.Key.name code.function (code.unfolded 𝓤 𝓛.H 𝓜 𝓡 wired) (λ y are.
    let d = y.0.3.0 in let made : handle.the_row.Denot = record { at = d.at; heap = d.heap; is_open = true; held = Some d.value } in
    qed 𝓛 ((raw (alive 𝓛 f.signature y.0.0 y.0.1) ⊛ (‵ (Loose.own_val d y.0.4.0) ⊛ ‵ ftrue)) ∷ ‵ ftrue ∷ []) ∵ split ! $ move ! (1 ∷ []) $ split ! $
    pair_out pass.the_row heap.the_row heap_laws.the_row_laws ghosts ! d y.0.4.0 (λ h of fits.
    regoal ! (λ (us : List Val). prop (WpFn 𝓤 𝓛.H 𝓣.C 𝓣.Λ code.function (us ++ []) (W.post y))) of refl $
    feq_i ! _ true true refl $ fjoin ! $ word_in ! d.at d.heap true (Some d.value) h $
    enter ! _ _ _ _ _ $ alloc_all ! (λ l. pass_all ! refl (pair_good pass.the_row heap.the_row heap_laws.the_row_laws ghosts d.at h fits, tt) $
    sets ! (of_opd ! (get_in ! (fld ! {d = 0} refl (stop !)) (sub ! 0 {d = 0} refl (whole !)))) refl (at_good d.at) $
    sets ! (of_opd ! (get_in ! (fld ! {d = 8} refl (stop !)) (sub ! 1 {d = 8} refl (whole !)))) refl fits $
    sets ! (of_opd ! (get ! refl)) refl (at_good d.at) $
    sets ! (agg ! (and_then ! (get ! refl) (and_then ! (get ! refl) (and_then ! (true_lit !) (no_more !))))) refl (word_good d.at h true fits) $
    returns ! (look_at ! 0 refl) $ free_all ! refl $ keep ! (0 ∷ 2 ∷ []) $
    use0 𝓛 (raw (fact 𝓤 (made.held ≡ Some d.value))) (fact_i 𝓤 (made.held ≡ Some d.value) (emp 𝓤) refl) $ nothing ! $ nothing ! $ fjoin ! $ keep ! (3 ∷ 0 ∷ 2 ∷ 1 ∷ []) $
    by ! (leaves 𝓛 f.ended stayed c y (word (ptr_val d.at) h true) made (tt, tt) (tt, tt)))))
