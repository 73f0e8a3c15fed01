-- `empty` puts null, the heap and false together, and owns nothing.
use Rattle.std.proofs.Common.{◌≡◌, List, [], ◌∷◌, ◌++◌, false, refl}
use Rattle.std.proofs.raw_atomic.Walks.{proved_at, leaves}
use base.Logic.{emp}
use base.Fml.{ftrue}
use mir.Val.{Val}
use prog.Wp.{WpFn}
use contract.Monad.{fact, fact_i}
use contract.Running.{tables}
use types.Kit.{‵, raw, ◌⊛◌, prop, ◌$◌, ◌∵◌, !, qed, by, move, keep, use0, split, fjoin, feq_i, regoal}
use types.Run.{enter, lit, false_lit, no_more, and_then, returns}
use types.ByLocal.{alloc_all, pass_all, free_all, look_at, get, sets}
use types.Part.{agg}
use denote.Exit.{yes}
use denote.RawPtr.{null_ptr, ptr_val}
use denote.Signature.{plain}
use denote.Steps.{nothing}
use denote.Triple.Entry.{alive}
use denote.Triple.Walked.{Stays, walk_of, stay_dropped, Goes-dropped}
use Rattle.std.proofs.alloc.Calls.{handle_tells}
use Rattle.std.specs.contracts.alloc.Global as heap
use Rattle.std.specs.declared.option.Option.TheVariants.{None}
use Rattle.pechvang.specs.contracts.handle.Handle as handle
use Rattle.pechvang.specs.contracts.handle.Handle.empty as f
use Rattle.pechvang.proofs.Values.{of_heap, word, word_good, word_in}
use Rattle.pechvang.proofs.handle.Handle.empty.Statement.{statement}
use Rattle.pechvang.proofs.handle.Handle.empty.Code as code

abbrev stayed : Stays f.ended.signature.params f.ended.kept
stayed = (stay_dropped (plain (λ _. heap.the_row)) yes, tt)

pub empty_spec : {M : Type 1} → statement M
empty_spec 𝓤 𝓛 𝓜 𝓡 wired =
    let c = f.clauses 𝓛 𝓜.mem 𝓡.returns in let W = walk_of 𝓛 f.ended stayed c in let 𝓣 = tables 𝓤 𝓛.H 𝓜 𝓡 𝓡.env in
    proved_at 𝓛 f.ended stayed c 𝓜 𝓡 (Goes-dropped 𝓛 0 (plain (λ _. heap.the_row)) yes (λ κs x w. refl), tt) f.Key.name code.function (code.unfolded 𝓤 𝓛.H 𝓜 𝓡 wired) (λ y are.
    let a = y.0.3.0 in let made : handle.the_row.Denot = record { at = null_ptr; heap = a; is_open = false; held = None } in
    qed 𝓛 ((raw (alive 𝓛 f.signature y.0.0 y.0.1) ⊛ (‵ (heap.the_row.own_val a y.0.4.0) ⊛ ‵ ftrue)) ∷ ‵ ftrue ∷ []) ∵ split ! $ move ! (1 ∷ []) $ split ! $
    handle_tells of_heap ! a y.0.4.0 (λ h of fits.
    regoal ! (λ (us : List Val). prop (WpFn 𝓤 𝓛.H 𝓣.C 𝓣.Λ code.function (us ++ []) (W.post y))) of refl $
    feq_i ! _ false false refl $ word_in ! null_ptr a false None h $
    enter ! _ _ _ _ _ $ alloc_all ! (λ l. pass_all ! refl (fits, tt) $
    sets ! (agg ! (and_then ! (lit ! tt) (and_then ! (get ! refl) (and_then ! (false_lit !) (no_more !))))) refl (word_good null_ptr h false fits) $
    returns ! (look_at ! 0 refl) $ free_all ! refl $ keep ! (0 ∷ 2 ∷ []) $
    use0 𝓛 (raw (fact 𝓤 (made.held ≡ None))) (fact_i 𝓤 (made.held ≡ None) (emp 𝓤) refl) $ nothing ! $ nothing ! $ fjoin ! $ keep ! (3 ∷ 0 ∷ 2 ∷ 1 ∷ []) $
    by ! (leaves 𝓛 f.ended stayed c y (word (ptr_val null_ptr) h false) made (tt, tt) (tt, tt)))))
