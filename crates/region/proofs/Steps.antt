-- The names that the walks cite, and a step of their own.
use seplogic.Ra.Ura.{Ura}
use base.Logic.{SProp, sep, assoc∗}
use types.Kit.{Step, Item, step}
pub use Rattle.std.proofs.Common.{◌≡◌, ℕ, zero, suc, ◌+◌, ◌-◌, ◌*◌, ◌^◌, ◌<◌, ◌≤◌, List, [], ◌∷◌, ◌++◌, length, take, drop, refl, sym, ap, subst, ◌∙◌, lit<, arith}
pub use Rattle.std.proofs.raw_atomic.Walks.{proved, proved_at}
pub use base.Logic.{id⊢}
pub use base.Fml.{Share as Part, Fml, fat, ftrue, fsep, flft, fdead}
pub use mir.Syntax.{w64}
pub use contract.Monad.{fact}
pub use contract.Running.{tables}
pub use types.Logic.{Logic, sem}
pub use types.Kit.{‵, raw, ◌⊛◌, some, later, prop, at_ret, ◌$◌, ◌∵◌, !, qed, by, done, move, keep, use0, use1, use2, use3, split, split3, join, fsplit, fsplit3, fjoin, fjoin3, fpick, fpack, pick, feq_l, feq_i, learn, await, rewrite, regoal, suffices}
pub use types.Kit.{drop as forget}
pub use types.Part.{agg, sub, whole}
pub use types.Run.{enter, stop, fld, of_opd, no_more, and_then, returns, first, blocks, exec}
pub use types.ByLocal.{alloc_all, pass_all, free_all, look_at, get, get_in, take_at, give_at, sets, sets_last, env}
pub use denote.Builtin.{u8, usize}
pub use denote.Exit.{yes, no}
pub use denote.Plain.{uint_vals, uint_Tells}
pub use denote.RattleType.{RattleType, owns}
pub use denote.Signature.{plain, types_at}
pub use denote.Struct.Struct.{as_fields}
pub use denote.Param.{layout}
pub use denote.Laws.{Typed}
pub use denote.Triple.Entry.{alive}
pub use mir.Val.{Val}
pub use prog.Wp.{WpFn}
pub use Rattle.std.proofs.alloc.Calls.{Goes-blank}
pub use denote.Steps.{nothing, heard, only}
pub use denote.Triple.Walked.{Stays, walk_of, says, stay_dropped, Goes-dropped, ends_at}
pub use Rattle.bytes.proofs.Walks.{none, one, two, none_made, none_had, one_made, one_had, two_made, tells, plainly}

-- two clauses say these facts
pub says_both : {M : Type 1} {𝓤 : Ura M} {𝓛 : Logic 𝓤} {K : Type 0} {Γ : List (Item 𝓤)} → K → {φ ψ : Type 0} {P : SProp 𝓤} → φ → ψ
    → Step K 𝓛 Γ (prop P) Γ (prop (sep 𝓤 P (sep 𝓤 (fact 𝓤 φ) (fact 𝓤 ψ))))
says_both {𝓤 = 𝓤} t {φ} {ψ} {P} a b = step (λ s. suffices t (sep 𝓤 (sep 𝓤 P (fact 𝓤 φ)) (fact 𝓤 ψ)) (assoc∗ 𝓤 P (fact 𝓤 φ) (fact 𝓤 ψ)) $ says t b $ says t a $ s)
