-- Why a line isn't carried out.
use Rattle.std.proofs.Common.{◌≡◌, ◌∙◌, [], ⊎_elim, refl, subst, sym}
use Rattle.clap.specs.Words.{HasKind, IsAmong, Kinds, kind_of}
use Rattle.clap.specs.declared.error.Error.{Error}
use Rattle.clap.specs.declared.error.kind.ErrorKind.TheVariants.{OutOfMemory}
use Rattle.command_line.specs.Refusals.{IsFaultOf}
use Rattle.command_line.specs.declared.fault.LineFault.{LineFault}
use Rattle.command_line.specs.declared.fault.LineFault.TheVariants.{Memory, Shown}

-- a parser's error of these kinds, as a line's fault
pub fault_in : (faults : Kinds) (error : Error) (fault : LineFault) → HasKind faults error
    → ((e : Error) → fault ≡ Shown e → (kind_of e ≡ kind_of error) × (kind_of e ≡ OutOfMemory → ⊥)) → IsFaultOf faults fault
fault_in faults error Memory kinds shown = tt
fault_in faults error (Shown e) kinds shown =
    let same = shown e refl in
    (⊎_elim (λ memory. absurd (same.1 (same.0 ∙ memory))) (λ among. subst (λ k. IsAmong k faults) (sym same.0) among) kinds, same.1)

-- where nothing is held against the words, only memory fails
pub only_memory : (faults : Kinds) (fault : LineFault) → faults ≡ [] → IsFaultOf faults fault → fault ≡ Memory
only_memory faults (Shown e) none is = absurd (subst (IsAmong (kind_of e)) none is.0)
only_memory faults Memory none is = refl
