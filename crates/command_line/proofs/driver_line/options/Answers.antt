use Rattle.std.proofs.Common.{◌≡◌, List, map, subst}
use Rattle.std.specs.Prelude.{Option}
use Rattle.clap.specs.Words.{IsAmong, Kinds, Row, Text, kind_of}
use Rattle.clap.specs.declared.error.Error.{Error}
use Rattle.clap.specs.declared.error.kind.ErrorKind.TheVariants.{OutOfMemory}
use Rattle.command_line.specs.CommandLines.{IsChoice, driver_app}
use Rattle.command_line.specs.Refusals.{IsFaultOf}
use Rattle.command_line.specs.declared.fault.LineFault.{LineFault}
use Rattle.command_line.specs.declared.fault.LineFault.TheVariants.{Shown}
use Rattle.command_line.proofs.Faults.{only_memory}
use Rattle.command_line.proofs.TakenLines.{decode_asked_passes, is_free, only_asks, sim_asked_passes, simple}
use Rattle.command_line.proofs.RunMet.{bare_asked_passes, bare_chosen}
use Rattle.command_line.proofs.driver_line.options.Goals as goal

pub returns-in-Ok-clause-only : goal.returns-in-Ok-clause-only
returns-in-Ok-clause-only c =
    let words = map (λ s. s.now) c.args.words.now in
    let passed = c.in-Ok.ensures.passed driver_app c.whole.ensures is_free in
    only_asks words c.choice.result passed (subst (λ (found : Option (Text × List Row)). IsChoice found c.choice.result) (c.in-Ok.ensures.found driver_app c.whole.ensures simple).1 c.choice.ensures)

pub returns-in-Ok-clause-passed : goal.returns-in-Ok-clause-passed
returns-in-Ok-clause-passed c = c.in-Ok.ensures.passed driver_app c.whole.ensures is_free

pub returns-in-Ok-clause-run_taken : goal.returns-in-Ok-clause-run_taken
returns-in-Ok-clause-run_taken c = λ asks.
    let words = map (λ s. s.now) c.args.words.now in
    bare_chosen words c.choice.result asks (subst (λ (found : Option (Text × List Row)). IsChoice found c.choice.result) (c.in-Ok.ensures.found driver_app c.whole.ensures simple).1 c.choice.ensures)

pub returns-in-Err-clause-taken : goal.returns-in-Err-clause-taken
returns-in-Err-clause-taken c = λ asks. only_memory _ c.in-Err.fault (sim_asked_passes (map (λ s. s.now) c.args.words.now) asks) (c.in-Err.ensures.fault driver_app c.whole.ensures is_free)

pub returns-in-Err-clause-decode_taken : goal.returns-in-Err-clause-decode_taken
returns-in-Err-clause-decode_taken c = λ word asks. only_memory _ c.in-Err.fault (decode_asked_passes (map (λ s. s.now) c.args.words.now) word asks) (c.in-Err.ensures.fault driver_app c.whole.ensures is_free)

pub returns-in-Err-clause-run_taken : goal.returns-in-Err-clause-run_taken
returns-in-Err-clause-run_taken c = λ asks. only_memory _ c.in-Err.fault (bare_asked_passes (map (λ s. s.now) c.args.words.now) asks) (c.in-Err.ensures.fault driver_app c.whole.ensures is_free)

-- what was shown
shown_fault : (faults : Kinds) (fault : LineFault) (e : Error) → IsFaultOf faults fault → fault ≡ Shown e → IsAmong (kind_of e) faults × (kind_of e ≡ OutOfMemory → ⊥)
shown_fault faults fault e is same = subst (IsFaultOf faults) same is

pub returns-in-Err-clause-kind : goal.returns-in-Err-clause-kind
returns-in-Err-clause-kind c = λ e shown.
    let same : c.in-Err.fault ≡ Shown e = cc in
    (shown_fault _ c.in-Err.fault e (c.in-Err.ensures.fault driver_app c.whole.ensures is_free) same).0

pub returns-in-Err-clause-shown : goal.returns-in-Err-clause-shown
returns-in-Err-clause-shown c = λ e shown.
    let same : c.in-Err.fault ≡ Shown e = cc in
    (shown_fault _ c.in-Err.fault e (c.in-Err.ensures.fault driver_app c.whole.ensures is_free) same).1
