use Rattle.std.proofs.Common.{◌≡◌, ℕ, List, Ok, Err, subst, refl}
use Rattle.std.specs.Prelude.{Result, IfOk, MatchResult, IsErrOf}
use Rattle.script.specs.declared.command.Script.{Script}
use Rattle.script.specs.declared.fault.ScriptFault.{ScriptFault}
use Rattle.script.specs.declared.fault.ScriptFault.TheVariants.{Line, Memory}
use Rattle.script.specs.Language.{IsScript, IsFaultLine}
use Rattle.script.specs.Meaning.{ScriptContent, script_content}
use Rattle.script.specs.Pieces.{lines}
use Rattle.script.specs.Reading.{GivesScript, script_of}
use Rattle.script.proofs.Laws.{found, only}
use Rattle.script.proofs.Faults.{begun, fault}
use Rattle.script.proofs.read.read_script.Goals as goal

is_found : (read : Result Script ScriptFault) (text : List ℕ) → GivesScript script_content read (script_of text) → IfOk read (λ script. IsScript text (script_content script))
is_found (Ok script) text gives = found text (script_content script) gives
is_found (Err f) text gives = tt

is_only : (read : Result Script ScriptFault) (text : List ℕ) → GivesScript script_content read (script_of text) → (meant : ScriptContent) → IsScript text meant → MatchResult read (λ script. script_content script ≡ meant) (λ f. f ≡ Memory)
is_only (Ok script) text gives meant is = let read = only text meant is in cc
is_only (Err Memory) text gives meant is = refl
is_only (Err (Line number)) text gives meant is = let read = only text meant is in absurd (cc)

is_fault : (read : Result Script ScriptFault) (text : List ℕ) → GivesScript script_content read (script_of text) → (number : ℕ) → IsErrOf read (Line number) → IsFaultLine text number
is_fault (Ok script) text gives number is = absurd (cc)
is_fault (Err Memory) text gives number is = absurd (cc)
is_fault (Err (Line n)) text gives number is =
    let same : n ≡ number = cc in
    subst (IsFaultLine text) same (fault text n gives)

pub returns-clause-found : goal.returns-clause-found
returns-clause-found c = is_found c.read.result c.args.bytes.now c.read.ensures.given

pub returns-clause-only : goal.returns-clause-only
returns-clause-only c = is_only c.read.result c.args.bytes.now c.read.ensures.given

pub returns-clause-memory : goal.returns-clause-memory
returns-clause-memory c = λ wants. begun (lines c.args.bytes.now) (c.read.ensures.memory wants)

pub returns-clause-fault : goal.returns-clause-fault
returns-clause-fault c = is_fault c.read.result c.args.bytes.now c.read.ensures.given
