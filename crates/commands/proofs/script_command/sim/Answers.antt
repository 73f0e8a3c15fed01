use Rattle.std.proofs.Common.{◌≡◌, ◌≤◌, ℕ, List, Option, None, Some, Result, Ok, Err, length, refl, sym, ap, subst, rules}
use Rattle.std.specs.Prelude.{IfErr, IfSome, OnOk}
use Rattle.std.specs.Io.KnownBytes.{Appends, Consumes}
use Rattle.std.proofs.lemmas.Result.{IfErr-weaker, err_from_is_err_and}
use Rattle.script.specs.Language.{IsFaultLine, IsScript}
use Rattle.script.specs.Meaning.{ScriptContent, script_content}
use Rattle.simulation.specs.LineTexts.{text_of_lines}
use Rattle.simulation.specs.Lines.{line_contents}
use Rattle.script.specs.declared.fault.ScriptFault.{ScriptFault}
use Rattle.script.specs.declared.fault.ScriptFault.TheVariants as scripts
use Rattle.commands.specs.Faults.{of_script}
use Rattle.commands.specs.Scripting.{ExplainsInput, ExplainsScript, HoldsScript, PlaysInput}
use Rattle.commands.specs.declared.fault.Fault.{Fault}
use Rattle.commands.specs.declared.fault.Fault.TheVariants.{Line, Input, Memory, Hex, Frame, Read, Write, Plan, Order, Device}
use Rattle.commands.proofs.script_command.sim.Goals as goal

-- an input that was read as a script holds one
holds : (known : Option (List ℕ)) (text : List ℕ) (script : ScriptContent) → IfSome known (λ bytes. text ≡ bytes) → length text ≤ 1048576 → IsScript text script → IfSome known HoldsScript
holds None text script whole short is = tt
holds (Some bytes) text script whole short is = subst HoldsScript whole (short, (script, is))

held : (known : Option (List ℕ)) (text : List ℕ) (script : ScriptContent) → IfSome known (λ bytes. text ≡ bytes) → length text ≤ 1048576 → IsScript text script → IfSome known (λ bytes. (length bytes ≤ 1048576) × IsScript bytes script)
held None text script whole short is = tt
held (Some bytes) text script whole short is = subst (λ x. (length x ≤ 1048576) × IsScript x script) whole (short, is)

-- and a failed write says so
written : (known left : Option (List ℕ)) (fault : Fault) → IfSome known HoldsScript → fault ≡ Write → ExplainsScript known left fault
written known left fault h e = subst (λ f. ExplainsScript known left f) (sym e) h

-- where not all is taken, it isn't played
not_taken : (known left : Option (List ℕ)) (fault : Fault) → ExplainsInput known left fault → ExplainsScript known left fault
not_taken known left (Line n) h = absurd h
not_taken known left Input h = h
not_taken known left Memory h = h
not_taken known left Hex h = absurd h
not_taken known left (Frame error) h = absurd h
not_taken known left Read h = h
not_taken known left Write h = absurd h
not_taken known left (Plan fault) h = absurd h
not_taken known left Order h = absurd h
not_taken known left Device h = absurd h

fault_line : (known : Option (List ℕ)) (text : List ℕ) (n : ℕ) → IfSome known (λ bytes. text ≡ bytes) → length text ≤ 1048576 → IsFaultLine text n → IfSome known (λ bytes. (length bytes ≤ 1048576) × IsFaultLine bytes n)
fault_line None text n whole short is = tt
fault_line (Some bytes) text n whole short is = subst (λ x. (length x ≤ 1048576) × IsFaultLine x n) whole (short, is)

-- nor where it is no script
not_read : (known left : Option (List ℕ)) (text : List ℕ) (fault : ScriptFault) → IfSome known (λ bytes. text ≡ bytes) → Consumes known left text → length text ≤ 1048576 → ((n : ℕ) → fault ≡ scripts.Line n → IsFaultLine text n) → ExplainsScript known left (of_script fault)
not_read known left text (scripts.Line n) whole taken short line = fault_line known text n whole short (line n refl)
not_read known left text scripts.Memory whole taken short line = (text, taken, short)

on_ok : {T E P : Type 0} (r : Result T E) → P → OnOk r P
on_ok (Ok x) p = p
on_ok (Err e) p = tt

pub returns-in_err-text-clause-fault : goal.returns-in_err-text-clause-fault
returns-in_err-text-clause-fault g c =
    let p = err_from_is_err_and c.from_residual.result c.from_residual.ensures.1 in
    rw (p.1, p.2) (not_taken _ _ _ c.in_err-text.ensures.fault)

pub returns-in_err-script-clause-fault : goal.returns-in_err-script-clause-fault
returns-in_err-script-clause-fault g c =
    let e = c.from_residual-in_err-script in
    let p = err_from_is_err_and e.result e.ensures.1 in
    let t = c.in_ok-text.ensures in
    let short : length c.in_ok-text.text.items ≤ 1048576 = search rules in
    rw (p.1, p.2) (not_read _ _ c.in_ok-text.text.items _ t.whole t.taken short (λ n is. subst (λ bytes. IsFaultLine bytes n) c.deref.ensures.value (c.in_err-script.ensures.fault n (ap Err is))))

pub returns-in_err-lines-clause-fault : goal.returns-in_err-lines-clause-fault
returns-in_err-lines-clause-fault g c =
    let e = c.from_residual-in_err-lines in
    let p = err_from_is_err_and e.result e.ensures.1 in
    let short : length c.in_ok-text.text.items ≤ 1048576 = search rules in
    rw (p.1, p.2) (c.in_ok-text.text.items, c.in_ok-text.ensures.taken, short)

pub returns-in_err-write_lines-clause-fault : goal.returns-in_err-write_lines-clause-fault
returns-in_err-write_lines-clause-fault g c =
    let known = g.R.Read.remaining c.args.input.now in
    let is : IsScript c.in_ok-text.text.items (script_content c.in_ok-script.script) = subst (λ bytes. IsScript bytes (script_content c.in_ok-script.script)) c.deref.ensures.value c.in_ok-script.ensures.found in
    let short : length c.in_ok-text.text.items ≤ 1048576 = search rules in
    let there = holds known c.in_ok-text.text.items (script_content c.in_ok-script.script) c.in_ok-text.ensures.whole short is in
    let write : IfErr c.from_residual-in_err-write_lines.result (λ fault. fault ≡ Write) = search rules in
    IfErr-weaker c.from_residual-in_err-write_lines.result _ _ (λ fault e. written known _ fault there e) write

pub returns-clause-done : goal.returns-clause-done
returns-clause-done g c =
    let known = g.R.Read.remaining c.args.input.now in
    let is : IsScript c.in_ok-text.text.items (script_content c.in_ok-script.script) = subst (λ bytes. IsScript bytes (script_content c.in_ok-script.script)) c.deref.ensures.value c.in_ok-script.ensures.found in
    let short : length c.in_ok-text.text.items ≤ 1048576 = search rules in
    let lines = line_contents c.in_ok-lines.lines.items in
    let printed : Appends (g.W.Write.contents c.args.output.now) (g.W.Write.contents c.flush.new.self) (text_of_lines (line_contents c.deref-2.result.now)) = search rules in
    let plays : PlaysInput known (g.W.Write.contents c.args.output.now) (g.W.Write.contents c.flush.new.self) = record {
      script = script_content c.in_ok-script.script;
      held = held known c.in_ok-text.text.items (script_content c.in_ok-script.script) c.in_ok-text.ensures.whole short is;
      lines = lines;
      output = c.in_ok-lines.ensures;
      written = subst (λ ls. Appends (g.W.Write.contents c.args.output.now) (g.W.Write.contents c.flush.new.self) (text_of_lines (line_contents ls))) c.deref-2.ensures.value printed;
    } in
    on_ok c.map_err.result plays

pub returns-clause-fault : goal.returns-clause-fault
returns-clause-fault g c =
    let known = g.R.Read.remaining c.args.input.now in
    let is : IsScript c.in_ok-text.text.items (script_content c.in_ok-script.script) = subst (λ bytes. IsScript bytes (script_content c.in_ok-script.script)) c.deref.ensures.value c.in_ok-script.ensures.found in
    let short : length c.in_ok-text.text.items ≤ 1048576 = search rules in
    let there = holds known c.in_ok-text.text.items (script_content c.in_ok-script.script) c.in_ok-text.ensures.whole short is in
    let write : IfErr c.map_err.result (λ fault. fault ≡ Write) = search rules in
    IfErr-weaker c.map_err.result _ _ (λ fault e. written known _ fault there e) write
