use Rattle.std.proofs.Common.{◌≡◌, ◌∙◌, ℕ, ◌+◌, suc, arith, rules, ap, sym, refl, FitsSigned, w32, to_z, of_z}
use Rattle.std.specs.Prelude.{Err}
use Rattle.std.proofs.lemmas.Int.{to_z-of_z}
use Rattle.theory.specs.Bytes.{Identity}
use Rattle.shared_log.specs.declared.fault.LogError.TheVariants.{Start}
use Rattle.one_hand.specs.Stream.{opened}
use Rattle.script.specs.Meaning.{script_content}
use Rattle.simulation.proofs.Identities.{same_identity}
use Rattle.simulation.proofs.ScriptRuns.{refused_start}
use Rattle.simulation.proofs.whole_script.log_lines.Goals as goal

pub opened_lines-requires-clause-opened : goal.opened_lines-requires-clause-opened
opened_lines-requires-clause-opened c =
    let log = c.args.script.now.log in
    let session : FitsSigned w32 c.args.script.now.log.session = search rules in
    let stream : FitsSigned w32 c.args.script.now.log.stream = search rules in
    let i : Identity = record { geometry = c.args.geometry; session = log.session; stream = log.stream } in
    let same = same_identity i c.args.geometry (to_z w32 (of_z w32 log.session)) (to_z w32 (of_z w32 log.stream)) refl (to_z-of_z w32 log.session session) (to_z-of_z w32 log.stream stream) in
    let more : log.readers + 1 ≡ suc log.readers = omega arith in
    c.in-Ok.ensures.opened ∙ ap (λ (j : Identity). opened j log.start (log.readers + 1)) (sym same) ∙ ap (λ (n : ℕ). opened i log.start n) more

pub returns-in_ok-add_line-in-Err-Start : goal.returns-in_ok-add_line-in-Err-Start
returns-in_ok-add_line-in-Err-Start c =
    let log = c.args.script.now.log in
    let which : c.in-Err-Start.field-0 ≡ Start = search rules in
    refused_start (script_content c.args.script.now) c.args.geometry c.args.lines.items c.add_line.new.lines.items c.requires.made c.requires.legal
    (c.open.ensures.start.0 (c.in-Err-Start.is ∙ ap Err which)) c.requires.empty c.in_ok-add_line-in-Err-Start.ensures
