use Rattle.std.proofs.Common.{◌≡◌, ◌∙◌, ℕ, List, Option, rules, ap, subst, refl, FitsSigned, w32}
use Rattle.std.proofs.lemmas.Result.{IfOk-weaker}
use Rattle.theory.specs.Bytes.{Identity}
use Rattle.theory.specs.Position.{Geometry, IsGeometry}
use Rattle.position.specs.Openings.{IsStart}
use Rattle.script.specs.Meaning.{contents_of, group_in, script_content}
use Rattle.script.specs.declared.command.Command.{Command}
use Rattle.script_meaning.specs.ScriptState.{opened_state}
use Rattle.simulation.specs.Simulated.{RepresentsState}
use Rattle.simulation.specs.Lines.{line_contents}
use Rattle.simulation.specs.declared.line.Line.{Line}
use Rattle.simulation.specs.Runs.{RunsTo}
use Rattle.simulation.proofs.ScriptRuns.{stage_plays}
use Rattle.simulation.proofs.whole_script.opened_lines.Goals as goal

pub returns : goal.returns
returns c =
    let log = c.args.script.now.log in
    let script = script_content c.args.script.now in
    let session : FitsSigned w32 c.args.script.now.log.session = search rules in
    let stream : FitsSigned w32 c.args.script.now.log.stream = search rules in
    let made = c.requires.made in
    let i : Identity = record { geometry = c.args.geometry; session = log.session; stream = log.stream } in
    let group : c.group_of-group.result ≡ group_in script.commands = c.group_of-group.ensures.group ∙ ap (λ (cs : List Command). group_in (contents_of cs)) c.deref.ensures.value in
    let simulation = c.in_ok-simulation.simulation in
    IfOk-weaker c.ended_lines.result _ _
    (λ after runs.
    stage_plays script simulation i log.start log.readers (line_contents after.items)
    (ap (λ (g : Geometry). record { geometry = g; session = log.session; stream = log.stream }) made)
    refl
    refl
    (subst IsGeometry made c.requires.legal)
    (subst (λ (g : Geometry). IsStart g log.start) made c.requires.start)
    (record { session = session; stream = stream })
    c.polls_a_prefix.ensures.polled
    c.polls_a_prefix.ensures.runs
    c.images_stay_in_bounds.ensures
    (subst (λ (o : Option ℕ). RepresentsState simulation (opened_state i o log.start log.readers)) group c.in_ok-simulation.ensures)
    (subst (λ (ls : List Line). RunsTo simulation.log.identity simulation.log.start log.readers script.commands (line_contents ls) (line_contents after.items)) c.requires.empty runs))
    c.ended_lines.ensures
