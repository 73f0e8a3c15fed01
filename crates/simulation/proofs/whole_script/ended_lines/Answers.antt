use Rattle.std.proofs.Common.{◌≡◌, List, length, rules, subst}
use Rattle.script.specs.Meaning.{contents_of, group_in, script_content}
use Rattle.script.specs.declared.command.Command.{Command}
use Rattle.simulation.specs.Runs.{Continues}
use Rattle.simulation.proofs.ScriptRuns.{begins_somewhere, runs_to}
use Rattle.simulation.proofs.whole_script.ended_lines.Goals as goal

pub answer_all-requires : goal.answer_all-requires
answer_all-requires c = begins_somewhere c.args.simulation c.args.simulation.log.identity (group_in (script_content c.args.script.now).commands) c.args.simulation.log.start c.args.script.now.log.readers c.requires.begins c.requires.opened

pub returns : goal.returns
returns c =
    let eight : length c.end-book.result.shares ≡ 8 = search rules in
    let old = c.args.simulation in
    let new = c.answer_all.new.simulation in
    let opened = c.add_line.new.lines.items in
    let there = c.answer_all.new.lines.items in
    runs_to c.shares_are_counted.ensures.counted old new old.log.identity old.log.start c.args.script.now.log.readers (script_content c.args.script.now).commands c.args.lines.items opened there c.add_line-2.new.lines.items c.end-book.result eight c.requires.begins c.requires.opened c.in_ok-add_line.ensures
    (subst (λ (cs : List Command). Continues old (contents_of cs) opened there new) c.deref.ensures.value c.in_ok-answer_all.ensures) c.end-book.ensures c.in_ok-add_line-2.ensures
