use Rattle.std.proofs.Common.{subst, sym}
use Rattle.std.specs.Prelude.{length}
use Rattle.script.specs.Meaning as commands
use Rattle.simulation.proofs.SimulatedNews.{raw_back_answered, replied_lines}
use Rattle.simulation.proofs.SimulatedSender.{sends_from}
use Rattle.simulation.proofs.Simulations.{on_both, seen_as}
use Rattle.simulation.specs.Simulated.{StandsSomewhere}
use Rattle.simulation.proofs.simulation.Simulation.raw_back.Goals as goal

pub step-answer-requires-clause-from : goal.step-answer-requires-clause-from
step-answer-requires-clause-from c = sends_from c.sends_again_what_it_sent.ensures.there _ (subst StandsSomewhere (sym c.self.view_is) c.requires) c.self.invariant.from

pub returns : goal.returns
returns c =
    let before = c.args.lines.now.items in
    let after = c.give_all.new.lines.items in
    let old = c.self.inside in
    let sent = c.step-answer.new.outbox.datagrams in
    on_both c.give_all.result _ _ _ c.give_all.ensures.given c.give_all.ensures.line
    (λ given told. seen_as _ _ _ (commands.RawBack c.args.now c.args.bytes.now) before after c.self.view_is (raw_back_answered c.near_starts_suffice.ensures.answers c.keeps_enough.ensures.one c.keeps_enough.ensures.group _ c.args.now c.args.bytes.now c.step-answer.result c.step-answer.new.self c.give_all.new.self sent c.step-answer.new.log before after c.self.invariant.from c.self.invariant.there c.step-answer.ensures.leaves c.step-answer.ensures.step given (replied_lines before c.add_line.new.lines.items after c.step-answer.result (length old.packets) sent c.in_ok-add_line.ensures told)))
