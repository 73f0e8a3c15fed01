use Rattle.std.proofs.Common.{None, Some, refl, rules, subst, sym, ◌≡◌}
use Rattle.std.specs.Prelude.{slice_get, length}
use Rattle.std.proofs.lemmas.Result.{on_ok_weaker}
use Rattle.script.specs.Meaning as commands
use Rattle.simulation.proofs.SimulatedNews.{replied_lines, reply_answered}
use Rattle.simulation.proofs.SimulatedSender.{sends_from}
use Rattle.simulation.proofs.Simulations.{missing_reply, on_both, seen_as, unchanged}
use Rattle.simulation.specs.Simulated.{StandsSomewhere}
use Rattle.simulation.proofs.simulation.Simulation.reply.Goals as goal

pub returns-in_default : goal.returns-in_default
returns-in_default c =
    let none : slice_get c.self.inside.packets c.args.packet ≡ None = search rules in
    on_ok_weaker c.add_line.result (λ told. unchanged _ _ (commands.Reply c.args.packet c.args.now) c.args.lines.now.items c.add_line.new.lines.items c.self.view_is (missing_reply _ c.args.packet c.args.now _ c.args.lines.now.items c.add_line.new.lines.items none refl told)) c.add_line.ensures

pub step-answer-requires-clause-from : goal.step-answer-requires-clause-from
step-answer-requires-clause-from c = sends_from c.sends_again_what_it_sent.ensures.there _ (subst StandsSomewhere (sym c.self.view_is) c.requires) c.self.invariant.from

pub returns : goal.returns
returns c =
    let before = c.args.lines.now.items in
    let after = c.give_all.new.lines.items in
    let old = c.self.inside in
    let packet : slice_get old.packets c.args.packet ≡ Some c.in-Some.bytes.now = search rules in
    let sent = c.step-answer.new.outbox.datagrams in
    on_both c.give_all.result _ _ _ c.give_all.ensures.given c.give_all.ensures.line
    (λ given told. seen_as _ _ _ (commands.Reply c.args.packet c.args.now) before after c.self.view_is (reply_answered c.near_starts_suffice.ensures.answers c.keeps_enough.ensures.one c.keeps_enough.ensures.group _ c.args.packet c.args.now c.in-Some.bytes.now c.step-answer.result c.step-answer.new.self c.give_all.new.self sent c.step-answer.new.log before after packet c.self.invariant.from c.self.invariant.there c.step-answer.ensures.leaves c.step-answer.ensures.step given (replied_lines before c.add_line-2.new.lines.items after c.step-answer.result (length old.packets) sent c.in_ok-add_line.ensures told)))
