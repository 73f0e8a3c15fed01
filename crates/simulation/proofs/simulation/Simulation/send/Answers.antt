use Rattle.std.proofs.Common.{subst, sym}
use Rattle.script.specs.Meaning as commands
use Rattle.simulation.proofs.SimulatedSender.{send_answered, sends_from}
use Rattle.simulation.proofs.Simulations.{on_both, seen_as}
use Rattle.simulation.specs.Simulated.{StandsSomewhere}
use Rattle.simulation.proofs.simulation.Simulation.send.Goals as goal

pub step-requires-clause-from : goal.step-requires-clause-from
step-requires-clause-from c = sends_from c.sends_again_what_it_sent.ensures.there _ (subst StandsSomewhere (sym c.self.view_is) c.requires) c.self.invariant.from

pub returns : goal.returns
returns c =
    let before = c.args.lines.now.items in
    let after = c.tell_all.new.lines.items in
    on_both c.tell_all.result _ _ _ c.tell_all.ensures.given c.tell_all.ensures.line
    (λ given told. seen_as _ _ _ (commands.Send c.args.now) before after c.self.view_is (send_answered c.near_starts_suffice.ensures.later c.sends_again_what_it_sent.ensures.again c.keeps_enough.ensures.one c.keeps_enough.ensures.group _ c.args.now c.step.new.log c.step.new.self c.tell_all.new.self c.step.new.outbox.datagrams before after c.self.invariant.first c.self.invariant.from c.step.ensures.step.1 c.step.ensures.leaves given told))
