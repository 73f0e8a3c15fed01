use Rattle.std.proofs.Common.{rules, arith}
use Rattle.std.proofs.lemmas.Grind.{common_steps}
use Rattle.peer.specs.Ties.{Hears}
use Rattle.peer.proofs.tied.TiedDevice.look.Goals as goal

pub returns-then-hears-clause-looks : goal.returns-then-hears-clause-looks
returns-then-hears-clause-looks c =
    let heard : Hears c.args.self.now c.in-Some.from = search rules in
    record { from = c.in-Some.from; bytes = c.in-Some._datagram.now; heard = heard; is = grind (arith, common_steps) }

pub returns-clause-looks : goal.returns-clause-looks
returns-clause-looks c =
    let other : ¬ Hears c.args.self.now c.in-Some.from = search rules in
    record { room = c.requires.room; from = c.in-Some.from; bytes = c.in-Some._datagram.now; other = other; is = grind (arith, common_steps) }
