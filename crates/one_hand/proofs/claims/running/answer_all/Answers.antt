use Rattle.std.proofs.Common.{arith}
use Rattle.one_hand.proofs.Steps.{after_next, answers_next}
use Rattle.one_hand.proofs.claims.running.answer_all.Goals as goal

pub loop-command-preserved : goal.loop-command-preserved
loop-command-preserved g c =
    let i = c.loop-command.invariant in
    let below = c.loop-command-test.true in
    let is = c.command-item.is in
    record {
      answers = answers_next _ _ c.args.commands.now _ c.command-item.result c.loop-command.answers.items c.push_reserved.new.self.items c.run_one.result below is i.after i.answers c.run_one.ensures.answer c.push_reserved.ensures.items;
      after = after_next _ _ _ c.args.commands.now _ c.command-item.result below is i.after c.run_one.ensures.after;
      count = omega (arith, i.count, c.push_reserved.ensures.len);
      room = omega (arith, i.room, c.push_reserved.ensures.capacity);
    }
