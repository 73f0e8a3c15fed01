use Rattle.std.proofs.Common.{◌∷◌, [], length, length-append, ap, arith}
use Rattle.options.proofs.Leading.{one_more, one_wrong}
use Rattle.options.proofs.ends.ways.ways_of.Goals as goal

pub returns-in-Err-clause-fault : goal.returns-in-Err-clause-fault
returns-in-Err-clause-fault c =
    one_wrong c.args.channel.now c.args.to.now c.loop-text.text-index c.loop-text.ways.items c.deref.result.now c.in-Err.fault c.loop-text-test.true c.loop-text.invariant.lead c.deref.ensures.value c.in-Err.ensures.fault

pub loop-text-preserved : goal.loop-text-preserved
loop-text-preserved c =
    let ways = c.loop-text.ways.items in let pushed = c.in_ok-push-2.ensures.items in
    record {
      lead = one_more c.args.channel.now c.args.to.now c.loop-text.text-index ways c.deref.result.now c.push-in-loop-text.new.self.items c.in-Ok.way c.loop-text-test.true c.loop-text.invariant.lead c.deref.ensures.value c.in-Ok.ensures.made.0 c.in-Ok.ensures.made.1 pushed;
      many = (let a = length-append ways (c.in-Ok.way ∷ []) in let m = c.loop-text.invariant.many in let l = ap length pushed in omega (arith, a, m, l));
    }
