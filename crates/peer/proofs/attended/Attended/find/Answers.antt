use Rattle.std.proofs.Common.{rules}
use Rattle.peer.proofs.Passing.{found_enough, found_then, passed_on}
use Rattle.peer.proofs.attended.Attended.find.Goals as goal

pub returns-in_err-size-clause-finds : goal.returns-in_err-size-clause-finds
returns-in_err-size-clause-finds g c =
    let l = c.loop in
    found_then g.D.Datagrams.device g.D.Datagrams.tells c.args.self.now l.self c.look.new.self c.args.buffer.now l.buffer c.look.new.buffer c.from_residual.result l.invariant.passes l.invariant.buffer (search rules)

pub returns-in-Handed-clause-finds : goal.returns-in-Handed-clause-finds
returns-in-Handed-clause-finds g c =
    let l = c.loop in
    found_then g.D.Datagrams.device g.D.Datagrams.tells c.args.self.now l.self c.look.new.self c.args.buffer.now l.buffer c.look.new.buffer _ l.invariant.passes l.invariant.buffer (search rules)

pub returns-in-Nothing-clause-finds : goal.returns-in-Nothing-clause-finds
returns-in-Nothing-clause-finds g c =
    let l = c.loop in
    found_then g.D.Datagrams.device g.D.Datagrams.tells c.args.self.now l.self c.look.new.self c.args.buffer.now l.buffer c.look.new.buffer _ l.invariant.passes l.invariant.buffer (search rules)

pub loop-preserved : goal.loop-preserved
loop-preserved g c =
    let l = c.loop in
    record {
      passes = passed_on g.D.Datagrams.device g.D.Datagrams.tells c.args.self.now l.self c.look.new.self c.args.buffer.now l.buffer l.invariant.passes l.invariant.buffer (search rules);
      buffer = search rules;
      passed = search rules;
      failures = search rules;
      nones = search rules;
    }

pub returns-clause-finds : goal.returns-clause-finds
returns-clause-finds g c =
    let l = c.loop in
    found_enough g.D.Datagrams.device g.D.Datagrams.tells c.args.self.now l.self _ c.args.buffer.now l.buffer l.invariant.passes (search rules) (search rules)
