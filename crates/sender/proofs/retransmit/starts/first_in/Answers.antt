use Rattle.std.proofs.Common.{sym, Some, None}
use Rattle.sender.proofs.Resending.Ascending.{first_in}
use Rattle.sender.proofs.retransmit.starts.first_in.Goals as goal

pub returns-in-Some-clause-first : goal.returns-in-Some-clause-first
returns-in-Some-clause-first c = sym ((first_in c.requires.0 c.requires.1 c.args.from c.args.end c.args.starts.now.items (Some c.in-Some.start) c.requires.2 c.in-Some.ensures).0 c.if-start-end.true)

pub returns-in_default-clause-first : goal.returns-in_default-clause-first
returns-in_default-clause-first c = sym ((first_in c.requires.0 c.requires.1 c.args.from c.args.end c.args.starts.now.items (Some c.in-Some.start) c.requires.2 c.in-Some.ensures).1 c.if-start-end.false)

pub returns-in_default-2-clause-first : goal.returns-in_default-2-clause-first
returns-in_default-2-clause-first c = sym (first_in c.requires.0 c.requires.1 c.args.from c.args.end c.args.starts.now.items None c.requires.2 (c.in_default.ensures))
