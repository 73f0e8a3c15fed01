use Rattle.std.proofs.Common.{arith}
use Rattle.frames.proofs.Laws.{is_found, is_only}
use Rattle.frames.proofs.Faults.{is_first}
use Rattle.frames.proofs.reading.read_frame.Goals as goal

pub returns-clause-found : goal.returns-clause-found
returns-clause-found c = is_found c.args.bytes.now c.read.result (λ i. omega (arith, c.type_inv.bytes i)) c.read.ensures

pub returns-clause-only : goal.returns-clause-only
returns-clause-only c = λ w n h. is_only c.args.bytes.now c.read.result w n c.read.ensures h

pub returns-clause-fault : goal.returns-clause-fault
returns-clause-fault c = is_first c.args.bytes.now c.read.result c.read.ensures
