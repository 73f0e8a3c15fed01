use Rattle.commands.proofs.DecodedLines.{decoded_flushed, decoded_more}
use Rattle.commands.proofs.decoding.input.decode_input.Goals as goal

pub loop-number-preserved : goal.loop-number-preserved
loop-number-preserved g c = decoded_more _ _ _ _ _ _ c.loop-number.invariant (rw c.in-Ok-true.field-0-test at c.in-Ok-true.ensures)

pub returns-in-Ok-false : goal.returns-in-Ok-false
returns-in-Ok-false g c = record { done = decoded_flushed _ _ _ _ _ _ _ c.flushed.result c.loop-number.invariant (rw c.in-Ok-false.field-0-test at c.in-Ok-false.ensures) c.flushed.ensures }
