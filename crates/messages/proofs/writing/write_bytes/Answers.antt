use Rattle.std.proofs.Common.{arith}
use Rattle.messages.proofs.Parts.{more_written, some_left, still_written}
use Rattle.messages.proofs.writing.write_bytes.Goals as goal
use Rattle.messages.proofs.writing.write_bytes.Goals.{in-Ok-2, in-Err}

pub loop-turn-preserved : goal.loop-turn-preserved
loop-turn-preserved g c =
    let i = c.loop-turn.invariant in
    let all = c.args.bytes.now in
    elim c.match-write.branch [
      | in-Ok-2 w ↦ record {
        left = some_left all c.loop-turn.at w.in-Ok.count _ w.at-is i.left w.in-Ok.ensures.bound w.if-count-rest.false;
        written = more_written _ _ _ all c.loop-turn.at w.in-Ok.count _ w.at-is i.written w.in-Ok.ensures.bytes;
      }
      | in-Err w ↦ record { left = omega (arith, w.at-is, i.left); written = still_written _ _ _ all c.loop-turn.at _ w.at-is i.written w.in-Err.ensures.bytes }
    ]
