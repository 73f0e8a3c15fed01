use Rattle.std.proofs.Common.{◌-◌, ◌<◌, length, take, drop, arith}
use Rattle.std.proofs.lemmas.List.{take_rest}
use Rattle.frames.specs.Frames.{wire}
use Rattle.frames.proofs.Together.{accepted, goes_on, takes_some}
use Rattle.frames.proofs.datagram.count.Goals as goal

pub returns-then-is_last-clause-found : goal.returns-then-is_last-clause-found
returns-then-is_last-clause-found c =
    let rest = c.loop-frame.rest.now in
    let size = c.in_ok-frame.size in
    accepted c.args.bytes.now rest (take (length rest - size) (drop size rest)) (wire c.in_ok-frame.frame) size c.loop-frame.frames c.may_stand.result c.is_empty-is_last.result
    c.loop-frame.invariant.read c.in_ok-frame.ensures.found (take_rest rest size) c.is_empty-is_last.ensures c.may_stand.ensures c.if-not-may_stand.false c.if-is_last.true

pub loop-frame-preserved : goal.loop-frame-preserved
loop-frame-preserved c =
    let rest = c.loop-frame.rest.now in
    let size = c.in_ok-frame.size in
    let cut = take (length rest - size) (drop size rest) in
    let less : length cut < length rest = takes_some rest cut (wire c.in_ok-frame.frame) size c.in_ok-frame.ensures.found (take_rest rest size) in
    record {
      read = goes_on c.args.bytes.now rest cut (wire c.in_ok-frame.frame) size c.loop-frame.frames c.may_stand.result c.is_empty-is_last.result
          c.loop-frame.invariant.read c.in_ok-frame.ensures.found (take_rest rest size) c.is_empty-is_last.ensures c.may_stand.ensures c.if-not-may_stand.false c.if-is_last.false;
      bound = omega (arith, less);
    }
