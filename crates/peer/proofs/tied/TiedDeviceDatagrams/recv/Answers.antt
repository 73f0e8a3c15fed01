use Rattle.std.proofs.Common.{subst}
use Rattle.peer.specs.Ties.{EndsSeeking}
use Rattle.std.proofs.Common.{Ok, Bool}
use Rattle.peer.proofs.Passing.{handed}
use Rattle.peer.proofs.tied.TiedDeviceDatagrams.recv.Goals as goal

pub returns-clause-takes : goal.returns-clause-takes
returns-clause-takes c =
    let s = c.in_ok-seek.ensures.seeks in
    record {
      count = s.count;
      middle = s.middle;
      passes = s.passes;
      ends = handed s.middle c.seek.new.self c.settle.new.self c.hand_over.result c.hand_over.new.buffer
          (subst (λ (b : Bool). EndsSeeking s.middle (Ok b) c.seek.new.self) c.if-not-branch.false s.ends) c.settle.ensures.settles c.settle.ensures.socket c.hand_over.ensures.hands;
    }
