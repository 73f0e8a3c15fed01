use Rattle.std.proofs.Common.{◌≡◌, ◌-◌}
use Rattle.theory.specs.Position.{max_position}
use Rattle.sender.specs.Sending.{Sending}
use Rattle.sender.proofs.SendLemmas.{SendsOn}
use Rattle.sender.proofs.sender_core.SenderCore.send.Given as goal

abbrev pub invariant-loop-head : goal.invariant-loop-head
invariant-loop-head g l =
    let i = l.self-inside in
    let t : Sending g.row.R.Denot g.row.F.Denot = record { identity = i.identity; reads = i.reads; flow = i.flow; naming = i.setup; heard = i.heard; handler = i.handler; last = i.last; clock = i.clock } in
    record {
      on : SendsOn g.R.FrameSource.grown l.limit (g.R.FrameSource.source l.fn.self.reads l.fn.log) l.fn.self l.fn.outbox (g.R.FrameSource.source i.reads l.log) t i.block l.packing l.outbox;
      limit : l.limit ≡ g.F.FlowControl.reached l.fn.self.flow;
      stands : g.R.FrameSource.stands i.reads l.log;
      leaves : g.R.FrameSource.leaves l.fn.self.reads l.fn.log i.reads l.log;
    }

abbrev pub decreases-loop-head : goal.decreases-loop-head
decreases-loop-head g l = max_position l.self-inside.identity.geometry - l.self-inside.handler.at
