use Rattle.std.proofs.Common.{ap}
use Rattle.frames.specs.Frames.{wire}
use Rattle.sender.proofs.CycleLemmas.{setup_given}
use Rattle.sender.proofs.sender_core.SenderCore.give_setup.Goals as goal

pub returns : goal.returns
returns g c =
    setup_given c.args.outbox.now c.push.new.self (wire c.setup_frame.result) c.self.inside.identity c.args.self.now.identity c.position-position.result c.self.inside.handler.at c.args.self.now.handler.at
    c.push.ensures c.setup_frame.ensures.frame (ap (λ s. s.identity) c.self.view_is) c.position-position.ensures.value (ap (λ s. s.handler.at) c.self.view_is)
