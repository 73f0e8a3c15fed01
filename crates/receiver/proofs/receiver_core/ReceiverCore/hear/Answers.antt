use Rattle.std.proofs.Common.{refl}
use Rattle.receiver.specs.contracts.receiver_core.ReceiverCore.{the_view}
use Rattle.frames.specs.Frames.{header_of}
use Rattle.receiver.proofs.Meeting.{beat_met, beat_missed, imaged, looks_image, looks_nowhere, missed}
use Rattle.receiver.proofs.receiver_core.ReceiverCore.hear.Goals as goal

pub returns-in-None-clause-met : goal.returns-in-None-clause-met
returns-in-None-clause-met c = rw (← c.self.view_is) (beat_missed _ (header_of c.args.header.now) c.in-None.is)

pub returns-in-Some-clause-met : goal.returns-in-Some-clause-met
returns-in-Some-clause-met c = rw (← c.self.view_is) (beat_met _ _ c.hear.new.self (header_of c.args.header.now) c.in-Some.is c.hear.ensures.sees c.hear.ensures.heard)

pub returns-in-None-clause-looks : goal.returns-in-None-clause-looks
returns-in-None-clause-looks c = rw (← c.self.view_is) (looks_nowhere (the_view c.self.inside) (missed (the_view c.self.inside) (header_of c.args.header.now)) c.in-None.is)

pub returns-in-Some-clause-looks : goal.returns-in-Some-clause-looks
returns-in-Some-clause-looks c = rw (← c.self.view_is) (looks_image (the_view c.self.inside) (imaged (the_view c.self.inside) c.hear.new.self) _ c.hear.new.self c.in-Some.is refl c.hear.ensures.looks)
