use Rattle.std.proofs.Common.{rules}
use Rattle.subscriber.proofs.Taken.{takes_one}
use Rattle.subscriber.proofs.images.session_device.SessionDeviceDatagrams.recv.Goals as goal

pub returns-clause-takes : goal.returns-clause-takes
returns-clause-takes g c =
    takes_one _ _ c.in-Some.routed c.pop_front.new.self.items c.min-length.result c.args.buffer.now c.copy_from_slice.new.self (search rules) (search rules) (search rules) (search rules)
