use Rattle.std.proofs.Common.{◌≡◌, Some, ap}
use Rattle.std.specs.Prelude.{option_map}
use Rattle.frames.specs.Frames.{header_of}
use Rattle.receiver.proofs.receiver_core.ReceiverCore.ask.Goals as goal

pub asking-requires : goal.asking-requires
asking-requires c =
    let is : c.self.inside.unmet ≡ Some c.in-Some.header = cc in
    c.self.invariant.unmet (header_of c.in-Some.header) (ap (option_map header_of) is)
