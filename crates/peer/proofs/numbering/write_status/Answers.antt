use Rattle.std.proofs.Common.{sym}
use Rattle.theory.specs.Wire.{SM, spelling}
use Rattle.frames.specs.Frames.{asks_of, status_of}
use Rattle.peer.proofs.Numbered.{full}
use Rattle.peer.proofs.numbering.write_status.Goals as goal

pub returns : goal.returns
returns c = full c.args.datagram.now c.write_frame.new.buffer (spelling (SM (asks_of c.args.asks) (status_of c.args.status))) c.write_frame.ensures.written (sym c.requires)
