use Rattle.commands.proofs.decoding.frame_line.FrameLineDisplay.fmt.Goals as goal

pub returns-in-Data-clause-writes : goal.returns-in-Data-clause-writes
returns-in-Data-clause-writes g c = rw (c.in-Data.is, ← c.frame_length-length.ensures) c.write.ensures.writes

pub returns-in-Pad-clause-writes : goal.returns-in-Pad-clause-writes
returns-in-Pad-clause-writes g c = rw c.in-Pad.is c.write-in-Pad.ensures.writes
