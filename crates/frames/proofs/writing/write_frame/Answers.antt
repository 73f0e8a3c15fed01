use Rattle.std.proofs.Common.{◌++◌, length, drop, sym, ap, ◌∙◌}
use Rattle.theory.specs.Wire.{spelling}
use Rattle.frames.specs.declared.frame.Frame.{Frame}
use Rattle.frames.specs.Frames.{wire}
use Rattle.frames.proofs.writing.write_frame.Goals as goal

pub returns-in-Data-clause-written : goal.returns-in-Data-clause-written
returns-in-Data-clause-written c =
    c.write_data.ensures.written ∙ ap (λ (f : Frame). spelling (wire f) ++ drop (length (spelling (wire f))) c.args.buffer.now) (sym c.in-Data.is)
