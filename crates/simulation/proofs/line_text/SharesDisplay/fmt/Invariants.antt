use Rattle.std.proofs.Common.{take}
use Rattle.std.specs.Fmt.{HasWritten, IsPlainFormatter}
use Rattle.simulation.specs.LineTexts.{shares_text}
use Rattle.simulation.proofs.line_text.SharesDisplay.fmt.Given as goal

-- the shares so far
abbrev pub invariant-loop-share : goal.invariant-loop-share
invariant-loop-share g l =
    IsPlainFormatter l.fn.f → HasWritten g.W.Write.write_str_gives l.fn.f (shares_text (take l.share-index l.self.0.now)) l.f
