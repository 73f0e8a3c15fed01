use Rattle.std.proofs.Common.{◌∙◌}
use Rattle.region.proofs.eighths.eight_readers.Goals as goal

-- what is joined is the run that was shared
pub returns : goal.returns
returns c =
    let kept = c.loop-readers.invariant in
    c.end_reading.ensures ∙ (λ j. record { identity = kept.5 j; at = kept.6 j; items = kept.7 j })
