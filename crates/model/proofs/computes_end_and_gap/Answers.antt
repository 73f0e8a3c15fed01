use Rattle.model.proofs.Contents.{has_one_content}
use Rattle.model.proofs.WorldGaps.{first_gap, gaps_told}
use Rattle.theory.proofs.Contiguous.{contiguous_is, contiguous_only}
use Rattle.model.proofs.computes_end_and_gap.Goals as goal

pub returns-clause-end : goal.returns-clause-end
returns-clause-end c = λ frames j high below. (contiguous_is frames j high below, λ q end. contiguous_only frames j high q below end)

pub returns-clause-gap : goal.returns-clause-gap
returns-clause-gap c = first_gap

pub returns-clause-content : goal.returns-clause-content
returns-clause-content c = has_one_content

pub returns-clause-told : goal.returns-clause-told
returns-clause-told c = gaps_told
