use Rattle.image_rule.specs.Rule.{BeginsAt}
use Rattle.image.proofs.inserter.begin.Given as goal

abbrev pub invariant-loop-number : goal.invariant-loop-number
invariant-loop-number l = BeginsAt l.number l.join l.fn.words.items l.words.items
