use Rattle.std.proofs.Common.{rules}
use Rattle.image.proofs.Masks.{mask_is}
use Rattle.image.proofs.words.mask.Goals as goal

pub returns : goal.returns
returns c = mask_is c.args.low c.args.high c.requires.some c.requires.within (search rules)
