use Rattle.std.proofs.Common.{refl, sym, subst, pos}
use Rattle.std.specs.declared.option.Option.TheVariants.{Some}
use Rattle.pechvang.specs.declared.held.Pass.{Pass}
use Rattle.pechvang.specs.declared.held.Pass.TheVariants.{Publisher}
use Rattle.pechvang.specs.Publishing.{Shares}
use Rattle.pechvang.proofs.publishing.share_by.Goals as goal

pub returns-in-Publisher : goal.returns-in-Publisher
returns-in-Publisher c = subst (λ (x : Pass). Shares (Some x) c.args.share.now (pos 0) c.share.result (Some (Publisher c.in-Publisher.publisher))) (sym (c.in-Publisher.is)) (record { after = c.in-Publisher.publisher; held = refl; code_is = refl; did = (refl, c.share.ensures) })
