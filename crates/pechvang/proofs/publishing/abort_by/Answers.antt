use Rattle.std.proofs.Common.{refl, sym, ◌∙◌, subst, pos}
use Rattle.std.specs.declared.option.Option.TheVariants.{Some}
use Rattle.pechvang.specs.declared.held.Pass.{Pass}
use Rattle.pechvang.specs.declared.held.Pass.TheVariants.{Publisher}
use Rattle.pechvang.specs.Publishing.{Aborts}
use Rattle.pechvang.proofs.publishing.abort_by.Goals as goal

pub returns-in-Claim : goal.returns-in-Claim
returns-in-Claim c = subst (λ (x : Pass). Aborts (Some x) c.args.position.now (pos 0) c.abort-publisher.result.1 (Some (Publisher c.abort-publisher.result.0))) (sym (sym c.replace.ensures.value ∙ c.in-Claim.is)) (record { after = c.abort-publisher.result.0; held = refl; code_is = refl; did = (c.abort-publisher.ensures.aborted, c.abort-publisher.ensures.end) })
