use Rattle.std.proofs.Common.{inl, inr, refl, ap, ◌∙◌}
use Rattle.std.specs.declared.option.Option.TheVariants.{Some}
use Rattle.claims.specs.declared.passes.fault.Fault.TheVariants.{Memory}
use Rattle.pechvang.proofs.opening.pv_open.Goals as goal

pub returns-in-Ok-new : goal.returns-in-Ok-new
returns-in-Ok-new c = inl record { after = c.in-Ok.opened; held = c.put.ensures ∙ ap Some c.in-Ok-new.ensures.ok; code_is = refl; did = c.in-Ok.ensures.opened }

pub returns-in-Ok : goal.returns-in-Ok
returns-in-Ok c = inr (record { fault = Memory; code_is = refl; declines = c.in-Ok.ensures.opened.in_range }, refl)
