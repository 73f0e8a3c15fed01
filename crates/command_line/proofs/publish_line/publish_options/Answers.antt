use Rattle.std.proofs.Common.{◌≡◌, List, Result, Ok, Err, IfErr, IfOk, OnOk, subst, sym}
use Rattle.clap.specs.Kinds.{Kinds}
use Rattle.clap.specs.Words.{Row}
use Rattle.options.specs.declared.ends.options.PublishOptions.{PublishOptions}
use Rattle.command_line.specs.Lines.{IsPublishOf, publish_app}
use Rattle.command_line.specs.Refusals.{IsFaultOf}
use Rattle.command_line.specs.declared.fault.LineFault.{LineFault}
use Rattle.command_line.specs.declared.fault.LineFault.TheVariants.{Memory}
use Rattle.command_line.proofs.Simple.{publish_free, publish_simple}
use Rattle.command_line.proofs.publish_line.publish_options.Goals as goal

told_by : (rows taken : List Row) (r : Result PublishOptions LineFault) → rows ≡ taken → IfOk r (IsPublishOf rows) → IfOk r (λ o. IsPublishOf taken o)
told_by rows taken r same h = subst (λ (x : List Row). IfOk r (IsPublishOf x)) same h

on_ok : {T F : Type 0} (r : Result T F) (X : Type 0) → X → OnOk r X
on_ok (Ok v) X x = x
on_ok (Err e) X x = tt

of_memory : (r : Result PublishOptions LineFault) (faults : Kinds) → IfErr r (λ fault. fault ≡ Memory) → IfErr r (IsFaultOf faults)
of_memory (Ok o) faults h = tt
of_memory (Err fault) faults h = subst (IsFaultOf faults) (sym h) tt

pub returns-in-Ok-clause-told : goal.returns-in-Ok-clause-told
returns-in-Ok-clause-told c = told_by _ _ c.publish_of.result (c.in-Ok.ensures.found publish_app c.command.ensures publish_simple).0 c.publish_of.ensures.told

pub returns-in-Ok-clause-passed : goal.returns-in-Ok-clause-passed
returns-in-Ok-clause-passed c = on_ok c.publish_of.result _ (c.in-Ok.ensures.passed publish_app c.command.ensures publish_free)

pub returns-in-Ok-clause-fault : goal.returns-in-Ok-clause-fault
returns-in-Ok-clause-fault c = of_memory c.publish_of.result _ c.publish_of.ensures.fault

pub returns-in-Err-clause-fault : goal.returns-in-Err-clause-fault
returns-in-Err-clause-fault c = c.in-Err.ensures.fault publish_app c.command.ensures publish_free
