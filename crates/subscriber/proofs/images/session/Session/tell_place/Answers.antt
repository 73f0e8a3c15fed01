use Rattle.std.proofs.Common.{◌≡◌, ap, refl}
use Rattle.std.proofs.lemmas.Result.{err_from_is_err_and}
use Rattle.subscriber.proofs.Faults.{memory_if}
use Rattle.subscriber.proofs.Patience.{never_failed}
use Rattle.subscriber.specs.declared.fault.SubscribeFault.TheVariants as faults
use Rattle.subscriber.proofs.Parties.{subscribers_cycle, subscribers_fault}
use Rattle.subscriber.proofs.Answered.{place_told}
use Rattle.subscriber.proofs.Leaving.{cycle_listens, cycle_unpolled, fault_unpolled}
use Rattle.subscriber.specs.Answering.{ahead_of}
use Rattle.subscriber.proofs.images.session.Session.tell_place.Goals as goal

pub returns-in_err-cycle-clause-unpolled : goal.returns-in_err-cycle-clause-unpolled
returns-in_err-cycle-clause-unpolled c = fault_unpolled _ _ _ _ _ _ _ (subscribers_fault _ _ _ _ _ _ _ c.in_err-cycle.ensures.fault)

pub returns-clause-unpolled : goal.returns-clause-unpolled
returns-clause-unpolled c = cycle_unpolled _ _ _ _ _ _ _ (subscribers_cycle _ _ _ _ _ _ _ c.in_ok-cycle.ensures.cycle).0

pub returns-clause-listens : goal.returns-clause-listens
returns-clause-listens c = cycle_listens _ _ _ _ _ _ _ c.in_ok-cycle.ensures.cycle

pub returns-clause-told : goal.returns-clause-told
returns-clause-told c =
    let ahead : c.saturating_add-ahead.result ≡ ahead_of c.args.moment = let sum = c.saturating_add-ahead.ensures in cc in
    place_told _ _ _ _ _ _ _ _ ahead (subscribers_cycle _ _ _ _ _ _ _ c.in_ok-cycle.ensures.cycle).0

pub returns-in_err-cycle-clause-refused : goal.returns-in_err-cycle-clause-refused
returns-in_err-cycle-clause-refused c =
    let p = err_from_is_err_and c.from_residual.result c.from_residual.ensures.1 in
    let f = c.in_err-cycle.ensures.fault in
    rw (p.1, p.2) (ap faults.Failed (memory_if _ (never_failed _ _ _ f.lost refl refl f.explained)))
