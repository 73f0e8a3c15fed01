use Rattle.std.proofs.Common.{◌∙◌, ap, inr, refl, sym}
use Rattle.std.proofs.lemmas.Result.{err_from_is_err_and}
use Rattle.subscriber.specs.Receivings.{Receiving}
use Rattle.subscriber.specs.Watches.{Timing}
use Rattle.subscriber.proofs.Calling.{asks_once}
use Rattle.subscriber.proofs.Faults.{met_come}
use Rattle.subscriber.proofs.listening.listen.Goals as goal

pub loop-init : goal.loop-init
loop-init g c = λ same. same

pub loop-preserved : goal.loop-preserved
loop-preserved g c = λ same.
    asks_once c.args.plan.now c.hear.ensures.noted.0 c.loop.reception.socket c.hear.new.self.socket c.heed.new.reception.socket c.loop.watch c.see.new.self c.hear.new.watch c.heed.new.watch _ c.in_ok-see.ensures.seen (ap (λ (r : Receiving). r.socket) c.hear.ensures.same) c.hear.ensures.noted.1 c.heed.ensures.heeds (c.loop.invariant same)
    ∙ sym (ap (λ (s : Timing). s.calls) c.tell.ensures.same) ∙ sym (ap (λ (s : Timing). s.calls) c.tell_untaken.ensures.same)

pub returns-in-Some-heed-clause-asks : goal.returns-in-Some-heed-clause-asks
returns-in-Some-heed-clause-asks g c = λ same.
    asks_once c.args.plan.now c.hear.ensures.noted.0 c.loop.reception.socket c.hear.new.self.socket c.heed.new.reception.socket c.loop.watch c.see.new.self c.hear.new.watch c.heed.new.watch _ c.in_ok-see.ensures.seen (ap (λ (r : Receiving). r.socket) c.hear.ensures.same) c.hear.ensures.noted.1 c.heed.ensures.heeds (c.loop.invariant same)

pub returns-then-is_quiet-clause-asks : goal.returns-then-is_quiet-clause-asks
returns-then-is_quiet-clause-asks g c = λ same.
    asks_once c.args.plan.now c.hear.ensures.noted.0 c.loop.reception.socket c.hear.new.self.socket c.heed.new.reception.socket c.loop.watch c.see.new.self c.hear.new.watch c.heed.new.watch _ c.in_ok-see.ensures.seen (ap (λ (r : Receiving). r.socket) c.hear.ensures.same) c.hear.ensures.noted.1 c.heed.ensures.heeds (c.loop.invariant same)
    ∙ sym (ap (λ (s : Timing). s.calls) c.tell.ensures.same) ∙ sym (ap (λ (s : Timing). s.calls) c.tell_untaken.ensures.same)

pub returns-in_err-join-clause-caused : goal.returns-in_err-join-clause-caused
returns-in_err-join-clause-caused g c =
    let p = err_from_is_err_and c.from_residual-in_err-join.result c.from_residual-in_err-join.ensures.1 in
    rw (p.1, p.2) (inr (
      c.in_err-join.ensures.refused,
      met_come c.args.plan.now _ (record { socket = c.hear.new.self.socket; seen = c.hear.new.watch }) c.in-Some-heed.meeting (record { socket = c.heed.new.reception.socket; seen = c.heed.new.watch }) refl c.in-Some-heed.ensures.heeds,
    ))
