use Rattle.std.proofs.Common.{◌≡◌, ◌∙◌, ◌<◌, ◌≤◌, min, inr, rules}
use Rattle.std.proofs.lemmas.Result.{err_from_is_err_and}
use Rattle.subscriber.specs.Deliveries.{Delivers}
use Rattle.subscriber.proofs.Writing.{delivered_all, delivered_kept, delivered_until, step_failed, step_more}
use Rattle.subscriber.proofs.images.delivery.write_polled.Goals.{else-loop-count-test, then-loop-count-test+in_ok-write_next+then-not-branch}
use Rattle.subscriber.proofs.images.delivery.write_polled.Goals as goal

pub loop-count-preserved : goal.loop-count-preserved
loop-count-preserved g c = (step_more _ _ _ _ _ _ _ _ c.in_ok-write_next.field-0 c.if-not-branch.false c.loop-count.invariant.0 c.in_ok-write_next.ensures.step, c.loop-count.invariant.1)

pub returns-in_err-write_next-clause-fault : goal.returns-in_err-write_next-clause-fault
returns-in_err-write_next-clause-fault g c =
    let p = err_from_is_err_and c.from_residual.result c.from_residual.ensures.1 in
    let low : c.loop-count.count < min 256 c.args.most = search rules in
    rw (p.1, p.2) (step_failed c.args.form _ _ _ _ _ _ _ _ _ low c.loop-count.invariant.0 c.in_err-write_next.ensures.fault)

pub returns-in-Err-clause-fault : goal.returns-in-Err-clause-fault
returns-in-Err-clause-fault g c =
    let done : Delivers c.args.form (min 256 c.args.most) c.args.subscriber.now (g.W.Write.contents c.args.output.now) c.loop-count-test.messages c.loop-count-test.subscriber (g.W.Write.contents c.loop-count-test.output) = elim c.loop-count-test.branch [
      | else-loop-count-test w ↦ (let all : c.loop-count.count ≡ min 256 c.args.most = search rules in rw (w.messages-is ∙ c.loop-count.invariant.1 ∙ c.min-limit.ensures, w.subscriber-is, w.output-is) (delivered_all c.args.form _ _ _ _ _ _ all c.loop-count.invariant.0))
      | then-loop-count-test+in_ok-write_next+then-not-branch w ↦ (let few : c.loop-count.count ≤ min 256 c.args.most = search rules in rw (w.messages-is, w.subscriber-is, w.output-is) (delivered_until c.args.form _ _ _ _ _ _ _ _ _ w.if-not-branch.true few c.loop-count.invariant.0 w.in_ok-write_next.ensures.step))
    ] in
    inr (c.loop-count-test.messages, delivered_kept c.args.form _ _ _ _ _ _ _ done c.flush.ensures.bytes)

pub returns-clause-delivers : goal.returns-clause-delivers
returns-clause-delivers g c =
    let done : Delivers c.args.form (min 256 c.args.most) c.args.subscriber.now (g.W.Write.contents c.args.output.now) c.loop-count-test.messages c.loop-count-test.subscriber (g.W.Write.contents c.loop-count-test.output) = elim c.loop-count-test.branch [
      | else-loop-count-test w ↦ (let all : c.loop-count.count ≡ min 256 c.args.most = search rules in rw (w.messages-is ∙ c.loop-count.invariant.1 ∙ c.min-limit.ensures, w.subscriber-is, w.output-is) (delivered_all c.args.form _ _ _ _ _ _ all c.loop-count.invariant.0))
      | then-loop-count-test+in_ok-write_next+then-not-branch w ↦ (let few : c.loop-count.count ≤ min 256 c.args.most = search rules in rw (w.messages-is, w.subscriber-is, w.output-is) (delivered_until c.args.form _ _ _ _ _ _ _ _ _ w.if-not-branch.true few c.loop-count.invariant.0 w.in_ok-write_next.ensures.step))
    ] in
    delivered_kept c.args.form _ _ _ _ _ _ _ done c.flush.ensures.bytes
