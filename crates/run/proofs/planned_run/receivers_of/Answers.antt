use Rattle.std.proofs.Common.{◌≡◌, ◌<◌, ◌∷◌, length, subst, sym, arith}
use Rattle.run.specs.Threads.{AreWaitingFrom}
use Rattle.run.proofs.Receivers.{devices_more, fewer, longer, next_device, shown_more, waiting_more}
use Rattle.run.proofs.planned_run.receivers_of.Goals as goal

pub loop-number-preserved : goal.loop-number-preserved
loop-number-preserved g c =
    let l = c.loop-number in
    let i = l.invariant in
    let ws = l.waiting.items in let old = l.replies.items in let new = c.remove.new.self.items in
    let w = c.in_ok-receiver.receiver in let s = c.in_ok-receiver.counters in let d = c.remove.result in
    let pushed = c.in_ok-push.ensures.items in let told = c.in_ok-push-2.ensures.items in
    let low : 0 < length old = omega (arith, i.left, c.loop-number-test.true) in
    let next : old ≡ d ∷ new = next_device ws l.shown.items old new w s d c.remove.ensures.value c.remove.ensures.items low in
    record {
      left = fewer ws l.shown.items old new w s d l.number c.args.plan.now.receivers i.left next;
      many = longer ws l.shown.items old new w s d c.push.new.self.items l.number i.many pushed;
      waits = subst (AreWaitingFrom c.args.plan.now.geometry c.args.plan.now.receivers 0) (sym pushed) (waiting_more c.args.plan.now.geometry c.args.plan.now.receivers 0 l.number ws w i.waits (omega (arith, i.many)) c.in_ok-receiver.ensures.waits);
      devices = devices_more ws l.shown.items old new w s d c.push.new.self.items c.args.replies.items pushed c.in_ok-receiver.ensures.device next i.devices;
      shown = shown_more ws l.shown.items old new w s d c.push.new.self.items c.push-in-loop-number.new.self.items pushed told c.in_ok-receiver.ensures.shown i.shown;
    }
