use Rattle.std.proofs.Common.{List, length, map, refl, subst, sym, arith}
use Rattle.std.specs.Prelude.{IfOk}
use Rattle.run_parties.specs.declared.receiver_threads.Waiting.{Waiting}
use Rattle.run.specs.Threads.{AreWaitingFrom, HaveEnded, device_of}
use Rattle.run.proofs.Receivers.{ended, joined, waiting_front, waiting_last, waiting_own}
use Rattle.run.proofs.thread_scope.+run_receivers.Goals as goal

pub start_receiver-started-requires-clause-waits : goal.start_receiver-started-requires-clause-waits
start_receiver-started-requires-clause-waits g t c =
    let shape = c.args.agents.now.context.now.state.now.log.identity.geometry in let count = c.args.agents.now.size.receivers in
    let one = waiting_last shape count 0 c.pop.new.self.items c.in-Some.last (subst (AreWaitingFrom shape count 0) c.in-Some.ensures.items c.requires.waiting) in
    λ κs h. waiting_own shape count _ c.in-Some.last one

pub run_receivers-parties-requires-clause-waiting : goal.run_receivers-parties-requires-clause-waiting
run_receivers-parties-requires-clause-waiting g t c =
    let shape = c.args.agents.now.context.now.state.now.log.identity.geometry in let count = c.args.agents.now.size.receivers in
    λ κs h. waiting_front shape count 0 c.pop.new.self.items c.in-Some.last (subst (AreWaitingFrom shape count 0) c.in-Some.ensures.items c.requires.waiting)

pub returns : goal.returns
returns g t c =
    let l = c.args.agents.now.context.now.state.now.log in let size = c.args.agents.now.size in let shape = l.identity.geometry in
    let device = g.D.Datagrams.device in let tells = g.D.Datagrams.tells in
    let ws = c.pop.new.self.items in let w = c.in-Some.last in
    let last = waiting_last shape size.receivers 0 ws w (subst (AreWaitingFrom shape size.receivers 0) c.in-Some.ensures.items c.requires.waiting) in
    let started = c.start_receiver-started in let end = c.received_of-received in let told = c.with_received.ensures in
    let one = joined device tells shape size _ started.result (λ s. s.handle.promise.log.value) (λ s. s.handle.promise.size) (λ s. s.handle.promise.number) (λ s. s.handle.promise.device.value) l (length ws) w end.result
    refl (let n = last.number in omega (arith, n)) started.ensures.log started.ensures.who end.ensures.lived end.ensures.started in
    subst (λ (xs : List (Waiting g.row.D.Denot)). IfOk c.with_received.result (HaveEnded device tells l size c.args.publishers.items (map device_of xs))) (sym c.in-Some.ensures.items)
    (ended device tells shape size l c.args.publishers.items ws w c.with_received.result c.run_receivers-parties.result end.result refl one c.run_receivers-parties.ensures told.published told.received told.both)
