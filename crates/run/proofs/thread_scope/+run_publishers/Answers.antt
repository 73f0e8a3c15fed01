use Rattle.std.proofs.Common.{◌≤◌, length, arith}
use Rattle.run.proofs.Counting.{come, promised, room_for}
use Rattle.run.proofs.thread_scope.+run_publishers.Goals as goal

pub with_published-requires-clause-room : goal.with_published-requires-clause-room
with_published-requires-clause-room g t c =
    let l = c.args.agents.now.context.now.state.now.log in let size = c.args.agents.now.size in let handle = c.in_ok-handle in
    let q = c.in_ok-published.field-0.publisher in let w = c.in-Some.publisher in let told = handle.ensures.promises in let p = handle.handle.promise in
    let many : length c.args.waiting.items ≤ 8 = omega (arith, c.args.waiting.ok.0, c.requires.few) in
    room_for l size c.args.waiting.items c.pop.new.self.items w q c.in_ok-published.field-0.accepted c.in_ok-others.field-0
    c.in-Some.ensures.items c.requires.waiting c.requires.set.publishers many c.requires.set.messages c.in_ok-others.ensures
    (promised l p.log.value size p.task w p.before.value q c.in_ok-published.field-0.accepted told.0 told.2 told.1 c.in_ok-published.ensures)

pub returns : goal.returns
returns g t c =
    let l = c.args.agents.now.context.now.state.now.log in let size = c.args.agents.now.size in let handle = c.in_ok-handle in
    let q = c.in_ok-published.field-0.publisher in let w = c.in-Some.publisher in let told = handle.ensures.promises in let p = handle.handle.promise in
    come l size c.args.waiting.items c.pop.new.self.items w q c.in_ok-published.field-0.accepted c.in_ok-others.field-0 c.with_published.result
    c.in-Some.ensures.items c.requires.waiting c.requires.set.publishers c.in_ok-others.ensures
    (promised l p.log.value size p.task w p.before.value q c.in_ok-published.field-0.accepted told.0 told.2 told.1 c.in_ok-published.ensures)
    c.with_published.ensures.publishers c.with_published.ensures.accepted
