use Rattle.std.proofs.Common.{arith, ap}
use Rattle.conductor.specs.Parties.{ClientSeen}
use Rattle.machine_tests.proofs.Rows.{first_kept}
use Rattle.machine_tests.proofs.commands.in_order.Goals as goal

pub finish-requires-clause-clients : goal.finish-requires-clause-clients
finish-requires-clause-clients g c =
    let v = c.index_mut.ensures.value in
    let w = c.in_ok-conductor.ensures.clients in
    let one = first_kept _ _ _ _ _ _ c.in_ok-conductor.ensures.clients.0 (omega arith) c.index_mut.ensures.value c.submit.ensures.same_client.0 c.submit.ensures.same_client.1 in
    let two = first_kept _ _ _ _ _ _ one (omega arith) c.index_mut-2.ensures.value c.submit-2.ensures.same_client.0 c.submit-2.ensures.same_client.1 in
    let three = first_kept _ _ _ _ _ _ two (omega arith) c.index_mut-3.ensures.value (ap (λ (y : ClientSeen). y.queue) c.learn.ensures.client) (ap (λ (y : ClientSeen). y.number) c.learn.ensures.client) in
    first_kept _ _ _ _ _ _ three (omega arith) c.index_mut-4.ensures.value c.fill.ensures.queue c.fill.ensures.number
