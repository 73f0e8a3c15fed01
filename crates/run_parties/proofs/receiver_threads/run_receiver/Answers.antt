use Rattle.std.proofs.Common.{refl}
use Rattle.run_parties.proofs.Living.{has_received}
use Rattle.run_parties.proofs.receiver_threads.run_receiver.Goals as goal

pub run_named-requires-clause-names : goal.run_named-requires-clause-names
run_named-requires-clause-names g c =
    let w = c.requires.waits in
    λ κs h. record { core = w.core; one = refl; new = refl; writer = w.writer; zero = w.zero; counters_are = refl; device_is = refl; tells_it = λ x. x; told_it = λ x. x }

pub returns : goal.returns
returns g c = has_received g.D.Datagrams.device g.D.Datagrams.tells c.args.context.now.state.now.log.identity.geometry c.args.receivers c.args.wanted c.args.waiting c.run_named.result c.requires.waits c.run_named.ensures.lived c.run_named.ensures.most
