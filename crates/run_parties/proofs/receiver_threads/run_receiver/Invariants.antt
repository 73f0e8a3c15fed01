use Rattle.std.specs.Arc.{arc_value}
use Rattle.run_parties.specs.Receivers.{new_receiver}
use Rattle.run_parties.proofs.receiver_threads.run_receiver.Given as goal

abbrev pub ghosts-run_named-N-Named : goal.ghosts-run_named-N-Named
ghosts-run_named-N-Named g a = record { counters = arc_value a.waiting.counters }

abbrev pub ghosts-run_named-N-Begins : goal.ghosts-run_named-N-Begins
ghosts-run_named-N-Begins g a = record {
  receiver = new_receiver a.context.now.state.now.log.identity.geometry a.waiting.id;
  device = g.D.Datagrams.device a.waiting.device;
  tells = g.D.Datagrams.tells a.waiting.device;
}
