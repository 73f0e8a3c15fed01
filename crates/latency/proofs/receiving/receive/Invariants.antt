use Rattle.std.proofs.Common.{pos}
use Rattle.std.specs.Arc.{arc_value}
use Rattle.run_parties.specs.Receivers.{new_receiver}
use Rattle.latency.proofs.receiving.receive.Given as goal

abbrev pub ghosts-receive_named-N-Named : goal.ghosts-receive_named-N-Named
ghosts-receive_named-N-Named g a = record { counters = arc_value a.parts.counters }

abbrev pub ghosts-receive_named-N-Begins : goal.ghosts-receive_named-N-Begins
ghosts-receive_named-N-Begins g a = record {
  receiver = new_receiver a.context.now.state.now.log.identity.geometry (pos 1);
  device = g.D.Datagrams.device a.device;
  tells = g.D.Datagrams.tells a.device;
}
