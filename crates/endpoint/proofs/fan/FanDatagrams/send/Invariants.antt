use Rattle.endpoint.specs.Fans.{AllLive}
use Rattle.endpoint.proofs.FanLemmas.{SentAlong}
use Rattle.endpoint.proofs.fan.FanDatagrams.send.Given as goal

abbrev pub invariant-loop-way : goal.invariant-loop-way
invariant-loop-way g l = record {
  sent : SentAlong g.D.Datagrams.device g.D.Datagrams.tells l.initial.way-items l.datagram l.way-index l.way-items;
  lives : AllLive g.D.Datagrams.lives l.initial.way-items l.way-items;
}
