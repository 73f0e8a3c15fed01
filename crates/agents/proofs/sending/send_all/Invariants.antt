use Rattle.std.proofs.Common.{◌≡◌, ◌++◌, take}
use Rattle.endpoint.specs.Devices.{NeverFall}
use Rattle.agents.proofs.sending.send_all.Given as goal

abbrev pub invariant-loop-index : goal.invariant-loop-index
invariant-loop-index g l = record {
  counts : NeverFall (g.D.Datagrams.device l.initial.device) (g.D.Datagrams.device l.device);
  received : (g.D.Datagrams.device l.device).received ≡ (g.D.Datagrams.device l.initial.device).received;
  nones : (g.D.Datagrams.device l.device).nones ≡ (g.D.Datagrams.device l.initial.device).nones;
  sent : g.D.Datagrams.tells l.initial.device → (g.D.Datagrams.device l.device).sent ≡ (g.D.Datagrams.device l.initial.device).sent ++ take l.index l.outbox.datagrams;
  tells : g.D.Datagrams.tells l.initial.device → g.D.Datagrams.tells l.device;
  lives : g.D.Datagrams.lives l.initial.device l.device;
}
