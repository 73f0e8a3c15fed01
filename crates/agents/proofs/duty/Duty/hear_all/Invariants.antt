use Rattle.std.proofs.Common.{◌≡◌}
use Rattle.endpoint.specs.Devices.{NeverFall}
use Rattle.agents.proofs.Hearings.{Heard}
use Rattle.agents.proofs.duty.Duty.hear_all.Given as goal

abbrev pub invariant-loop-count : goal.invariant-loop-count
invariant-loop-count g l = record {
  counts : NeverFall (g.D.Datagrams.device l.fn.self.device) (g.D.Datagrams.device l.self-inside.device);
  heard : Heard g.P.Party.hears l.now (g.D.Datagrams.tells l.fn.self.device) l.count l.fn.party (g.D.Datagrams.device l.fn.self.device) l.party (g.D.Datagrams.device l.self-inside.device);
  stands : g.P.Party.stands l.party;
  size : (l.self-inside.outbox.mtu ≡ l.fn.self.mtu) × (g.P.Party.mtu l.party ≡ g.P.Party.mtu l.fn.party);
  tells : g.D.Datagrams.tells l.fn.self.device → g.D.Datagrams.tells l.self-inside.device;
  lives : g.D.Datagrams.lives l.fn.self.device l.self-inside.device;
}
