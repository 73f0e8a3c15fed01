use Rattle.std.proofs.Common.{◌≡◌, ◌≤◌}
use Rattle.agents.specs.Rounds.{HearsWays}
use Rattle.agents.proofs.duty.Duty.hear_ways.Given as goal

abbrev pub invariant-loop-way : goal.invariant-loop-way
invariant-loop-way g l = record {
  counts : (g.D.Datagrams.device l.initial.self.device).failures ≤ (g.D.Datagrams.device l.self.device).failures;
  heard : HearsWays g.P.Party.hears g.P.Party.ticks l.now g.D.Datagrams.device g.D.Datagrams.tells g.D.Ways.turned l.way l.any l.initial.party l.initial.self.device l.party l.self.device;
  lives : g.D.Datagrams.lives l.initial.self.device l.self.device;
  stands : g.P.Party.stands l.party;
  size : (l.self.mtu ≡ l.initial.self.mtu) × (g.P.Party.mtu l.party ≡ g.P.Party.mtu l.initial.party);
}
