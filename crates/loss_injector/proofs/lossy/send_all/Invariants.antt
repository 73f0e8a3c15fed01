use Rattle.std.proofs.Common.{◌≡◌, ◌++◌, map, take}
use Rattle.loss_injector.proofs.lossy.send_all.Given as goal

abbrev pub invariant-loop-datagram : goal.invariant-loop-datagram
invariant-loop-datagram g l =
    let old = g.D.Datagrams.device l.initial.device in
    let new = g.D.Datagrams.device l.device in
    record {
      same_failures : new.failures ≡ old.failures;
      same_received : new.received ≡ old.received;
      same_nones : new.nones ≡ old.nones;
      still_tells : g.D.Datagrams.tells l.initial.device → g.D.Datagrams.tells l.device;
      sent : g.D.Datagrams.tells l.initial.device → new ≡ record old { sent = old.sent ++ map (λ d. d.now) (take l.datagram-index l.out) };
    }
