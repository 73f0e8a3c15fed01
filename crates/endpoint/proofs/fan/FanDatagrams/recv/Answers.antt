use Rattle.std.proofs.Common.{refl}
use Rattle.endpoint.proofs.FanLemmas.{received_along}
use Rattle.endpoint.proofs.fan.FanDatagrams.recv.Goals as goal

pub returns-clause-receives : goal.returns-clause-receives
returns-clause-receives g c =
    rw (← c.self.view_is) (received_along g.D.Datagrams.device g.D.Datagrams.tells _ _ _ _ _ _ _ _ c.receive_along-received.ensures.receives c.count.ensures.failures c.count.ensures.nones refl)
