use Rattle.frames.specs.Frames.{asks_of, status_of}
use Rattle.peer.proofs.Numbered.{by_some}
use Rattle.peer.proofs.Passing.{start_told}
use Rattle.peer.proofs.tied.tells_start.Goals as goal

pub returns-in-Some : goal.returns-in-Some
returns-in-Some c =
    start_told c.args.awaited.now c.args.datagram.now (asks_of c.in-Some.asks) (status_of c.in-Some.status) c.is_start.result c.is_start.ensures c.in-Some.ensures.found
    (λ flags m spells. by_some c.status_in.result _ (c.in-Some.asks, c.in-Some.status) c.in-Some.is (c.status_in.ensures.only flags m spells))
