use Rattle.publisher.specs.Farewells.{AreTold}
use Rattle.publisher.proofs.two_threads.bid_farewell.Given as goal

abbrev pub invariant-loop-count : goal.invariant-loop-count
invariant-loop-count g l = AreTold l._count l.end l.fn.duty.device.ways l.duty.device.ways
