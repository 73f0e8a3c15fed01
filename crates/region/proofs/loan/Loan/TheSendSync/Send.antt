use denote.Param.Send.{IsSend, struct_send}
use denote.Struct.Declared as declared
use Rattle.std.proofs.Crossing.{Arc-send}
use Rattle.region.proofs.Threads.{opened_keyless, region_send, region_sync}
use Rattle.region.specs.contracts.region.Region as Region
use Rattle.region.specs.contracts.loan.Loan as C
use Rattle.region.specs.contracts.loan.Loan.TheInside as Inside

pub send : IsSend C.the_row
send = record {
  owned = λ s vs. (
    (λ _. tt),
    λ x is t. (
      (tt, (struct_send (declared.shape Inside.the_type) (Arc-send Region.the_row region_send region_sync, tt)).owned (x.region, tt) vs),
      (tt, opened_keyless s.identity.life t.2 _ s.len s.identity.block _),
    ),
  );
  leaving = λ k x w. tt;
}
