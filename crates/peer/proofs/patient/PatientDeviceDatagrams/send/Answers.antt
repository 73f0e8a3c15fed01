use Rattle.std.proofs.Common.{Ok, Err, refl}
use Rattle.peer.proofs.patient.PatientDeviceDatagrams.send.Goals as goal

pub returns-in-Ok-clause-patient : goal.returns-in-Ok-clause-patient
returns-in-Ok-clause-patient g c =
    let said = c.in-Ok.ensures in
    rw (← c.self.view_is) (rw c.work.ensures (record {
      answer = Ok c.in-Ok.field-0;
      counts = said.counts;
      sends = said.sends;
      still_tells = said.still_tells;
      is = refl;
    }))

pub returns-in-Err-clause-patient : goal.returns-in-Err-clause-patient
returns-in-Err-clause-patient g c =
    let said = c.in-Err.ensures in
    rw (← c.self.view_is) (rw c.lose.ensures (record {
      answer = Err c.in-Err.field-0;
      counts = said.counts;
      sends = said.sends;
      still_tells = said.still_tells;
      is = refl;
    }))
