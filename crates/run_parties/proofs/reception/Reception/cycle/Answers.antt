use Rattle.std.proofs.Common.{◌∙◌, refl}
use Rattle.std.specs.Arc.{arc_value}
use Rattle.std.specs.Option.{option_map}
use Rattle.run_parties.specs.Receptions.{ReceptionState}
use Rattle.run_parties.proofs.Living.{none_still, received_cycle}
use Rattle.run_parties.proofs.reception.Reception.cycle.Goals as goal

pub invariant_of-self : goal.invariant_of-self
invariant_of-self g c =
    let i = c.self.invariant in let stays = c.in-Ok.ensures.stays in let m = c.self.inside in
    let r : ReceptionState g.row.D.Denot = record { core = m.agent.core; duty = m.duty; image = option_map arc_value m.image; fault = m.fault } in
    record {
      size = stays.mtu ∙ i.size;
      still_tells = λ x. stays.still_tells (i.still_tells x);
      received = none_still m.fault _ _
          (received_cycle c.reads_a_run.ensures.image g.D.Datagrams.device g.N.Begins.receiver g.N.Begins.device g.N.Begins.tells (g.D.Datagrams.tells m.duty.device) r (record r { core = c.cycle.new.self.core; duty = c.cycle.new.duty }) c.args.now c.in-Ok.busy i.still_tells refl c.in-Ok.ensures.cycle)
          i.received;
    }
