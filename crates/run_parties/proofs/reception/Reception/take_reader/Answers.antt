use Rattle.std.proofs.Common.{ap}
use Rattle.std.specs.Arc.{arc_value}
use Rattle.std.specs.Option.{option_map}
use Rattle.agents.specs.Publishing.{AgentState}
use Rattle.run_parties.specs.Receptions.{ReceptionState}
use Rattle.run_parties.proofs.Living.{none_still, received_kept, received_taken}
use Rattle.run_parties.proofs.reception.Reception.take_reader.Goals as goal

pub invariant_of-self-in_default-try_clone : goal.invariant_of-self-in_default-try_clone
invariant_of-self-in_default-try_clone g c =
    let i = c.self.invariant in let m = c.self.inside in
    let r : ReceptionState g.row.D.Denot = record { core = m.agent.core; duty = m.duty; image = option_map arc_value m.image; fault = m.fault } in
    record {
      size = i.size;
      still_tells = i.still_tells;
      received = none_still m.fault _ _ (received_taken g.D.Datagrams.device g.N.Begins.receiver g.N.Begins.device g.N.Begins.tells r c.take_readers.new.self.core c.in-Some.taken c.in-Some.ensures.taken (ap (λ (a : AgentState). a.core) c.in-Some.ensures.stays)) i.received;
    }

pub invariant_of-self-in_err-reader : goal.invariant_of-self-in_err-reader
invariant_of-self-in_err-reader g c =
    let i = c.self.invariant in let m = c.self.inside in
    let r : ReceptionState g.row.D.Denot = record { core = m.agent.core; duty = m.duty; image = option_map arc_value m.image; fault = m.fault } in
    record {
      size = i.size;
      still_tells = i.still_tells;
      received = none_still m.fault _ _ (received_taken g.D.Datagrams.device g.N.Begins.receiver g.N.Begins.device g.N.Begins.tells r c.take_readers.new.self.core c.in-Some.taken c.in-Some.ensures.taken (ap (λ (a : AgentState). a.core) c.in-Some.ensures.stays)) i.received;
    }

pub invariant_of-self-2 : goal.invariant_of-self-2
invariant_of-self-2 g c =
    let i = c.self.invariant in let m = c.self.inside in
    let r : ReceptionState g.row.D.Denot = record { core = m.agent.core; duty = m.duty; image = option_map arc_value m.image; fault = m.fault } in
    record {
      size = i.size;
      still_tells = i.still_tells;
      received = none_still m.fault _ _ (received_kept g.D.Datagrams.device g.N.Begins.receiver g.N.Begins.device g.N.Begins.tells r c.take_readers.new.self.core c.in-Some.taken (arc_value c.in-Ok.image) c.in-Some.ensures.taken (ap (λ (a : AgentState). a.core) c.in-Some.ensures.stays) c.in-Ok.ensures) i.received;
    }
