use Rattle.std.proofs.Common.{◌≡◌, ◌∙◌, ap, subst, sym}
use Rattle.theory.specs.Bytes.{Identity}
use Rattle.shared_log.specs.Books.{IsDone}
use Rattle.shared_log.specs.Handles.{IsNew}
use Rattle.shared_log.specs.Steps.Handles.{LogValue}
use Rattle.shared_log.specs.Parts.{IsNewReader}
use Rattle.conductor.specs.Parties.{ClientSeen, TakerSeen}
use Rattle.agents.specs.NewPasses.{AreNewPasses}
use Rattle.agents.proofs.NewPublishers.{first_done}
use Rattle.publisher.proofs.Beginnings.{first_new, new_kept, others_new}
use Rattle.publisher.specs.Openings.{AreOthers, IsKept, IsPlanned, identity_of}
use Rattle.publisher.proofs.beginning.parts_over.Goals as goal

pub returns-clause-parts : goal.returns-clause-parts
returns-clause-parts g c =
    let plan = c.args.plan.now in let passes = c.in_ok-log.field-0 in let l = passes.log in
    let new : AreNewPasses (identity_of plan) plan.start passes = subst (λ (i : Identity). AreNewPasses i plan.start passes) c.planned_stream-identity.ensures c.in_ok-log.ensures in
    let at : c.new.result.log ≡ l = c.new.ensures in
    record {
      log_is = subst (IsPlanned plan) (sym at) (record { identity = new.log_is.identity_is; start = new.log_is.start_is; consumers = new.log_is.consumers_is });
      publisher = subst (λ (x : LogValue). IsDone x c.remove-publisher.result) (sym at) (first_done l passes.publishers.items _ new.publishers_are c.remove-publisher.ensures.value);
      new = subst (λ (x : LogValue). IsNew x 0 c.remove-publisher.result) (sym at) (first_new l passes.publishers.items _ new.publishers_are c.remove-publisher.ensures.value);
      others = subst (λ (x : LogValue). AreOthers x c.remove-publisher.new.self.items) (sym at) (others_new l passes.publishers.items _ new.publishers_are c.remove-publisher.ensures.items);
      reader = subst (λ (x : LogValue). IsNewReader x 0 passes.reader) (sym at) new.reader_is;
      passes = record {
        size = (λ i. (c.in_ok-duty.ensures.made i).mtu) ∙ sym (ap (λ (x : LogValue). x.identity.geometry.mtu) at ∙ ap (λ (i : Identity). i.geometry.mtu) new.log_is.identity_is);
        client = ap (λ (x : ClientSeen). x.queue) c.in_ok-conductor.ensures.client;
        taker = ap (λ (x : TakerSeen). x.queue) c.in_ok-conductor.ensures.taker;
        keeper = subst (λ (x : LogValue). IsKept x passes.keeper) (sym at) (new_kept l passes.keeper new.keeper_is);
      };
    }
