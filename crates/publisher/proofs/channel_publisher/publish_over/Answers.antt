use Rattle.std.proofs.Common.{◌≡◌, ◌∙◌, ℕ, IfSome, length, subst, sym}
use Rattle.theory.specs.Bytes.{Identity}
use Rattle.position.specs.Openings.{IsStart}
use Rattle.options.specs.declared.ends.plans.PublishPlan.{PublishPlan}
use Rattle.shared_log.specs.Steps.Handles.{LogValue}
use Rattle.shared_log.specs.Keepers.{KeeperValue}
use Rattle.shared_log.specs.Readers.{IsReaderOf, ReaderValue}
use Rattle.sender_meaning.specs.StreamLives.{StreamLived}
use Rattle.publisher.specs.Ended.{ArrivesAt, HasSent, reading_left}
use Rattle.publisher.specs.Openings.{IsKept, IsPlanned}
use Rattle.publisher.specs.Shorts.{EndsShort}
use Rattle.publisher.specs.declared.offering.offering_state.OfferingState.{OfferingState}
use Rattle.publisher.proofs.Sent.{has_sent, still_reads}
use Rattle.publisher.proofs.channel_publisher.publish_over.Goals as goal

start_of : (p : PublishPlan) (l : LogValue) → IsPlanned p l → IsStart l.identity.geometry l.start
start_of p l is = subst (λ (i : Identity). IsStart i.geometry l.start) (sym is.identity) (subst (λ (s : ℕ). IsStart p.geometry s) (sym is.start) p.legal)

pub returns-clause-leaves : goal.returns-clause-leaves
returns-clause-leaves g c =
    let there = c.deref.ensures ∙ c.in_ok-ours.ensures.0 in
    let log = c.deref.result.now.log in
    let new = c.in_ok-sender.ensures.new in
    let sender = c.in_ok-sender.sender in
    let ways = length c.args.parts.passes.duty.device.ways in
    let reads = still_reads c.stream_keeps_its_reader.ensures _ _ log new.reader _ c.run.new.sender.agent new.begun c.run.ensures.lives c.run.ensures.agent in
    let sent = has_sent ways log new.reader sender.agent c.run.new.sender.agent (subst (λ (s : OfferingState). IsStart s.log.identity.geometry s.log.start) (sym there) (start_of c.args.plan.now c.args.parts.state.log c.requires.parts.log_is)) new.begun (subst (λ p. StreamLived (length p.duty.device.ways) sender.agent.core c.run.new.sender.agent.core) new.passes_are c.run.ensures.lives) in
    record {
      passes = record {
        log = subst (λ (s : OfferingState). IfSome c.log_of.result (λ m. m ≡ s.log)) c.in_ok-ours.ensures.0 c.log_of.ensures;
        others = c.requires.parts.others;
        keeper = subst (λ (x : KeeperValue × ReaderValue). IsKept c.args.parts.state.log x.0) (sym c.passes_of-keeper.ensures) (subst (λ (s : OfferingState). IsKept s.log c.run.new.sender.passes.keeper) there c.run.ensures.keeper);
        reader = subst (λ (x : KeeperValue × ReaderValue). IsReaderOf c.args.parts.state.log x.1) (sym c.passes_of-keeper.ensures) (subst (λ (s : OfferingState). IsReaderOf s.log c.run.new.sender.agent.core.reads.reader) there reads);
      };
      sent = subst (λ (x : KeeperValue × ReaderValue). HasSent c.args.parts.state.log ways x.1) (sym c.passes_of-keeper.ensures) (subst (λ (s : OfferingState). HasSent s.log ways c.run.new.sender.agent.core.reads.reader) there sent);
    }

pub returns-clause-whole : goal.returns-clause-whole
returns-clause-whole g c = λ whole.
    let parts = c.args.parts in let left = c.in_ok-published.published in
    subst (λ (s : OfferingState). ArrivesAt {D = g.row.D.Denot} s.log parts.passes parts.peer c.args.plan.now (reading_left left.input) left.attendances.items left.ends.items) (c.deref.ensures ∙ c.in_ok-ours.ensures.0)
    (c.in_ok-sender.sender, c.in_ok-sender.ensures.new, c.in_ok-published.ensures.whole whole)

pub returns-clause-short : goal.returns-clause-short
returns-clause-short g c = λ short.
    let parts = c.args.parts in let told = c.in_ok-published.published.told in
    subst (λ (s : OfferingState). EndsShort {D = g.row.D.Denot} s.log parts.passes c.args.plan.now parts.peer told) (c.deref.ensures ∙ c.in_ok-ours.ensures.0)
    (record { first = c.in_ok-sender.sender; begun = c.in_ok-sender.ensures.new; why = c.in_ok-published.ensures.short short })
