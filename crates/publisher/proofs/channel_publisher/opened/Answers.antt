use Rattle.std.proofs.Common.{◌≡◌, ◌∙◌, ℕ, [], ap, length, refl, subst}
use Rattle.flow_control.specs.Stream.{flow_after, group_of}
use Rattle.agents.specs.LogSenders.{IsNewSenderBy}
use Rattle.publisher.proofs.channel_publisher.opened.Goals as goal

pub returns-clause-new : goal.returns-clause-new
returns-clause-new g c =
    let many : length c.each-destinations.result.now ≡ length c.args.passes.duty.device.ways = ap length (c.each-destinations.ensures ∙ ap (λ d. d.ways) c.device.ensures) in
    record {
      reader = c.args.reader;
      begun = subst (λ (n : ℕ). IsNewSenderBy (flow_after (group_of n) c.args.state.now.log.start []) c.args.state.now.log c.args.reader c.in_ok-agent.agent) many c.in_ok-agent.ensures.new;
      passes_are = refl;
      peer_is = refl;
    }
