use Rattle.std.proofs.Common.{◌≡◌, ◌∙◌, ap, map, subst}
use Rattle.publisher.specs.Seeing.{LivesAlong, begun, seen_along}
use Rattle.sender_meaning.proofs.Moments.{ways_cycle}
use Rattle.sender_meaning.proofs.StreamLiving.{cycle_lived_to, ways_lived}
use Rattle.publisher.proofs.Written.{written_over}
use Rattle.publisher.proofs.sender_thread.cycle.Goals as goal

pub returns-in_err-cycle-clause-lives : goal.returns-in_err-cycle-clause-lives
returns-in_err-cycle-clause-lives g c = ways_lived _ _ _ _ _ _ _ _ _ _ _ _ _ c.cycle.ensures.cycle

pub returns-clause-lives : goal.returns-clause-lives
returns-clause-lives g c = ways_lived _ _ _ _ _ _ _ _ _ _ _ _ _ c.cycle.ensures.cycle

pub returns-clause-told : goal.returns-clause-told
returns-clause-told g c = ways_cycle _ _ _ _ _ _ _ _ _ _ _ _ c.in_ok-cycle.ensures.cycle

pub returns-clause-lived : goal.returns-clause-lived
returns-clause-lived g c = cycle_lived_to _ _ _ _ (ways_cycle _ _ _ _ _ _ _ _ _ _ _ _ c.in_ok-cycle.ensures.cycle)

pub returns-clause-cycles : goal.returns-clause-cycles
returns-clause-cycles g c =
    let between = c.cycle.new.duty.device.ways in
    let before = c.args.sender.now.passes.duty.device.ways in
    let begins =
    ap (λ d. d.device.ways) (written_over c.device_mut.result.now c.args.sender.now.passes.duty.device (begun c.position-position.result) c.begin_all.new.destinations c.args.sender.now.passes.duty.mtu c.device_mut.ensures.value
    (c.begin_all.ensures ∙ ap (map (begun c.position-position.result)) (c.each_mut.ensures.value ∙ ap (λ f. f.ways) c.device_mut.ensures.value)))
    ∙ ap (λ at. map (begun at) before) c.position-position.ensures in
    record {
      moment = ways_cycle _ _ _ _ _ _ _ _ _ _ _ _ c.in_ok-cycle.ensures.cycle;
      between = between;
      lived = subst (λ ws. LivesAlong ws between) begins c.in_ok-cycle.ensures.lives;
      seen =
          ap (λ d. d.device.ways) (written_over c.device_mut-2.result.now c.keep-kept.new.passes.duty.device (seen_along c.args.end c.args.context.now.plan.now.linger c.args.now) c.see_all.new.destinations c.keep-kept.new.passes.duty.mtu c.device_mut-2.ensures.value
          (c.see_all.ensures ∙ ap (map (seen_along c.args.end c.args.context.now.plan.now.linger c.args.now)) (c.each_mut-destinations.ensures.value ∙ ap (λ f. f.ways) c.device_mut-2.ensures.value)))
          ∙ ap (λ p. map (seen_along c.args.end c.args.context.now.plan.now.linger c.args.now) p.duty.device.ways) c.keep-kept.ensures.others;
    }

pub returns-clause-passes : goal.returns-clause-passes
returns-clause-passes g c = let p = c.keep-kept.ensures.passes in record { size = p.size; client = p.client; taker = p.taker; keeper = p.keeper }
