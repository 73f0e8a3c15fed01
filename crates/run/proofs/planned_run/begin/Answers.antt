use Rattle.std.proofs.Common.{◌≡◌, ◌∙◌, ap, length, refl, sym, arith}
use Rattle.conductor.specs.Parties.{ClientSeen, TakerSeen}
use Rattle.run.specs.Outcomes.{size_of}
use Rattle.run.proofs.Counting.{begins}
use Rattle.run.proofs.planned_run.begin.Goals as goal

pub returns-clause-begins : goal.returns-clause-begins
returns-clause-begins g c =
    let told = c.in_ok-conductor.ensures in let same = sym c.new-2.ensures.conductor in
    let plan = c.args.plan.now in
    let many : length c.args.ways.items ≡ c.args.plan.now.receivers = omega (arith, c.args.ways.ok.0, c.requires.ways) in
    begins plan.geometry (size_of plan) c.in_ok-log.field-0 _ c.in_ok-log.ensures c.new-2.ensures.log refl refl refl refl
    (ap (λ (x : ClientSeen). x.queue) told.first ∙ same) (ap (λ (x : ClientSeen). x.queue) told.second ∙ same) (ap (λ (x : TakerSeen). x.queue) told.taker ∙ same)
    (ap (λ f. length f.ways) c.new.ensures ∙ many) c.in_ok-waiting.ensures.many c.in_ok-waiting.ensures.waiting c.in_ok-waiting.ensures.shown
