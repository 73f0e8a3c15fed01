use Rattle.std.proofs.Common.{◌≡◌, ◌∙◌, List, ap, length, subst, sym}
use Rattle.publisher.specs.Farewells.{AreTold}
use Rattle.publisher.specs.Seeing.{ChannelDestination}
use Rattle.publisher.proofs.Many.{told_many}
use Rattle.publisher.proofs.Written.{all_ways}
use Rattle.publisher.proofs.two_threads.tell_all.Goals as goal

pub returns-clause-told : goal.returns-clause-told
returns-clause-told g c =
    let fan = c.device_mut.result.now in let new = c.tell_each.new.destinations in let ways = c.args.duty.now.device.ways in
    let there : c.each_mut.result.now ≡ fan.ways = c.each_mut.ensures.value in
    let same : length new ≡ length fan.ways = told_many 1 c.args.end c.each_mut.result.now new c.tell_each.ensures ∙ ap length there in
    subst (AreTold 1 c.args.end ways) (sym (ap (λ f. f.ways) (all_ways fan new same)))
    (subst (λ (ws : List (ChannelDestination g.row.D.Denot)). AreTold 1 c.args.end ws new) (there ∙ ap (λ f. f.ways) c.device_mut.ensures.value) c.tell_each.ensures)
