use Rattle.std.proofs.Common.{◌≡◌, ◌∙◌, ap, length, map}
use Rattle.publisher.specs.Destinations.{numbered_from, unnumbered}
use Rattle.publisher.proofs.Many.{as_many}
use Rattle.publisher.proofs.Written.{all_ways}
use Rattle.publisher.proofs.sender_thread.number_all.Goals as goal

pub returns-clause-kept : goal.returns-clause-kept
returns-clause-kept g c =
    let fan = c.device_mut.result.now in let new = c.number_heard.new.destinations in
    let same : length new ≡ length fan.ways = as_many unnumbered unnumbered new c.each_mut.result.now c.number_heard.ensures.kept ∙ ap length c.each_mut.ensures.value in
    ap (λ f. map unnumbered f.ways) (all_ways fan new same) ∙ c.number_heard.ensures.kept ∙ ap (map unnumbered) (c.each_mut.ensures.value ∙ ap (λ f. f.ways) c.device_mut.ensures.value)

pub returns-clause-numbered : goal.returns-clause-numbered
returns-clause-numbered g c =
    let fan = c.device_mut.result.now in let new = c.number_heard.new.destinations in
    let same : length new ≡ length fan.ways = as_many unnumbered unnumbered new c.each_mut.result.now c.number_heard.ensures.kept ∙ ap length c.each_mut.ensures.value in
    ap (λ f. f.ways) (all_ways fan new same) ∙ c.number_heard.ensures.numbered ∙ ap (numbered_from 0) (c.each_mut.ensures.value ∙ ap (λ f. f.ways) c.device_mut.ensures.value)
