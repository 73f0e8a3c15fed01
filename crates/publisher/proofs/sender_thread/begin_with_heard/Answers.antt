use Rattle.std.proofs.Common.{◌∙◌, ap, length, sym}
use Rattle.publisher.specs.Destinations.{heard_count}
use Rattle.publisher.proofs.Begun.{begins_without, may_begin, stands}
use Rattle.publisher.proofs.sender_thread.begin_with_heard.Goals as goal

pub returns-then-keeps_all-clause-begins : goal.returns-then-keeps_all-clause-begins
returns-then-keeps_all-clause-begins g c =
    let same = c.each-destinations.ensures ∙ ap (λ d. d.ways) c.device.ensures in
    stands c.args.wait c.args.now c.args.begun c.begins_now-begins.result c.has_begun.result c.args.sender.now c.count_heard-heard.result (length c.each-destinations.result.now) c.position-position.result c.has_begun.ensures c.begins_now-begins.ensures
    (c.count_heard-heard.ensures.heard ∙ ap heard_count same) (ap length same) c.position-position.ensures (sym c.keeps_all.ensures ∙ c.if-keeps_all.true)

pub returns-clause-begins : goal.returns-clause-begins
returns-clause-begins g c =
    let same = c.each-destinations.ensures ∙ ap (λ d. d.ways) c.device.ensures in
    begins_without c.args.wait c.args.now c.args.begun c.begins_now-begins.result c.args.sender.now _ c.count_heard-heard.result (length c.each-destinations.result.now) c.position-position.result c.begins_now-begins.ensures
    (c.count_heard-heard.ensures.heard ∙ ap heard_count same) (ap length same) c.position-position.ensures (sym c.keeps_all.ensures ∙ c.if-keeps_all.false) (ap (λ a. a.core.flow) c.set_flow.ensures ∙ c.new.ensures.made) c.number_all.ensures.numbered

pub new-requires-clause-start : goal.new-requires-clause-start
new-requires-clause-start g c = (may_begin c.args.begun c.begins_now-begins.result c.args.wait c.args.now c.count_heard-heard.result (length c.each-destinations.result.now) c.position-position.result c.begins_now-begins.ensures (sym c.keeps_all.ensures ∙ c.if-keeps_all.false)).1

pub new-requires-clause-group : goal.new-requires-clause-group
new-requires-clause-group g c = (may_begin c.args.begun c.begins_now-begins.result c.args.wait c.args.now c.count_heard-heard.result (length c.each-destinations.result.now) c.position-position.result c.begins_now-begins.ensures (sym c.keeps_all.ensures ∙ c.if-keeps_all.false)).0
