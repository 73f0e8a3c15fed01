use Rattle.std.specs.Io.Buffered.{reader_remaining}
use Rattle.messages.specs.Fused.{fused_remaining}
use Rattle.publisher.specs.Ended.{reading_left}
use Rattle.publisher.proofs.AllPublished.{all_published}
use Rattle.publisher.proofs.Shorts.{says}
use Rattle.publisher.proofs.channel_publisher.publish.Goals as goal

pub returns-clause-whole : goal.returns-clause-whole
returns-clause-whole g c = λ whole.
    let parts = c.in_ok-parts.parts in let is = c.in_ok-parts.ensures in let left = c.in_ok-published.published in let end = c.in_ok-published.end in
    let closed = c.ending_closed-ending.ensures.whole whole in
    all_published (reader_remaining (fused_remaining (g.I.Read.remaining))) c.args.plan.now parts.state.log parts.publisher _ _ left.input c.args.routes.now parts.passes parts.peer left.attendances.items left.ends.items end is.parts.log_is is.parts.new c.in_ok-published.ensures.input is.destinations c.requires.some
    (c.in_ok-published.ensures.whole closed.0) (c.in_ok-published.ensures.told closed.0) c.in_ok-input.ensures c.in_ok-published.ensures.leaves closed.1

pub returns-clause-short : goal.returns-clause-short
returns-clause-short g c = λ short.
    let parts = c.in_ok-parts.parts in let is = c.in_ok-parts.ensures in let left = c.in_ok-published.published in
    says parts.state.log parts.passes c.args.plan.now c.args.routes.now is.peer.0 parts.peer left.ending _ left.told _ (reading_left left.input) left.attendances.items left.ends.items is.parts.log_is is.destinations is.peer.1 is.peer.2
    c.in_ok-published.ensures.whole c.in_ok-published.ensures.short c.in_ok-published.ensures.no_other c.ending_closed-ending.ensures.kept c.tell_if_unclosed-why.ensures short
