use Rattle.std.proofs.Common.{◌≡◌, ◌∙◌, length, ap, arith}
use Rattle.std.proofs.lemmas.List.{length-replicate}
use Rattle.log_rule.specs.Table.{first_there as first_flags}
use Rattle.one_hand.proofs.Opened.{opens_as, opens_stands}
use Rattle.one_hand.proofs.log_hand.LogHand.open.Goals as goal

pub invariant_of-result : goal.invariant_of-result
invariant_of-result c =
    let size : length c.in_ok-block.block ≡ c.mtu.result = ap length c.in_ok-block.ensures ∙ length-replicate c.mtu.result 0 in let mtu = c.mtu.ensures.value in
    opens_stands c.args.geometry c.args.session c.args.stream c.args.start c.args.consumers c.in_ok-log.log c.in_ok-log.all c.in_ok-log.ensures.log c.in_ok-log.ensures.pass c.mtu.ensures.legal c.ranges.session c.ranges.stream c.in_ok-log.ensures.in_range c.first_there-there.result (c.first_there-there.ensures.flags ∙ ap first_flags c.consumers.ensures.is) c.first_there-there.ensures.many (length c.in_ok-block.block) (omega arith)

pub returns-clause-opened : goal.returns-clause-opened
returns-clause-opened c = (opens_as c.args.geometry c.args.session c.args.stream c.args.start c.args.consumers c.in_ok-log.log c.in_ok-log.all c.in_ok-log.ensures.log c.in_ok-log.ensures.pass c.mtu.ensures.legal c.ranges.session c.ranges.stream c.in_ok-log.ensures.in_range).1
