use Rattle.std.proofs.Common.{rules, FitsSigned, w32}
use Rattle.frames.specs.Frames.{header_of}
use Rattle.receiver.specs.Receiving.{MeetsHeartbeat}
use Rattle.receiver.specs.declared.receiver_core.Outcome.TheVariants as outcomes
use Rattle.receiver.proofs.Meeting.{as_ids, not_mine, of_ours, not_for_image}
use Rattle.receiver.proofs.receiver_core.ReceiverCore.on_heartbeat.Goals as goal

pub returns-then-is_mine-clause-met : goal.returns-then-is_mine-clause-met
returns-then-is_mine-clause-met c =
    let session : FitsSigned w32 c.args.header.now.session = search rules in
    let stream : FitsSigned w32 c.args.header.now.stream = search rules in
    of_ours c.args.self.now c.hear.new.self c.args.header.now.session c.args.header.now.stream (λ r s. MeetsHeartbeat r.image r (header_of c.args.header.now) c.hear.result s) c.hear.result ((as_ids c.args.self.now c.is_mine.result _ _ session stream c.is_mine.ensures).0 c.if-is_mine.true) c.hear.ensures.met

pub returns-else-is_mine-clause-met : goal.returns-else-is_mine-clause-met
returns-else-is_mine-clause-met c =
    let session : FitsSigned w32 c.args.header.now.session = search rules in
    let stream : FitsSigned w32 c.args.header.now.stream = search rules in
    not_mine c.args.self.now c.args.header.now.session c.args.header.now.stream c.is_mine.result (λ r s. MeetsHeartbeat r.image r (header_of c.args.header.now) outcomes.Other s) (as_ids c.args.self.now c.is_mine.result _ _ session stream c.is_mine.ensures) c.if-is_mine.false

pub returns-else-is_mine-clause-looks : goal.returns-else-is_mine-clause-looks
returns-else-is_mine-clause-looks c =
    let session : FitsSigned w32 c.args.header.now.session = search rules in
    let stream : FitsSigned w32 c.args.header.now.stream = search rules in
    not_for_image c.args.self.now c.args.self.now c.args.header.now.session c.args.header.now.stream c.is_mine.result session stream c.is_mine.ensures c.if-is_mine.false
