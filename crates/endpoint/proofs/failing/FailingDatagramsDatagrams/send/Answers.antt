use Rattle.std.proofs.Common.{◌∙◌, rules}
use Rattle.endpoint.proofs.FailingLemmas.{due_send, passed_counts, passed_send, same_own}
use Rattle.endpoint.proofs.failing.FailingDatagramsDatagrams.send.Goals as goal

pub returns-then-is_due-clause-sends : goal.returns-then-is_due-clause-sends
returns-then-is_due-clause-sends g c = due_send g.D.Datagrams.device _ _ _ c.is_due.ensures.counted (c.is_due.ensures.fails (search rules)) _ c.args.datagram.now

pub returns-clause-counts : goal.returns-clause-counts
returns-clause-counts g c =
    passed_counts g.D.Datagrams.device g.D.Datagrams.tells _ _ (c.self.view_is ∙ c.is_due.ensures.counted) (same_own _ _ c.self.view_is ∙ c.is_due.ensures.passes (search rules)) c.send.new.self c.send.ensures.counts

pub returns-clause-sends : goal.returns-clause-sends
returns-clause-sends g c =
    passed_send g.D.Datagrams.device g.D.Datagrams.tells _ _ (c.self.view_is ∙ c.is_due.ensures.counted) (same_own _ _ c.self.view_is ∙ c.is_due.ensures.passes (search rules)) c.send.new.self _ _ c.send.ensures.sends
