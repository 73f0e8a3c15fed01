use Rattle.std.proofs.Common.{◌∙◌, rules}
use Rattle.endpoint.proofs.FailingLemmas.{due_receive, passed_counts, passed_receive, same_own}
use Rattle.endpoint.proofs.failing.FailingDatagramsDatagrams.recv.Goals as goal

pub returns-then-is_due-clause-receives : goal.returns-then-is_due-clause-receives
returns-then-is_due-clause-receives g c = due_receive g.D.Datagrams.device _ _ _ c.is_due.ensures.counted (c.is_due.ensures.fails (search rules)) _ c.args.buffer.now

pub returns-clause-counts : goal.returns-clause-counts
returns-clause-counts g c =
    passed_counts g.D.Datagrams.device g.D.Datagrams.tells _ _ (c.self.view_is ∙ c.is_due.ensures.counted) (same_own _ _ c.self.view_is ∙ c.is_due.ensures.passes (search rules)) c.recv.new.self c.recv.ensures.counts

pub returns-clause-receives : goal.returns-clause-receives
returns-clause-receives g c =
    passed_receive g.D.Datagrams.device g.D.Datagrams.tells _ _ (c.self.view_is ∙ c.is_due.ensures.counted) (same_own _ _ c.self.view_is ∙ c.is_due.ensures.passes (search rules)) c.recv.new.self _ _ _ c.recv.ensures.receives
