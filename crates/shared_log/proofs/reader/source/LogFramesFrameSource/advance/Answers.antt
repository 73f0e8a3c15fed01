use Rattle.std.proofs.Common.{rules}
use Rattle.shared_log.proofs.Sourced.{advance_looked, passes}
use Rattle.shared_log.proofs.reader.source.LogFramesFrameSource.advance.Goals as goal

pub returns-clause-passes : goal.returns-clause-passes
returns-clause-passes g c = passes c.args.self.now.log.now c.args.self.now.reader c.advance.new.reader c.advance.result c.identity.ensures.legal c.requires.stands c.advance.ensures.advances c.advance.ensures.answer

pub returns-clause-leaves : goal.returns-clause-leaves
returns-clause-leaves g c = (record { log = search rules; number = search rules; looked = advance_looked c.args.self.now.reader c.advance.new.reader c.advance.ensures.advances }, search rules)
