use Rattle.std.proofs.Common.{rules, subst, sym}
use Rattle.frame_source.specs.Sources as sources
use Rattle.shared_log.specs.Steps.Handles.{LogValue}
use Rattle.shared_log.specs.Sourced.{source_of}
use Rattle.shared_log.proofs.Sourced.{again, may_reread, reread_looked}
use Rattle.claims.proofs.passes.source.ReaderPassFrameSource.reread.Goals as goal

pub reread-requires-clause-may : goal.reread-requires-clause-may
reread-requires-clause-may g c =
    let r = c.args.self.now.reader in
    may_reread c.deref-log.result.now r c.args.position (subst (λ (m : LogValue). sources.MayReread (source_of m r) c.args.position) (sym c.deref-log.ensures) c.requires.may)

pub returns-clause-again : goal.returns-clause-again
returns-clause-again g c =
    let l : LogValue = c.deref-log.result.now in let r = c.args.self.now.reader in let q = c.reread.new.reader in
    let may = subst (λ (m : LogValue). sources.MayReread (source_of m r) c.args.position) (sym c.deref-log.ensures) c.requires.may in
    subst (λ (m : LogValue). sources.Rereads (source_of m r) c.args.position c.reread.result c.args.block.now (source_of m q) c.reread.new.block) c.deref-log.ensures (again l r q c.args.position c.reread.result c.args.block.now c.reread.new.block may c.reread.ensures.again)

pub returns-clause-leaves : goal.returns-clause-leaves
returns-clause-leaves g c = (record { log = search rules; number = search rules; looked = reread_looked c.deref-log.result.now c.args.self.now.reader c.reread.new.reader c.args.position c.reread.result c.args.block.now c.reread.new.block c.reread.ensures.again }, search rules)
