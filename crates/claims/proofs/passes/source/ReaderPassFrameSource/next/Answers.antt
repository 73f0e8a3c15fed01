use Rattle.std.proofs.Common.{rules, subst}
use Rattle.std.specs.Prelude.{IfNone, IfSome, None, Option, Some}
use Rattle.std.proofs.lemmas.Option.{IfSome_then}
use Rattle.frame_source.specs.Sources.{FindsNone, ReadsNext}
use Rattle.shared_log.specs.Steps.Handles.{LogValue}
use Rattle.shared_log.specs.Sourced.{Grows, source_of}
use Rattle.shared_log.proofs.Sourced.{found, next_looked, none}
use Rattle.claims.proofs.passes.source.ReaderPassFrameSource.next.Goals as goal

if_none : {T : Type 0} {P Q : Type 0} (o : Option T) → IfNone o P → (P → Q) → IfNone o Q
if_none None p f = f p
if_none (Some x) p f = tt

pub returns-clause-found : goal.returns-clause-found
returns-clause-found g c =
    let l : LogValue = c.deref-log.result.now in let r = c.args.self.now.reader in let q = c.next.new.reader in
    subst (λ (m : LogValue). IfSome c.next.result (λ head. ReadsNext Grows (source_of m r) head c.args.block.now (source_of m q) c.next.new.block)) c.deref-log.ensures (IfSome_then c.next.result c.next.ensures.found (λ head h. found l r q head c.args.block.now c.next.new.block h))

pub returns-clause-none : goal.returns-clause-none
returns-clause-none g c =
    let l : LogValue = c.deref-log.result.now in let r = c.args.self.now.reader in let q = c.next.new.reader in
    subst (λ (m : LogValue). IfNone c.next.result (FindsNone (source_of m r) c.args.block.now (source_of m q) c.next.new.block)) c.deref-log.ensures (if_none c.next.result c.next.ensures.none (none l r q c.args.block.now c.next.new.block))

pub returns-clause-leaves : goal.returns-clause-leaves
returns-clause-leaves g c = (record { log = search rules; number = search rules; looked = next_looked c.deref-log.result.now c.args.self.now.reader c.next.new.reader c.args.block.now c.next.new.block c.next.result c.next.ensures.found c.next.ensures.none }, search rules)
