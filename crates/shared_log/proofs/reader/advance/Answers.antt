use Rattle.std.proofs.Common.{ℕ, ap, sym, ◌∙◌, subst}
use Rattle.log_rule.specs.Readings.{Consumes}
use Rattle.log_memory.specs.declared.reader.Consumer.{Consumer}
use Rattle.shared_log.specs.Readers.{Advances, ReaderValue}
use Rattle.shared_log.proofs.Finding.{advances_by}
use Rattle.shared_log.proofs.Holding.{passed_rest, reader_kept}
use Rattle.shared_log.proofs.Joined.{still_alone}
use Rattle.shared_log.proofs.Looking.{passed_here, still_reader}
use Rattle.shared_log.proofs.reader.advance.Goals as goal

told_of : (c : goal.After-reader-1) → Consumes c.reader.inside.handle.pass.pass c.reader.inside.place c.reader.inside.read_to c.consume.new.pass.pass
told_of c = subst (λ (x : ℕ). Consumes c.reader.inside.handle.pass.pass x c.reader.inside.read_to c.consume.new.pass.pass) (ap (λ (x : Consumer). x.place) c.consumer-consumer.ensures ∙ sym (ap (λ (r : ReaderValue). r.place) c.reader.view_is)) c.consume.ensures.told

pub invariant_of-reader : goal.invariant_of-reader
invariant_of-reader c = let is = c.reader.invariant.reading in reader_kept c.reader.invariant c.consume.ensures.seat (passed_rest _ _ _ _ _ _ is (told_of c)) (passed_here _ _ _ _ _ _ is (told_of c))

pub returns-clause-advances : goal.returns-clause-advances
returns-clause-advances c =
    let r : ReaderValue = record { held = c.reader.inside.handle.pass; place = c.reader.inside.place; number = c.reader.inside.number; position = c.reader.inside.position; read_to = c.reader.inside.read_to } in
    subst (λ (x : ReaderValue). Advances x record { held = c.consume.new.pass; place = c.reader.inside.place; number = c.reader.inside.number; position = c.reader.inside.read_to; read_to = c.reader.inside.read_to }) c.reader.view_is (advances_by r c.consume.new.pass c.reader.invariant.reading c.consume.ensures.seat (told_of c))

pub returns-clause-fits : goal.returns-clause-fits
returns-clause-fits c = let a = returns-clause-advances c in still_reader c.args.log.now c.args.reader.now _ c.requires.fits a.seat a.pass (ap (λ (x : ReaderValue). x.number) a.same)

pub returns-clause-alone : goal.returns-clause-alone
returns-clause-alone c alone = let a = returns-clause-advances c in still_alone c.args.log.now c.args.reader.now _ alone a.pass (ap (λ (x : ReaderValue). x.place) a.same)
