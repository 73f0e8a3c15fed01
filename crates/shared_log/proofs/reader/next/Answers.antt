use Rattle.std.proofs.Common.{ℕ, List, length, ap, sym, ◌∙◌, subst}
use Rattle.shared_log.specs.Readers.{FindsPart, ReaderValue, ReadsFrame}
use Rattle.shared_log.proofs.Finding.{fits_block, read_part, whole_again}
use Rattle.shared_log.proofs.Joined.{still_alone}
use Rattle.shared_log.proofs.Looking.{only_misses, still_reader}
use Rattle.shared_log.proofs.Sourced.{has_read}
use Rattle.shared_log.proofs.reader.next.Goals as goal

pub returns-clause-found : goal.returns-clause-found
returns-clause-found c =
    let l = c.args.log.now in let r = c.args.reader.now in let before : List ℕ = c.args.block.now in let q = c.look.new.reader in let head = c.in_ok-head.head in
    let f : FindsPart l r head before q c.look.new.bytes = subst (λ (x : List ℕ). FindsPart l r head x q c.look.new.bytes) c.bytes_mut.ensures.value c.in_ok-head.ensures.found in
    subst (λ (x : List ℕ). ReadsFrame l r head before q x) (sym (whole_again c.look.new.bytes before (c.look.ensures.same_length ∙ ap length c.bytes_mut.ensures.value)))
    (read_part l r head before q c.look.new.bytes f (fits_block l.identity.geometry head (length before) f.finds.legal c.requires.room))

pub returns-clause-read : goal.returns-clause-read
returns-clause-read c = has_read c.args.log.now c.args.reader.now c.look.new.reader c.in_ok-head.head c.args.block.now _ (returns-clause-found c)

pub returns-in_err-head-clause-fits : goal.returns-in_err-head-clause-fits
returns-in_err-head-clause-fits c = let a = c.in_err-head.ensures.none.finds.rests in still_reader c.args.log.now c.args.reader.now c.look.new.reader c.requires.fits a.seat (only_misses c.args.reader.now c.look.new.reader a) (ap (λ (x : ReaderValue). x.number) a.same)

pub returns-clause-fits : goal.returns-clause-fits
returns-clause-fits c = let f = c.in_ok-head.ensures.found.finds.stays in still_reader c.args.log.now c.args.reader.now c.look.new.reader c.requires.fits f.seat f.pass (ap (λ (x : ReaderValue). x.number) f.same)

pub returns-in_err-head-clause-alone : goal.returns-in_err-head-clause-alone
returns-in_err-head-clause-alone c alone = let a = c.in_err-head.ensures.none.finds.rests in still_alone c.args.log.now c.args.reader.now c.look.new.reader alone (only_misses c.args.reader.now c.look.new.reader a) (ap (λ (x : ReaderValue). x.place) a.same)

pub returns-clause-alone : goal.returns-clause-alone
returns-clause-alone c alone = let f = c.in_ok-head.ensures.found.finds.stays in still_alone c.args.log.now c.args.reader.now c.look.new.reader alone f.pass (ap (λ (x : ReaderValue). x.place) f.same)
