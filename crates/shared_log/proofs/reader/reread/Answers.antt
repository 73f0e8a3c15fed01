use Rattle.std.proofs.Common.{ℕ, List, length, ap, sym, ◌∙◌, subst, refl}
use Rattle.publication.specs.declared.pass.Pass.{Pass}
use Rattle.log_memory.specs.declared.reader.Consumer.{Consumer}
use Rattle.shared_log.specs.Steps.Readers.{CopiesHad, MayRereadAt, ReadsAgain, SameSeat, part_bytes}
use Rattle.position.specs.declared.head.FrameHead.{FrameHead}
use Rattle.shared_log.specs.Readers.{IsReading, ReaderValue, Rereads, consumer_of}
use Rattle.shared_log.proofs.Finding.{may_reread, rereads_by, whole_again}
use Rattle.shared_log.proofs.reader.reread.Goals as goal

pub reread-word-requires-clause-may : goal.reread-word-requires-clause-may
reread-word-requires-clause-may c =
    let is = subst (λ (r : ReaderValue). IsReading r.held.pass r.place r.number r.position r.read_to) c.reader.view_is c.reader.invariant.reading in
    subst (λ (x : Pass × Consumer). MayRereadAt x.0 x.1 c.args.position) (λ i. ((sym c.reader.view_is i).held.pass, sym c.consumer-consumer.ensures i)) (may_reread c.args.log.now c.args.reader.now c.args.position c.requires.fits is c.requires.may)

pub returns-clause-again : goal.returns-clause-again
returns-clause-again c =
    let r : ReaderValue = c.args.reader.now in let p : ℕ = c.args.position in let n : ℕ = c.reread-word.result in let head : FrameHead = c.head_in.result in let before : List ℕ = c.args.block.now in let after : List ℕ = c.reread-word.new.bytes in let said = c.reread-word.ensures in
    let is : IsReading r.held.pass r.place r.number r.position r.read_to = subst (λ (x : ReaderValue). IsReading x.held.pass x.place x.number x.position x.read_to) c.reader.view_is c.reader.invariant.reading in
    let told : ReadsAgain r.held.pass (consumer_of r) p n = subst (λ (x : Pass × Consumer). ReadsAgain x.0 x.1 p n) (λ i. ((c.reader.view_is i).held.pass, c.consumer-consumer.ensures i)) said.told in
    let copied : CopiesHad r.held.pass (consumer_of r) p (part_bytes head (length before)) before after = subst (λ (x : Pass × Consumer × (List ℕ × FrameHead)). CopiesHad x.0 x.1 p (part_bytes x.2.1 (length x.2.0)) x.2.0 after) (λ i. ((c.reader.view_is i).held.pass, c.consumer-consumer.ensures i, (c.bytes_mut.ensures.value i, sym c.head_in.ensures i))) said.copied in
    subst (λ (x : ReaderValue × List ℕ). Rereads c.args.log.now r p head before (record x.0 { held = c.reread-word.new.pass }) x.1) (λ i. (sym c.reader.view_is i, sym (whole_again after before (said.same_length ∙ ap length c.bytes_mut.ensures.value)) i))
    (rereads_by c.args.log.now r (record r { held = c.reread-word.new.pass }) p n head before after c.identity.ensures.legal c.requires.fits is c.requires.may c.requires.room
    record { seat = subst (λ (x : ReaderValue). SameSeat x.held c.reread-word.new.pass) c.reader.view_is said.seat; pass = said.same ∙ ap (λ (x : ReaderValue). x.held.pass) c.reader.view_is; same = refl } told c.head_in.ensures copied)
