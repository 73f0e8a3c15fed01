use Rattle.std.proofs.Common.{rules, ◌≡◌, ◌∙◌, ap, inr, sym, subst}
use Rattle.theory.specs.Placed.{Among}
use Rattle.publication.specs.declared.pass.Pass.{Pass}
use Rattle.shared_log.specs.Handles.{IsPublishing}
use Rattle.shared_log.specs.Readers.{ReaderValue}
use Rattle.one_hand.proofs.log_hand.passing.advance_as.Goals as goal

pub unreachable-requires : goal.unreachable-requires
unreachable-requires c =
    let h = c.requires.has in
    let is = c.into_reader-reader.ensures in
    c.in_default.ensures.none.finds.none h.frame (inr (subst (λ (r : ReaderValue). Among h.frame r.held.pass.work.frames) (sym is) h.among)) (h.here ∙ sym (ap (λ (r : ReaderValue). r.position) is))

pub into_publisher-requires : goal.into_publisher-requires
into_publisher-requires c =
    let went : c.advance-end.new.reader.held.pass ≡ record c.next.new.reader.held.pass { reading = c.advance-end.new.reader.held.pass.reading } = c.advance-end.ensures.advances.pass.rest in
    let read : c.next.new.reader.held.pass ≡ record c.into_reader-reader.result.held.pass { reading = c.next.new.reader.held.pass.reading } = c.in-Some.ensures.found.finds.stays.pass.rest in
    let was : c.into_reader-reader.result.held.pass ≡ c.args.all.pass = ap (λ (r : ReaderValue). r.held.pass) c.into_reader-reader.ensures in
    let is : c.advance-end.new.reader.held.pass ≡ record c.args.all.pass { reading = c.advance-end.new.reader.held.pass.reading } = went ∙ ap (λ (v : Pass). record v { reading = c.advance-end.new.reader.held.pass.reading }) (read ∙ ap (λ (v : Pass). record v { reading = c.next.new.reader.held.pass.reading }) was) in
    subst (λ (v : Pass). IsPublishing v c.number-owner.result c.share-share.result) (sym is) record { owns = c.number-owner.ensures.owns; parts = search rules; number_is = c.number-owner.ensures.is; share_is = c.share-share.ensures }
