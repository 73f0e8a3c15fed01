use Rattle.std.proofs.Common.{length, take, sym, ap, ◌∙◌, subst, refl}
use Rattle.std.specs.Int.{w64, to_le_bytes}
use Rattle.position.specs.Contents.{head_by}
use Rattle.theory.specs.Bytes.{Identity}
use Rattle.theory.specs.Position.{IsGeometry}
use Rattle.publication.specs.declared.pass.FrameWords.{FrameWords}
use Rattle.log_rule.specs.Readings.{Has, IsConsumer}
use Rattle.log_memory.specs.Frames.{HasPart, MayGiveBack}
use Rattle.shared_log.specs.Steps.Handles.{LogValue, PublisherValue}
use Rattle.shared_log.specs.Steps.Readers.{IsRead, MayRereadAt}
use Rattle.shared_log.proofs.Read.{again_at, again_back, again_one, again_part, again_read, copied_all, low_cut}
use Rattle.shared_log.proofs.Heads.{part_low}
use Rattle.shared_log.proofs.Picked.{picked_frame, picked_reread}
use Rattle.shared_log.proofs.steps.log.Log.reread.Goals as goal

pub reread-word-requires-clause-may : goal.reread-word-requires-clause-may
reread-word-requires-clause-may c = picked_reread c.pass.inside.seat.me.0.view.pass c.args.consumer.now c.args.start (subst (λ (p : PublisherValue). MayRereadAt p.pass c.args.consumer.now c.args.start) (sym c.pass.view_is) c.requires.may)

pub reread-word-requires-clause-start : goal.reread-word-requires-clause-start
reread-word-requires-clause-start c = (picked_frame c.pass.inside.seat.me.0.view.pass c.args.consumer.now c.args.start (subst (λ (p : PublisherValue). MayRereadAt p.pass c.args.consumer.now c.args.start) (sym c.pass.view_is) c.requires.may)).1

pub copy_part-requires-clause-part : goal.copy_part-requires-clause-part
copy_part-requires-clause-part c =
    again_at c.parts_are_found.ensures c.self.inside.memory.table.shared.key (subst (λ (i : Identity). IsGeometry i.geometry) (sym c.self.invariant.identity_is) c.self.invariant.geometry) c.args.consumer.now c.args.start c.pass.inside.seat.me c.reread-word.new.seat.me (subst (λ (p : PublisherValue). MayRereadAt p.pass c.args.consumer.now c.args.start) (sym c.pass.view_is) c.requires.may) c.reread-word.result c.reread-word.ensures.told (ap (λ (p : PublisherValue). p.pass.identity) c.pass.view_is ∙ c.requires.fits.identity ∙ sym (ap (λ (l : LogValue). l.identity) c.self.view_is) ∙ sym c.self.invariant.identity_is) (length c.args.bytes.now) (length (take c.part_in-count.result c.args.bytes.now)) (low_cut c.part_in-count.result _ c.args.bytes.now c.part_in-count.ensures (part_low (head_by c.args.start (to_le_bytes w64 c.reread-word.result)) (length c.args.bytes.now)).1)

pub give_back-requires-clause-may : goal.give_back-requires-clause-may
give_back-requires-clause-may c =
    subst (MayGiveBack c.self.inside.memory.table.shared.key) (sym c.copy_part.ensures.seat.2)
    (again_back c.parts_are_found.ensures c.self.inside.memory.table.shared.key (subst (λ (i : Identity). IsGeometry i.geometry) (sym c.self.invariant.identity_is) c.self.invariant.geometry) c.args.consumer.now c.args.start c.pass.inside.seat.me c.reread-word.new.seat.me (subst (λ (p : PublisherValue). MayRereadAt p.pass c.args.consumer.now c.args.start) (sym c.pass.view_is) c.requires.may) c.reread-word.result c.reread-word.ensures.told (ap (λ (p : PublisherValue). p.pass.identity) c.pass.view_is ∙ c.requires.fits.identity ∙ sym (ap (λ (l : LogValue). l.identity) c.self.view_is) ∙ sym c.self.invariant.identity_is))

pub returns-clause-told : goal.returns-clause-told
returns-clause-told c x f is had there = subst (λ (p : PublisherValue). IsRead p.pass x f c.args.start c.reread-word.result) c.pass.view_is
    (again_read c.parts_are_found.ensures c.self.inside.memory.table.shared.key (subst (λ (i : Identity). IsGeometry i.geometry) (sym c.self.invariant.identity_is) c.self.invariant.geometry) c.args.consumer.now c.args.start c.pass.inside.seat.me c.reread-word.new.seat.me (subst (λ (p : PublisherValue). MayRereadAt p.pass c.args.consumer.now c.args.start) (sym c.pass.view_is) c.requires.may) c.reread-word.result c.reread-word.ensures.told (ap (λ (p : PublisherValue). p.pass.identity) c.pass.view_is ∙ c.requires.fits.identity ∙ sym (ap (λ (l : LogValue). l.identity) c.self.view_is) ∙ sym c.self.invariant.identity_is) x f (subst (λ (p : PublisherValue). IsConsumer p.pass c.args.consumer.now.place x) (sym c.pass.view_is) is) (subst (λ (p : PublisherValue). Has p.pass x f) (sym c.pass.view_is) had) there)

pub returns-clause-copied : goal.returns-clause-copied
returns-clause-copied c x f is had there =
    let t = c.self.inside.memory.table.shared.key in
    let one = again_one c.parts_are_found.ensures c.self.inside.memory.table.shared.key (subst (λ (i : Identity). IsGeometry i.geometry) (sym c.self.invariant.identity_is) c.self.invariant.geometry) c.args.consumer.now c.args.start c.pass.inside.seat.me c.reread-word.new.seat.me (subst (λ (p : PublisherValue). MayRereadAt p.pass c.args.consumer.now c.args.start) (sym c.pass.view_is) c.requires.may) c.reread-word.result c.reread-word.ensures.told (ap (λ (p : PublisherValue). p.pass.identity) c.pass.view_is ∙ c.requires.fits.identity ∙ sym (ap (λ (l : LogValue). l.identity) c.self.view_is) ∙ sym c.self.invariant.identity_is) x f (subst (λ (p : PublisherValue). IsConsumer p.pass c.args.consumer.now.place x) (sym c.pass.view_is) is) (subst (λ (p : PublisherValue). Has p.pass x f) (sym c.pass.view_is) had) there in
    let part = again_part c.parts_are_found.ensures c.self.inside.memory.table.shared.key (subst (λ (i : Identity). IsGeometry i.geometry) (sym c.self.invariant.identity_is) c.self.invariant.geometry) c.args.consumer.now c.args.start c.pass.inside.seat.me c.reread-word.new.seat.me (subst (λ (p : PublisherValue). MayRereadAt p.pass c.args.consumer.now c.args.start) (sym c.pass.view_is) c.requires.may) c.reread-word.result c.reread-word.ensures.told (ap (λ (p : PublisherValue). p.pass.identity) c.pass.view_is ∙ c.requires.fits.identity ∙ sym (ap (λ (l : LogValue). l.identity) c.self.view_is) ∙ sym c.self.invariant.identity_is) in
    copied_all t f c.args.start c.args.consumer.now.number c.part_in-count.result _ c.reread-word.new.seat.me.1 c.args.bytes.now c.copy_part.new.into _ c.part_in-count.ensures (part_low (head_by c.args.start (to_le_bytes w64 c.reread-word.result)) (length c.args.bytes.now)).1 c.copy_part.ensures.copied there (subst (λ (y : FrameWords). HasPart t y c.args.consumer.now.number c.reread-word.new.seat.me.1) (sym one) part) refl
