use Rattle.std.proofs.Common.{ℕ, ◌<◌, length, take, sym, ap, ◌∙◌, subst, refl, arith}
use Rattle.std.specs.Int.{w64, to_le_bytes}
use Rattle.position.specs.Contents.{head_by}
use Rattle.theory.specs.Bytes.{Identity}
use Rattle.theory.specs.Position.{IsGeometry}
use Rattle.publication.specs.declared.pass.FrameWords.{FrameWords}
use Rattle.publication.specs.declared.pass.Reading.{Reading}
use Rattle.log_memory.specs.Frames.{HasPart, MayGiveBack}
use Rattle.shared_log.specs.Steps.Handles.{LogValue, PublisherValue}
use Rattle.shared_log.specs.Steps.Readers.{IsAt}
use Rattle.shared_log.proofs.Read.{copied_all, found_at, found_back, found_one, found_part, found_rests, low_cut, none_rests}
use Rattle.shared_log.proofs.Heads.{part_low}
use Rattle.shared_log.proofs.Picked.{picked_is, picked_reading}
use Rattle.shared_log.proofs.steps.log.Log.look.Goals as goal

pub look-word-requires-clause-consumer : goal.look-word-requires-clause-consumer
look-word-requires-clause-consumer c = picked_is c.pass.inside.seat.me.0.view.pass c.args.consumer.now (subst (λ (p : PublisherValue). IsAt p.pass c.args.consumer.now) (sym c.pass.view_is) c.requires.consumer)

pub look-word-requires-clause-low : goal.look-word-requires-clause-low
look-word-requires-clause-low c =
    let at = subst (λ (p : PublisherValue). IsAt p.pass c.args.consumer.now) (sym c.pass.view_is) c.requires.consumer in
    subst (λ (n : ℕ). n < 8) (sym (ap (λ (r : Reading). r.number) (picked_reading c.pass.inside.seat.me.0.view.pass c.args.consumer.now at) ∙ at.number_is)) at.low

pub look-word-requires-clause-stands : goal.look-word-requires-clause-stands
look-word-requires-clause-stands c =
    let at = subst (λ (p : PublisherValue). IsAt p.pass c.args.consumer.now) (sym c.pass.view_is) c.requires.consumer in
    ap (λ (r : Reading). r.position) (picked_reading c.pass.inside.seat.me.0.view.pass c.args.consumer.now at) ∙ at.position_is

pub invariant_of-pass : goal.invariant_of-pass
invariant_of-pass c = none_rests c.self.inside.memory.table.shared.key c.args.consumer.now c.pass.inside.seat.me c.look-word.new.seat.me c.look-word.result c.look-word.ensures.told c.pass.inside.key.identity c.if-word-eq0.true c.pass.invariant

pub copy_part-requires-clause-part : goal.copy_part-requires-clause-part
copy_part-requires-clause-part c =
    let not = c.if-word-eq0.false in
    found_at c.parts_are_found.ensures c.self.inside.memory.table.shared.key (subst (λ (i : Identity). IsGeometry i.geometry) (sym c.self.invariant.identity_is) c.self.invariant.geometry) c.args.consumer.now c.pass.inside.seat.me c.look-word.new.seat.me (subst (λ (p : PublisherValue). IsAt p.pass c.args.consumer.now) (sym c.pass.view_is) c.requires.consumer) c.look-word.result c.look-word.ensures.told (ap (λ (p : PublisherValue). p.pass.identity) c.pass.view_is ∙ c.requires.fits.identity ∙ sym (ap (λ (l : LogValue). l.identity) c.self.view_is) ∙ sym c.self.invariant.identity_is) (omega (arith, not)) (length c.args.bytes.now) (length (take c.part_in-count.result c.args.bytes.now)) (low_cut c.part_in-count.result _ c.args.bytes.now c.part_in-count.ensures (part_low (head_by c.args.consumer.now.position (to_le_bytes w64 c.look-word.result)) (length c.args.bytes.now)).1)

pub give_back-requires-clause-may : goal.give_back-requires-clause-may
give_back-requires-clause-may c =
    let not = c.if-word-eq0.false in
    subst (MayGiveBack c.self.inside.memory.table.shared.key) (sym c.copy_part.ensures.seat.2)
    (found_back c.parts_are_found.ensures c.self.inside.memory.table.shared.key (subst (λ (i : Identity). IsGeometry i.geometry) (sym c.self.invariant.identity_is) c.self.invariant.geometry) c.args.consumer.now c.pass.inside.seat.me c.look-word.new.seat.me (subst (λ (p : PublisherValue). IsAt p.pass c.args.consumer.now) (sym c.pass.view_is) c.requires.consumer) c.look-word.result c.look-word.ensures.told (ap (λ (p : PublisherValue). p.pass.identity) c.pass.view_is ∙ c.requires.fits.identity ∙ sym (ap (λ (l : LogValue). l.identity) c.self.view_is) ∙ sym c.self.invariant.identity_is) (omega (arith, not)))

pub invariant_of-pass-2 : goal.invariant_of-pass-2
invariant_of-pass-2 c =
    let not = c.if-word-eq0.false in
    found_rests c.parts_are_found.ensures c.self.inside.memory.table.shared.key (subst (λ (i : Identity). IsGeometry i.geometry) (sym c.self.invariant.identity_is) c.self.invariant.geometry) c.args.consumer.now c.pass.inside.seat.me c.look-word.new.seat.me (subst (λ (p : PublisherValue). IsAt p.pass c.args.consumer.now) (sym c.pass.view_is) c.requires.consumer) c.look-word.result c.look-word.ensures.told (ap (λ (p : PublisherValue). p.pass.identity) c.pass.view_is ∙ c.requires.fits.identity ∙ sym (ap (λ (l : LogValue). l.identity) c.self.view_is) ∙ sym c.self.invariant.identity_is) (omega (arith, not)) c.copy_part.new.seat.me c.give_back.new.seat.me c.copy_part.ensures.seat.2 c.give_back.ensures.told c.pass.inside.key.identity c.pass.invariant

pub returns-clause-copied : goal.returns-clause-copied
returns-clause-copied c pos x f is among there =
    let not = c.if-word-eq0.false in let t = c.self.inside.memory.table.shared.key in
    let one = found_one c.parts_are_found.ensures c.self.inside.memory.table.shared.key (subst (λ (i : Identity). IsGeometry i.geometry) (sym c.self.invariant.identity_is) c.self.invariant.geometry) c.args.consumer.now c.pass.inside.seat.me c.look-word.new.seat.me (subst (λ (p : PublisherValue). IsAt p.pass c.args.consumer.now) (sym c.pass.view_is) c.requires.consumer) c.look-word.result c.look-word.ensures.told (ap (λ (p : PublisherValue). p.pass.identity) c.pass.view_is ∙ c.requires.fits.identity ∙ sym (ap (λ (l : LogValue). l.identity) c.self.view_is) ∙ sym c.self.invariant.identity_is) (omega (arith, not)) c.copy_part.new.seat.me c.give_back.new.seat.me c.copy_part.ensures.seat.2 c.give_back.ensures.told x f is among there in
    let part = found_part c.parts_are_found.ensures c.self.inside.memory.table.shared.key (subst (λ (i : Identity). IsGeometry i.geometry) (sym c.self.invariant.identity_is) c.self.invariant.geometry) c.args.consumer.now c.pass.inside.seat.me c.look-word.new.seat.me (subst (λ (p : PublisherValue). IsAt p.pass c.args.consumer.now) (sym c.pass.view_is) c.requires.consumer) c.look-word.result c.look-word.ensures.told (ap (λ (p : PublisherValue). p.pass.identity) c.pass.view_is ∙ c.requires.fits.identity ∙ sym (ap (λ (l : LogValue). l.identity) c.self.view_is) ∙ sym c.self.invariant.identity_is) (omega (arith, not)) in
    copied_all t f c.args.consumer.now.position c.args.consumer.now.number c.part_in-count.result _ c.look-word.new.seat.me.1 c.args.bytes.now c.copy_part.new.into _ c.part_in-count.ensures (part_low (head_by c.args.consumer.now.position (to_le_bytes w64 c.look-word.result)) (length c.args.bytes.now)).1 c.copy_part.ensures.copied there (subst (λ (y : FrameWords). HasPart t y c.args.consumer.now.number c.look-word.new.seat.me.1) (sym one) part) refl
