use Rattle.std.proofs.Common.{rules, FitsSigned, to_z, of_z, w32, w64, refl, ap, sym, ◌∙◌}
use Rattle.std.specs.Arc.{arc_value}
use Rattle.std.proofs.lemmas.Int.{to_z-of_z}
use Rattle.theory.specs.Control.{named_by}
use Rattle.frames.specs.Frames.{header_of}
use Rattle.image.specs.Stored.{stream_frame}
use Rattle.image.specs.Rebuilding.{geometry_of}
use Rattle.receiver.specs.contracts.receiver_core.ReceiverCore.{the_view}
use Rattle.receiver.specs.Receiving.{MeetsFrame}
use Rattle.receiver.specs.Representing.{Inserts, LooksOnce, SeesOn}
use Rattle.receiver.specs.declared.receiver_core.Outcome.TheVariants as outcomes
use Rattle.receiver.proofs.Meeting.{as_ids, core_on, frame_met, frame_missed, imaged, looks_image, not_mine, of_ours}
use Rattle.receiver.proofs.Rooms.{open_as}
use Rattle.receiver.proofs.Shown.{Answers, frame_inserted, frame_looks, frame_sees}
use Rattle.receiver.proofs.receiver_core.ReceiverCore.on_stored.Goals as goal

pub returns-then-not-is_mine-clause-met : goal.returns-then-not-is_mine-clause-met
returns-then-not-is_mine-clause-met c =
    let session : FitsSigned w32 c.args.header.now.session = search rules in
    let stream : FitsSigned w32 c.args.header.now.stream = search rules in
    not_mine c.args.self.now c.args.header.now.session c.args.header.now.stream c.is_mine.result (λ r s. MeetsFrame r.image r (header_of c.args.header.now) (stream_frame c.args.frame.now) outcomes.Other s) (as_ids c.args.self.now c.is_mine.result _ _ session stream c.is_mine.ensures) c.if-not-is_mine.true

pub returns-in-None-clause-met : goal.returns-in-None-clause-met
returns-in-None-clause-met c =
    let session : FitsSigned w32 c.args.header.now.session = search rules in
    let stream : FitsSigned w32 c.args.header.now.stream = search rules in
    of_ours c.args.self.now _ c.args.header.now.session c.args.header.now.stream (λ r s. MeetsFrame r.image r (header_of c.args.header.now) (stream_frame c.args.frame.now) outcomes.Asked s) outcomes.Asked ((as_ids c.args.self.now c.is_mine.result _ _ session stream c.is_mine.ensures).0 c.if-not-is_mine.false)
    (rw (← c.self.view_is) (frame_missed _ (header_of c.args.header.now) (stream_frame c.args.frame.now) c.in-None.is))

answers : (c : goal.After-insert) → Answers c.opened.inside.inserter c.insert.new.inserter (to_z w64 (of_z w64 c.position_in-position.result)) (stream_frame c.args.frame.now) c.insert.result
answers c = record { answer = c.insert.ensures.answer; stored = c.insert.ensures.stored; others = c.insert.ensures.others }

sees : (c : goal.After-insert) → SeesOn c.in-Some.opened c.insert.new.inserter
sees c = rw (← c.opened.view_is) (frame_sees c.opened.inside.inserter c.insert.new.inserter (to_z w64 (of_z w64 c.position_in-position.result)) (stream_frame c.args.frame.now) c.insert.result (answers c))

inserts : (c : goal.After-insert) → Inserts c.in-Some.opened (header_of c.args.header.now) (stream_frame c.args.frame.now) c.insert.result c.insert.new.inserter
inserts c =
    let fits : FitsSigned w64 c.position_in-position.result = search rules in
    let shape = c.geometry.ensures.value ∙ ap geometry_of (sym c.opened.view_is) in
    let named = to_z-of_z w64 c.position_in-position.result fits ∙ c.position_in-position.ensures.named ∙ ap (λ g. named_by g (header_of c.args.header.now)) shape in
    rw (← c.opened.view_is) (frame_inserted c.opened.inside.inserter c.insert.new.inserter (header_of c.args.header.now) (to_z w64 (of_z w64 c.position_in-position.result)) (stream_frame c.args.frame.now) c.insert.result named (answers c))

pub invariant_of-opened : goal.invariant_of-opened
invariant_of-opened c =
    let s = frame_sees c.opened.inside.inserter c.insert.new.inserter (to_z w64 (of_z w64 c.position_in-position.result)) (stream_frame c.args.frame.now) c.insert.result (answers c) in
    open_as (arc_value c.opened.inside.image) c.opened.inside.inserter c.insert.new.inserter c.opened.inside.room c.opened.invariant s.of s.key s.undealt

pub invariant_of-self-in-Some : goal.invariant_of-self-in-Some
invariant_of-self-in-Some c = core_on (the_view c.self.inside) _ _ c.insert.new.inserter c.self.invariant c.in-Some.is (sees c) refl refl refl refl refl

pub returns-in-Some-clause-met : goal.returns-in-Some-clause-met
returns-in-Some-clause-met c =
    let session : FitsSigned w32 c.args.header.now.session = search rules in
    let stream : FitsSigned w32 c.args.header.now.stream = search rules in
    of_ours c.args.self.now _ c.args.header.now.session c.args.header.now.stream (λ r s. MeetsFrame r.image r (header_of c.args.header.now) (stream_frame c.args.frame.now) (outcomes.Inserted c.insert.result) s) (outcomes.Inserted c.insert.result) ((as_ids c.args.self.now c.is_mine.result _ _ session stream c.is_mine.ensures).0 c.if-not-is_mine.false)
    (rw (← c.self.view_is) (frame_met _ _ c.insert.new.inserter (header_of c.args.header.now) (stream_frame c.args.frame.now) c.insert.result c.in-Some.is (sees c) (inserts c)))

pub returns-in-Some-clause-looks : goal.returns-in-Some-clause-looks
returns-in-Some-clause-looks c = λ ours.
    let once : LooksOnce c.in-Some.opened c.insert.new.inserter = rw (← c.opened.view_is) (frame_looks c.opened.inside.inserter c.insert.new.inserter (to_z w64 (of_z w64 c.position_in-position.result)) (stream_frame c.args.frame.now) c.insert.result (answers c)) in
    rw (← c.self.view_is) (looks_image (the_view c.self.inside) (imaged (the_view c.self.inside) c.insert.new.inserter) _ c.insert.new.inserter c.in-Some.is refl once)
