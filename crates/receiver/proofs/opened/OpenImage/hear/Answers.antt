use Rattle.std.proofs.Common.{ap, sym, ◌∙◌, rules, FitsSigned, to_z, of_z, w64}
use Rattle.std.specs.Arc.{arc_value}
use Rattle.std.proofs.lemmas.Int.{to_z-of_z}
use Rattle.theory.specs.Control.{named_by}
use Rattle.frames.specs.Frames.{header_of}
use Rattle.image.specs.Rebuilding.{geometry_of}
use Rattle.receiver.proofs.Shown.{Accepts, beat_heard, beat_looks, beat_sees}
use Rattle.receiver.proofs.Rooms.{open_as}
use Rattle.receiver.proofs.opened.OpenImage.hear.Goals as goal

accepts : (c : goal.After-heartbeat) → Accepts c.self.inside.inserter c.heartbeat.new.inserter (to_z w64 (of_z w64 c.position_in-position.result)) c.heartbeat.result
accepts c = record { answer = c.heartbeat.ensures.answer; raised = c.heartbeat.ensures.raised; refused = c.heartbeat.ensures.refused }

pub returns-clause-heard : goal.returns-clause-heard
returns-clause-heard c =
    let fits : FitsSigned w64 c.position_in-position.result = search rules in
    let shape = c.geometry.ensures.value ∙ ap geometry_of (sym c.self.view_is) in
    let named = to_z-of_z w64 c.position_in-position.result fits ∙ c.position_in-position.ensures.named ∙ ap (λ g. named_by g (header_of c.args.header.now)) shape in
    rw (← c.self.view_is) (beat_heard c.self.inside.inserter c.heartbeat.new.inserter (header_of c.args.header.now) (to_z w64 (of_z w64 c.position_in-position.result)) c.heartbeat.result named (accepts c))

pub returns-clause-sees : goal.returns-clause-sees
returns-clause-sees c = rw (← c.self.view_is) (beat_sees c.self.inside.inserter c.heartbeat.new.inserter (to_z w64 (of_z w64 c.position_in-position.result)) c.heartbeat.result (accepts c))

pub invariant_of-self : goal.invariant_of-self
invariant_of-self c =
    let s = beat_sees c.self.inside.inserter c.heartbeat.new.inserter (to_z w64 (of_z w64 c.position_in-position.result)) c.heartbeat.result (accepts c) in
    open_as (arc_value c.self.inside.image) c.self.inside.inserter c.heartbeat.new.inserter c.self.inside.room c.self.invariant s.of s.key s.undealt

pub returns-clause-looks : goal.returns-clause-looks
returns-clause-looks c = rw (← c.self.view_is) (beat_looks c.self.inside.inserter c.heartbeat.new.inserter (to_z w64 (of_z w64 c.position_in-position.result)) c.heartbeat.result (accepts c))
