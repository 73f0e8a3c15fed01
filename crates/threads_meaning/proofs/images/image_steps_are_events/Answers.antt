use Rattle.threads_meaning.proofs.Imaged.{moves_are_events, opens_image, steps_are_events, steps_have_kinds}
use Rattle.threads_meaning.proofs.images.image_steps_are_events.Goals as goal

pub returns-clause-opens : goal.returns-clause-opens
returns-clause-opens c = opens_image

pub returns-clause-steps : goal.returns-clause-steps
returns-clause-steps c = steps_are_events

pub returns-clause-moves : goal.returns-clause-moves
returns-clause-moves c = moves_are_events

pub returns-clause-kinds : goal.returns-clause-kinds
returns-clause-kinds c = steps_have_kinds c.steps_are_events.ensures
