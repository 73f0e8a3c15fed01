-- What is kept holds of an opened world and after each event, and gives each clause.
use Rattle.theory.proofs.Places.{power_half}
use Rattle.model.proofs.WorldSteps.{opened, every, tiled, in_bounds, rebuilt, polled}
use Rattle.model.proofs.Behind.{readable}
use Rattle.model.proofs.Room.{has_room}
use Rattle.model.proofs.Wired.{published, sent_spelled}
use Rattle.model.proofs.every_run.Goals as goal

pub returns-clause-tiles : goal.returns-clause-tiles
returns-clause-tiles c = λ w v events o run. tiled v (every events w v (opened w o) run)

pub returns-clause-rebuilt : goal.returns-clause-rebuilt
returns-clause-rebuilt c = λ w v events o run. rebuilt v (every events w v (opened w o) run)

pub returns-clause-bounds : goal.returns-clause-bounds
returns-clause-bounds c = λ w v events o run. in_bounds v (every events w v (opened w o) run)

pub returns-clause-polled : goal.returns-clause-polled
returns-clause-polled c = λ w v events o run. polled v (every events w v (opened w o) run)

pub returns-clause-room : goal.returns-clause-room
returns-clause-room c = has_room

pub returns-clause-readable : goal.returns-clause-readable
returns-clause-readable c = λ w v events o run. readable w v events o run (power_half w.log.identity.geometry.term_length o.geometry.term.power o.geometry.term.least)

pub returns-clause-entries : goal.returns-clause-entries
returns-clause-entries c = published

pub returns-clause-spelled : goal.returns-clause-spelled
returns-clause-spelled c = sent_spelled
