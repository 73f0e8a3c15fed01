use Rattle.image.proofs.Events.{beats_are_events, inserts_are_events}
use Rattle.image.proofs.law.calls_are_events.Goals as goal

pub returns-clause-inserts : goal.returns-clause-inserts
returns-clause-inserts c = inserts_are_events

pub returns-clause-beats : goal.returns-clause-beats
returns-clause-beats c = beats_are_events
