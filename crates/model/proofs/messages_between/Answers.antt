use Rattle.model.proofs.Messages.{gives_messages}
use Rattle.model.proofs.Shorts.{always_short}
use Rattle.model.proofs.messages_between.Goals as goal

pub returns-clause-given : goal.returns-clause-given
returns-clause-given c = gives_messages

pub returns-clause-short : goal.returns-clause-short
returns-clause-short c = always_short
