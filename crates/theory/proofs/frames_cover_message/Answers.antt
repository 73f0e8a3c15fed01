use Rattle.theory.proofs.Claims.{covers_framed, claim_bounded}
use Rattle.theory.proofs.Holds.{holds_bytes}
use Rattle.theory.proofs.frames_cover_message.Goals as goal

pub returns-clause-covers : goal.returns-clause-covers
returns-clause-covers c = covers_framed

pub returns-clause-holds : goal.returns-clause-holds
returns-clause-holds c = holds_bytes

pub returns-clause-bounded : goal.returns-clause-bounded
returns-clause-bounded c = claim_bounded
