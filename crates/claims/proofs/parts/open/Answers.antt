use Rattle.claims.proofs.Newcomers.{new_of, new_rest}
use Rattle.claims.proofs.parts.open.Goals as goal

pub with_blocks-requires-clause-of : goal.with_blocks-requires-clause-of
with_blocks-requires-clause-of c = new_of _ _ _ c.in_ok-log.ensures.parts.publishers_are

pub with_blocks-requires-clause-rest : goal.with_blocks-requires-clause-rest
with_blocks-requires-clause-rest c = new_rest _ _ _ c.in_ok-log.ensures.parts.publishers_are
