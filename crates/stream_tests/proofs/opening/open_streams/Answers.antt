use Rattle.stream_tests.proofs.Unread.{new_unread}
use Rattle.stream_tests.proofs.opening.open_streams.Goals as goal

pub parties_of-requires-clause-readers : goal.parties_of-requires-clause-readers
parties_of-requires-clause-readers c = new_unread _ 0 _ c.in_ok-log.ensures.parts.readers_are c.in_ok-log.ensures.parts.of_log
