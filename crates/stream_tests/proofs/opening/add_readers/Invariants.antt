use Rattle.std.proofs.Common.{length}
use Rattle.std.specs.List.{AllByRecursion}
use Rattle.stream_tests.specs.Parties.{IsParty, IsUnread}
use Rattle.stream_tests.proofs.opening.add_readers.Given as goal

abbrev pub invariant-loop-reader : goal.invariant-loop-reader
invariant-loop-reader l = AllByRecursion (IsUnread l.log) l.readers.items × AllByRecursion (IsParty l.log) l.parties.items

abbrev pub decreases-loop-reader : goal.decreases-loop-reader
decreases-loop-reader l = length l.readers.items
