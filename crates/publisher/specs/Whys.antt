-- The lines that say why a publisher ends short.
use Rattle.std.specs.Prelude.{◌≡◌, Option, None, Some, Result, Ok, Err}
use Rattle.std.specs.declared.net.SocketAddr.{SocketAddr}
use Rattle.peer.specs.declared.attendance.Ending.{Ending}
use Rattle.peer.specs.declared.attendance.Ending.TheVariants.{Whole, Short}
use Rattle.publisher.specs.declared.fault.PublishFault.{PublishFault}
use Rattle.publisher.specs.declared.judging.Judged.{Judged}
use Rattle.publisher.specs.declared.telling.Shortfall.{Shortfall}
use Rattle.publisher.specs.declared.telling.Shortfall.TheVariants.{Elsewhere, Unclosed}
use Rattle.publisher.specs.declared.telling.ToldShortfall.{ToldShortfall}

-- the line about this peer was given, which says this
abbrev pub IsTold : SocketAddr → Shortfall → Option ToldShortfall → Type 0
IsTold peer shortfall None = ⊥
IsTold peer shortfall (Some told) = (told.peer ≡ peer) × (told.shortfall ≡ shortfall)

-- the line that was given as its sending was judged
abbrev pub told_by : Result Judged PublishFault → Option ToldShortfall
told_by (Ok judged) = judged.told
told_by (Err fault) = None

abbrev pub ElsewhereBy : SocketAddr → Result Ending PublishFault → Option ToldShortfall → Type 0
ElsewhereBy peer (Ok Whole) after = after ≡ None
ElsewhereBy peer (Ok Short) after = IsTold peer Elsewhere after
ElsewhereBy peer (Err fault) after = after ≡ None

-- where it ends short and no line was, one is now
abbrev pub SaysElsewhere : SocketAddr → Option ToldShortfall → Result Ending PublishFault → Option ToldShortfall → Type 0
SaysElsewhere peer None ending after = ElsewhereBy peer ending after
SaysElsewhere peer (Some told) ending after = after ≡ Some told

abbrev pub UnclosedBy : SocketAddr → Option ToldShortfall → Result Ending PublishFault → Option ToldShortfall → Type 0
UnclosedBy peer before (Ok Whole) after = after ≡ before
UnclosedBy peer before (Ok Short) after = IsTold peer Unclosed after
UnclosedBy peer before (Err fault) after = after ≡ before

-- where it was whole but for its log, which couldn't be closed, a line says so
abbrev pub SaysUnclosed : SocketAddr → Option ToldShortfall → Result Ending PublishFault → Result Ending PublishFault → Option ToldShortfall → Type 0
SaysUnclosed peer before (Ok Whole) ending after = UnclosedBy peer before ending after
SaysUnclosed peer before (Ok Short) ending after = after ≡ before
SaysUnclosed peer before (Err fault) ending after = after ≡ before
