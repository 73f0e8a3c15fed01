use Rattle.peer.proofs.Alone.{one, whole}
use Rattle.peer.proofs.attendance.one_from_the_start.Goals as goal

pub returns : goal.returns
returns c = λ start end silence linger wait messages. (one start end silence linger wait messages, whole start end silence linger wait messages)
