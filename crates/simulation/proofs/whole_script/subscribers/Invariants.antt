use Rattle.std.proofs.Common.{◌≡◌, vec_len}
use Rattle.simulation.proofs.Listened.{FirstListen}
use Rattle.simulation.proofs.whole_script.subscribers.Given as goal

abbrev pub invariant-loop-number : goal.invariant-loop-number
invariant-loop-number l =
    (vec_len l.subscribers ≡ l.number)
    × FirstListen (record { geometry = l.geometry; session = l.log.session; stream = l.log.stream }) l.number l.subscribers.items
