use Rattle.std.proofs.Common.{◌≡◌, ◌≤◌, ◌<◌, ◌+◌, length, vec_len, rules, arith}
use Rattle.std.proofs.lemmas.Result.{err_from_is_err_and}
use Rattle.commands.proofs.Taken.{takes_few, takes_many}
use Rattle.commands.proofs.script_command.text_of.Goals as goal

pub returns-then-count-len-clause-fault : goal.returns-then-count-len-clause-fault
returns-then-count-len-clause-fault g c =
    let there : c.in-Ok.count ≤ length c.read.new.buf = search rules in
    let size : length c.loop-turn.text.items ≡ vec_len c.loop-turn.text = search rules in
    let many : 1048576 < length c.loop-turn.text.items + c.in-Ok.count = omega (arith, size) in
    takes_many _ _ _ c.loop-turn.text.items c.read.new.buf c.in-Ok.count there many c.loop-turn.invariant.taken c.in-Ok.ensures.bytes.0

pub returns-in_err-extend_from_slice-clause-fault : goal.returns-in_err-extend_from_slice-clause-fault
returns-in_err-extend_from_slice-clause-fault g c =
    let there : c.in-Ok.count ≤ length c.read.new.buf = search rules in
    let size : length c.loop-turn.text.items ≡ vec_len c.loop-turn.text = search rules in
    let few : length c.loop-turn.text.items + c.in-Ok.count ≤ 1048576 = omega (arith, size) in
    let p = err_from_is_err_and c.from_residual.result c.from_residual.ensures.1 in
    rw (p.1, p.2) (takes_few _ _ _ c.loop-turn.text.items c.read.new.buf c.in-Ok.count there few c.loop-turn.invariant.taken c.in-Ok.ensures.bytes.0)
