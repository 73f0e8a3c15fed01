use Rattle.std.proofs.Common.{◌<◌, length, arith}
use Rattle.std.proofs.lemmas.Bool.Decides.{nat_tests}
use Rattle.script.proofs.Words.{message_read, none_read}
use Rattle.script.proofs.values.message_bytes.Goals as goal

pub returns-then-is_empty : goal.returns-then-is_empty
returns-then-is_empty c = none_read c.args.digits.now (grind (arith, nat_tests))

pub returns : goal.returns
returns c =
    let some : 0 < length c.args.digits.now = grind (arith, nat_tests) in
    message_read (λ bytes. bytes.items) c.args.digits.now c.hexadecimal.result some c.hexadecimal.ensures.found c.hexadecimal.ensures.only
