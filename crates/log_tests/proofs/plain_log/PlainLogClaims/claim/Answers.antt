use Rattle.std.proofs.Common.{arith}
use Rattle.log_tests.proofs.plain_log.PlainLogClaims.claim.Goals as goal

pub admit-requires-clause-short : goal.admit-requires-clause-short
admit-requires-clause-short c =
    let short = c.requires.short in let within = c.is_whole.ensures.geometry.mtu.within in let greatest = c.is_whole.ensures.geometry.term.greatest in
    omega (arith, short, within, greatest)
