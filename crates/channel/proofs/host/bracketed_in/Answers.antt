use Rattle.std.proofs.Common.{sym, subst}
use Rattle.std.specs.Net.Grammar.{IsIpv6Text}
use Rattle.channel.proofs.Addresses.{bracketed_is}
use Rattle.channel.proofs.host.bracketed_in.Goals as goal

pub returns-in-Err-clause-none : goal.returns-in-Err-clause-none
returns-in-Err-clause-none c = λ a is. c.in-Err.ensures a (subst (λ t. IsIpv6Text t a) (sym c.as_bytes.ensures.value) (bracketed_is c.args.text.now c.in_ok-inner.inner.now a c.in_ok-inner.ensures.found is))
