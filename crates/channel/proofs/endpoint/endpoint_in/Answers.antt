use Rattle.std.proofs.Common.{subst, sym}
use Rattle.channel.specs.Values.{IsPositive}
use Rattle.channel.proofs.Addresses.{cut_is, if_none, not_cut}
use Rattle.channel.proofs.endpoint.endpoint_in.Goals as goal

pub returns-in_err-host-clause-none : goal.returns-in_err-host-clause-none
returns-in_err-host-clause-none c = if_none c.from_residual.result _ (λ e is. not_cut c.args.value.now e c.in_err-host.ensures.none is)

pub returns-in_err-host-2-clause-none : goal.returns-in_err-host-2-clause-none
returns-in_err-host-2-clause-none c =
    if_none c.from_residual-in_err-host-2.result _ (λ e is. c.in_err-host-2.ensures.none e.host (cut_is _ _ _ e c.in_ok-host.ensures.cut is).0)

pub returns-in_err-port-clause-none : goal.returns-in_err-port-clause-none
returns-in_err-port-clause-none c =
    if_none c.from_residual-in_err-port.result _ (λ e is. (
    let port = (cut_is _ _ _ e c.in_ok-host.ensures.cut is).1 in
    c.in_err-port.ensures.none e.port (subst (λ ds. IsPositive 65535 ds e.port) (sym c.as_bytes.ensures.value) port)))
