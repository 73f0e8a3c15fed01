use Rattle.std.proofs.Common.{◌≡◌, sym, ap, ◌∙◌, arith}
use Rattle.publication.specs.declared.pass.Pass.{Pass}
use Rattle.log_rule.specs.Shares.{claimed_bytes}
use Rattle.shared_log.specs.Steps.Handles.{LogId}
use Rattle.shared_log.proofs.Owned.{owns_all}
use Rattle.shared_log.proofs.opening.open_whole.Goals as goal

pub invariant_of-whole : goal.invariant_of-whole
invariant_of-whole c =
    let e = c.in_ok-log.ensures.pass in let v : Pass = c.in_ok-log.pass.pass in
    let parts : v.right.parts ≡ 1024 = ap (λ (p : Pass). p.right.parts) e.pass in let number : v.number ≡ 7 = ap (λ (p : Pass). p.number) e.pass in record {
      publishing = record { owns = owns_all v number parts; parts = omega (arith, parts); number_is = sym number; share_is = sym (ap claimed_bytes e.pass) };
      home_is = c.in_ok-log.ensures.home ∙ ap (λ (x : LogId). x.region) (sym e.of.table);
      freed_is = sym (e.freed ∙ c.in_ok-log.ensures.log.start_is);
      identity_is = sym (ap (λ (p : Pass). p.identity) e.pass ∙ c.in_ok-log.ensures.log.identity_is);
      start_is = sym (ap (λ (p : Pass). p.start) e.pass ∙ c.in_ok-log.ensures.log.start_is);
    }
