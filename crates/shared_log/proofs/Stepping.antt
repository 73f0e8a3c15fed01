-- A keeper's steps are allowed, and what is left of it.
use Rattle.std.proofs.Common.{◌≡◌, ap, ◌∙◌}
use Rattle.publication.specs.declared.pass.Controls.{Controls}
use Rattle.publication.specs.declared.pass.Keeping.{Keeping}
use Rattle.publication.specs.declared.pass.Pass.{Pass}
use Rattle.log_rule.specs.Keepings.{with_keeping}
use Rattle.shared_log.specs.Keepers.{KeepsAs, KeeperValue}

-- ---- what is left

pub keeps_then : {k p q : KeeperValue} {a b : Keeping} → KeepsAs k a p → KeepsAs p b q → KeepsAs k b q
keeps_then {k = k} {a = a} {b = b} x y = record {
  of = y.of ∙ x.of;
  seat = y.seat ∙ x.seat;
  pass = y.pass ∙ ap (λ (v : Pass). with_keeping v b) x.pass;
  sure = y.sure ∙ x.sure;
  controls = λ one. y.controls (x.sure ∙ one) ∙ ap (λ (c : Controls). record c { limit = b.limit }) (x.controls one);
  limit = y.limit;
  cleaned = y.cleaned;
}

pub keeping_is : {k q : KeeperValue} {a : Keeping} → KeepsAs k a q → q.held.pass.keeping ≡ a
keeping_is x = ap (λ (v : Pass). v.keeping) x.pass
