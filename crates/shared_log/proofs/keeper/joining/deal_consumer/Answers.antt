use Rattle.std.proofs.Common.{◌≡◌, ℕ, ◌<◌, ap, sym, subst, ◌∙◌, arith}
use Rattle.publication.specs.declared.pass.Pass.{Pass}
use Rattle.log_rule.specs.Claims.Plays.{newcomer}
use Rattle.log_rule.specs.Keepings.{newly}
use Rattle.log_rule.specs.Table.{first_reading, reader_alone}
use Rattle.shared_log.specs.Steps.Handles.{PublisherValue}
use Rattle.shared_log.specs.Keepers.{KeeperValue}
use Rattle.shared_log.proofs.Joined.{alone_reading}
use Rattle.shared_log.proofs.keeper.joining.deal_consumer.Goals as goal

-- the new pass
given : (c : goal.After-start) → c.deal_reader-pass.result.pass ≡ reader_alone c.args.log.now.identity c.args.log.now.start (newly c.args.number c.args.position)
given c =
    let same : c.keeper.inside.handle.pass.pass ≡ c.args.keeper.now.held.pass = ap (λ (k : KeeperValue). k.held.pass) c.keeper.view_is in
    ap (λ (p : PublisherValue). p.pass) c.deal_reader-pass.ensures.dealt ∙ ap (λ (p : Pass). record (newcomer p.identity p.start 0 0) { reading = first_reading p.reading }) same
    ∙ (λ i. record (newcomer (c.requires.fits.identity i) (c.requires.fits.start i) 0 0) { reading = first_reading (c.requires.first i) })

pub invariant_of-result : goal.invariant_of-result
invariant_of-result c = record {
  reading = alone_reading _ c.args.log.now.identity c.args.log.now.start c.args.number c.args.position (given c) c.requires.low;
  home_is = λ some. absurd (no (subst (λ (n : ℕ). 0 < n) (ap (λ (v : Pass). v.right.parts) (given c)) some));
  freed_is = c.keeper.invariant.freed_is ∙ sym (ap (λ (p : PublisherValue). p.freed) c.deal_reader-pass.ensures.dealt);
  identity_is = c.identity.ensures.is ∙ sym (ap (λ (p : Pass). p.identity) (given c));
  start_is = c.start.ensures.is ∙ sym (ap (λ (p : Pass). p.start) (given c));
}
  where
    no : 0 < 0 → ⊥
    no lt = omega arith
