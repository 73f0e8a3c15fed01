use Rattle.std.proofs.Common.{◌≡◌, ℕ, suc, ◌+◌, ◌-◌, ◌*◌, ◌≤◌, sym, ap, ◌∙◌, subst, arith}
use Rattle.publication.specs.declared.pass.Pass.{Pass}
use Rattle.log_rule.specs.Claims.Plays.{dealer, newcomer}
use Rattle.log_rule.specs.Shares.{claimed_bytes}
use Rattle.shared_log.specs.Steps.Handles.{LogValue, PublisherValue}
use Rattle.shared_log.specs.Handles.{OwnsClaims}
use Rattle.shared_log.proofs.Dealt.{dealer_is, owns_dealer}
use Rattle.shared_log.proofs.Holding.{publisher_kept}
use Rattle.shared_log.proofs.parts.deal_publisher.Goals as goal

-- who deals has what a publisher with the number below has
left_is : (c : goal.After-handle-1) → c.deal_publisher-dealt.new.pass.pass ≡ newcomer c.args.log.now.identity c.args.log.now.start (c.args.pass.now.pass.number - 1) (120 * (c.args.pass.now.pass.number - 1) + 176)
left_is c =
    let l : LogValue = c.args.log.now in let k : ℕ = c.args.pass.now.pass.number in let some = c.requires.number in
    let vi = ap (λ (p : PublisherValue). p.pass) c.pass.view_is ∙ c.requires.dealer.1.pass_is in let below : k ≡ suc (k - 1) = omega (arith, some) in
    ap (λ (p : PublisherValue). p.pass) c.deal_publisher-dealt.ensures.left ∙ ap dealer (vi ∙ ap (λ (n : ℕ). newcomer l.identity l.start n (120 * n + 176)) below) ∙ dealer_is l.identity l.start (k - 1)

pub invariant_of-pass : goal.invariant_of-pass
invariant_of-pass c =
    let l : LogValue = c.args.log.now in let k : ℕ = c.args.pass.now.pass.number in let low = c.requires.dealer.0 in let left = c.deal_publisher-dealt.ensures.left in let is = left_is c in
    let vi = ap (λ (p : PublisherValue). p.pass) c.pass.view_is ∙ c.requires.dealer.1.pass_is in let was = c.pass.invariant.publishing in
    publisher_kept c.pass.invariant (ap (λ (p : PublisherValue). p.of) left) (ap (λ (p : PublisherValue). p.freed) left) (ap (λ (p : PublisherValue). p.pass.identity) left) (ap (λ (p : PublisherValue). p.pass.start) left) record {
      owns = subst (λ (p : Pass). OwnsClaims p) (sym is) (owns_dealer l.identity l.start (k - 1) (omega (arith, low)));
      parts = subst (λ (p : Pass). 120 ≤ p.right.parts) (sym is) (let q : 120 ≤ 120 * (k - 1) + 176 = omega arith in q);
      number_is = ap (λ (n : ℕ). n - 1) (was.number_is ∙ ap (λ (p : Pass). p.number) vi) ∙ sym (ap (λ (p : Pass). p.number) is);
      share_is = was.share_is ∙ sym (ap (λ (p : PublisherValue). claimed_bytes p.pass) left);
    }

pub returns-clause-dealer : goal.returns-clause-dealer
returns-clause-dealer c =
    let l : LogValue = c.args.log.now in let low = c.requires.dealer.0 in let d = c.requires.dealer.1 in let left = c.deal_publisher-dealt.ensures.left in let is = left_is c in let number = ap (λ (p : Pass). p.number) is in (
      omega (arith, low, number),
      record {
        of = record { table = ap (λ (p : PublisherValue). p.of) left ∙ ap (λ (p : PublisherValue). p.of) c.pass.view_is ∙ d.of.table; identity = ap (λ (p : Pass). p.identity) is; start = ap (λ (p : Pass). p.start) is };
        pass_is = is ∙ ap (λ (n : ℕ). newcomer l.identity l.start n (120 * n + 176)) (sym number);
        steps = ap (λ (p : PublisherValue). p.steps) left ∙ ap (λ (p : PublisherValue). p.steps) c.pass.view_is ∙ d.steps;
        sure = ap (λ (p : PublisherValue). p.sure) left;
      },
    )
