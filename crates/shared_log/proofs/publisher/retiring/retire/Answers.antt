use Rattle.std.proofs.Common.{◌≡◌, ◌+◌, ◌^◌, ◌<◌, ◌≤◌, sym, ap, ◌∙◌, subst, arith}
use Rattle.theory.specs.Bytes.{Identity}
use Rattle.publication.specs.declared.pass.Pass.{Pass}
use Rattle.log_rule.specs.Claims.Closing.{handed_over, renamed}
use Rattle.log_rule.specs.Shares.{claimed_bytes}
use Rattle.shared_log.specs.Steps.Handles.{PublisherValue}
use Rattle.shared_log.specs.Handles.{OwnsClaims}
use Rattle.shared_log.proofs.Holding.{publisher_kept}
use Rattle.shared_log.proofs.Owned.{handed_share, owns_handed, renamed_share}
use Rattle.shared_log.proofs.Shares.{low_both}
use Rattle.shared_log.proofs.publisher.retiring.retire.Goals as goal

share_is : (c : goal.After-weigh) → c.share-share.result ≡ claimed_bytes c.other.inside.handle.pass.pass
share_is c = c.share-share.ensures ∙ ap (λ (p : PublisherValue). claimed_bytes p.pass) (sym c.other.view_is)

pub overflow_add-publisher : goal.overflow_add-publisher
overflow_add-publisher c =
    let a : Pass = c.publisher.inside.handle.pass.pass in let b : Pass = c.other.inside.handle.pass.pass in
    let shape : a.identity ≡ c.args.log.now.identity = ap (λ (p : PublisherValue). p.pass.identity) c.publisher.view_is ∙ c.requires.publisher.of.identity in
    let low : c.publisher.inside.share + c.share-share.result < 2 ^ 64 = low_both c.args.log.now.identity.geometry c.identity.ensures.legal a (renamed a.number b) c.take_over.new.pass.pass c.weigh.new.pass.pass c.take_over.ensures.pass (ap (λ (i : Identity). i.geometry) shape) c.weigh.ensures.weighs c.publisher.inside.share c.share-share.result c.publisher.invariant.publishing.share_is (share_is c ∙ sym (renamed_share a.number b)) in omega (arith, low)

pub invariant_of-publisher : goal.invariant_of-publisher
invariant_of-publisher c =
    let a : Pass = c.publisher.inside.handle.pass.pass in let b : Pass = c.other.inside.handle.pass.pass in let is_a = c.publisher.invariant.publishing in let parts = is_a.parts in
    let is : c.weigh.new.pass.pass ≡ handed_over a b = c.weigh.ensures.weighs.same ∙ c.take_over.ensures.pass in
    publisher_kept c.publisher.invariant (c.weigh.ensures.seat.of ∙ c.take_over.ensures.of) (c.weigh.ensures.seat.freed ∙ c.take_over.ensures.freed) (ap (λ (v : Pass). v.identity) is) (ap (λ (v : Pass). v.start) is) record {
      owns = subst (λ (v : Pass). OwnsClaims v) (sym is) (owns_handed a b is_a.owns);
      parts = subst (λ (v : Pass). 120 ≤ v.right.parts) (sym is) (let le : 120 ≤ a.right.parts + b.right.parts = omega arith in le);
      number_is = is_a.number_is ∙ ap (λ (v : Pass). v.number) (sym is);
      share_is = (λ i. is_a.share_is i + share_is c i) ∙ sym (ap claimed_bytes is ∙ handed_share a b);
    }
