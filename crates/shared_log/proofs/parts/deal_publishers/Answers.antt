use Rattle.std.proofs.Common.{◌≡◌, ℕ, ◌+◌, ◌*◌, ap, subst, refl, arith}
use Rattle.publication.specs.declared.pass.Pass.{Pass}
use Rattle.shared_log.specs.Steps.Handles.{LogValue, PublisherValue}
use Rattle.log_rule.specs.Claims.Plays.{newcomer}
use Rattle.shared_log.specs.Handles.{IsNew}
use Rattle.shared_log.specs.Parts.{IsFresh, IsNewPublisher}
use Rattle.shared_log.proofs.parts.deal_publishers.Goals as goal

new_1 : (l : LogValue) (k : ℕ) (p : PublisherValue) → k ≡ 1 → IsNewPublisher l k p → IsNew l 1 p
new_1 l k p e is = let x = subst (λ (m : ℕ). IsNewPublisher l m p) e is in record { of = x.of; pass = x.pass_is; steps = x.steps }

new_2 : (l : LogValue) (k : ℕ) (p : PublisherValue) → k ≡ 2 → IsNewPublisher l k p → IsNew l 2 p
new_2 l k p e is = let x = subst (λ (m : ℕ). IsNewPublisher l m p) e is in record { of = x.of; pass = x.pass_is; steps = x.steps }

new_3 : (l : LogValue) (k : ℕ) (p : PublisherValue) → k ≡ 3 → IsNewPublisher l k p → IsNew l 3 p
new_3 l k p e is = let x = subst (λ (m : ℕ). IsNewPublisher l m p) e is in record { of = x.of; pass = x.pass_is; steps = x.steps }

new_4 : (l : LogValue) (k : ℕ) (p : PublisherValue) → k ≡ 4 → IsNewPublisher l k p → IsNew l 4 p
new_4 l k p e is = let x = subst (λ (m : ℕ). IsNewPublisher l m p) e is in record { of = x.of; pass = x.pass_is; steps = x.steps }

new_5 : (l : LogValue) (k : ℕ) (p : PublisherValue) → k ≡ 5 → IsNewPublisher l k p → IsNew l 5 p
new_5 l k p e is = let x = subst (λ (m : ℕ). IsNewPublisher l m p) e is in record { of = x.of; pass = x.pass_is; steps = x.steps }

new_6 : (l : LogValue) (k : ℕ) (p : PublisherValue) → k ≡ 6 → IsNewPublisher l k p → IsNew l 6 p
new_6 l k p e is = let x = subst (λ (m : ℕ). IsNewPublisher l m p) e is in record { of = x.of; pass = x.pass_is; steps = x.steps }

new_7 : (l : LogValue) (k : ℕ) (p : PublisherValue) → k ≡ 7 → IsNewPublisher l k p → IsNew l 7 p
new_7 l k p e is = let x = subst (λ (m : ℕ). IsNewPublisher l m p) e is in record { of = x.of; pass = x.pass_is; steps = x.steps }

new_0 : (l : LogValue) (p : PublisherValue) → p.pass.number ≡ 0 → IsFresh l (newcomer l.identity l.start p.pass.number (120 * p.pass.number + 176)) p → IsNew l 0 p
new_0 l p e is = let x = subst (λ (m : ℕ). IsFresh l (newcomer l.identity l.start m (120 * m + 176)) p) e is in record { of = x.of; pass = x.pass_is; steps = x.steps }

pub returns : goal.returns
returns c =
    let l : LogValue = c.args.log.now in let n7 : c.args.last.pass.number ≡ 7 = ap (λ (v : Pass). v.number) c.requires.pass_is in
    let f6 = c.deal_publisher-seven.ensures.fewer in let n6 : c.deal_publisher-seven.new.pass.pass.number ≡ 6 = omega (arith, f6, n7) in
    let f5 = c.deal_publisher-six.ensures.fewer in let n5 : c.deal_publisher-six.new.pass.pass.number ≡ 5 = omega (arith, f5, n6) in
    let f4 = c.deal_publisher-five.ensures.fewer in let n4 : c.deal_publisher-five.new.pass.pass.number ≡ 4 = omega (arith, f4, n5) in
    let f3 = c.deal_publisher-four.ensures.fewer in let n3 : c.deal_publisher-four.new.pass.pass.number ≡ 3 = omega (arith, f3, n4) in
    let f2 = c.deal_publisher-three.ensures.fewer in let n2 : c.deal_publisher-three.new.pass.pass.number ≡ 2 = omega (arith, f2, n3) in
    let f1 = c.deal_publisher-two.ensures.fewer in let n1 : c.deal_publisher-two.new.pass.pass.number ≡ 1 = omega (arith, f1, n2) in
    let f0 = c.deal_publisher-one.ensures.fewer in let n0 : c.deal_publisher-one.new.pass.pass.number ≡ 0 = omega (arith, f0, n1) in
    (new_0 l c.deal_publisher-one.new.pass n0 c.deal_publisher-one.ensures.dealer.1, (new_1 l _ c.deal_publisher-one.result n1 c.deal_publisher-one.ensures.dealt, (new_2 l _ c.deal_publisher-two.result n2 c.deal_publisher-two.ensures.dealt, (new_3 l _ c.deal_publisher-three.result n3 c.deal_publisher-three.ensures.dealt, (new_4 l _ c.deal_publisher-four.result n4 c.deal_publisher-four.ensures.dealt, (new_5 l _ c.deal_publisher-five.result n5 c.deal_publisher-five.ensures.dealt, (new_6 l _ c.deal_publisher-six.result n6 c.deal_publisher-six.ensures.dealt, (new_7 l _ c.deal_publisher-seven.result n7 c.deal_publisher-seven.ensures.dealt, refl))))))))
