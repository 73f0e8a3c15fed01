use Rattle.std.proofs.Common.{◌≡◌, ◌-◌, ◌≤◌, ℕ, max, ap, subst, ◌∙◌}
use Rattle.theory.specs.Bytes.{Identity}
use Rattle.theory.specs.Position.{Geometry, max_position}
use Rattle.shared_log.proofs.Cleaning.{all_done, low_end}
use Rattle.shared_log.proofs.keeper.clean_and_limit.Goals as goal

pub clean_to-requires-clause-low : goal.clean_to-requires-clause-low
clean_to-requires-clause-low c =
    let shape : c.geometry.result ≡ c.args.log.now.identity.geometry = c.geometry.ensures.value ∙ ap (λ (i : Identity). i.geometry) c.identity.ensures.is in
    let length_is : c.from-length.result ≡ c.args.log.now.identity.geometry.term_length = c.from-length.ensures ∙ c.term_length.ensures.value ∙ ap (λ (g : Geometry). g.term_length) shape in
    let end : c.max.result ≡ max c.args.log.now.start (c.sweep-least.result - c.args.log.now.identity.geometry.term_length) = c.max.ensures ∙ (λ i. max (c.start.ensures.is i) (c.saturating_sub.ensures i)) ∙ ap (λ (n : ℕ). max c.args.log.now.start (c.sweep-least.result - n)) length_is in
    low_end c.args.log.now.identity.geometry c.args.log.now.start c.sweep-least.result c.max.result c.identity.ensures.legal c.start.ensures.low (subst (λ (i : Identity). c.sweep-least.result ≤ max_position i.geometry) c.requires.identity c.sweep-least.ensures.stands.low) end

pub returns-clause-done : goal.returns-clause-done
returns-clause-done c =
    let shape : c.geometry.result ≡ c.args.log.now.identity.geometry = c.geometry.ensures.value ∙ ap (λ (i : Identity). i.geometry) c.identity.ensures.is in
    let length_is : c.from-length.result ≡ c.args.log.now.identity.geometry.term_length = c.from-length.ensures ∙ c.term_length.ensures.value ∙ ap (λ (g : Geometry). g.term_length) shape in
    let end : c.max.result ≡ max c.args.log.now.start (c.sweep-least.result - c.args.log.now.identity.geometry.term_length) = c.max.ensures ∙ (λ i. max (c.start.ensures.is i) (c.saturating_sub.ensures i)) ∙ ap (λ (n : ℕ). max c.args.log.now.start (c.sweep-least.result - n)) length_is in
    all_done c.args.log.now c.args.keeper.now c.sweep-least.new.keeper c.clean_to.new.keeper c.raise.new.keeper c.sweep-least.result c.max.result c.requires c.sweep-least.ensures c.clean_to.ensures end c.raise.ensures.keeps c.raise.ensures.freed c.raise.ensures.steps
