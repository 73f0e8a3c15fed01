use Rattle.std.proofs.Common.{◌≡◌, ℕ, ◌<◌, List, ap, sym, subst, ◌∙◌, arith}
use Rattle.log_rule.specs.Claims.Plays.{newcomer}
use Rattle.log_rule.specs.Keepings.{newly}
use Rattle.log_rule.specs.Table.{first_reading, other_readings, reader_alone}
use Rattle.publication.specs.declared.pass.Pass.{Pass}
use Rattle.publication.specs.declared.pass.Reading.{Reading}
use Rattle.shared_log.specs.Steps.Handles.{LogValue, PublisherValue}
use Rattle.shared_log.specs.Readers.{IsReading}
use Rattle.shared_log.proofs.Dealt.{dealing_on, next_is}
use Rattle.shared_log.proofs.Joined.{alone_reading}
use Rattle.shared_log.proofs.parts.deal_reader.Goals as goal

given : (c : goal.After-identity) → c.deal_reader.result.pass ≡ reader_alone c.args.log.now.identity c.args.log.now.start (newly c.args.number c.args.log.now.start)
given c =
    let l : LogValue = c.args.log.now in let vi = ap (λ (p : PublisherValue). p.pass) c.pass.view_is ∙ c.requires.dealing.pass_is in
    ap (λ (p : PublisherValue). p.pass) c.deal_reader.ensures.dealt ∙ ap (λ (p : Pass). record (newcomer p.identity p.start 0 0) { reading = first_reading p.reading }) vi
    ∙ ap (λ (rs : List Reading). record (newcomer l.identity l.start 0 0) { reading = first_reading rs }) (next_is l.start c.args.number l.consumers c.requires.inside)

pub invariant_of-result : goal.invariant_of-result
invariant_of-result c =
    let l : LogValue = c.args.log.now in let e : c.start-start.result ≡ l.start = c.start-start.ensures.is in record {
      reading = subst (λ (n : ℕ). IsReading c.deal_reader.result.pass 0 c.args.number n n) (sym e) (alone_reading _ l.identity l.start c.args.number l.start (given c) (let low = c.requires.below in omega (arith, low)));
      home_is = λ some. absurd (no (subst (λ (n : ℕ). 0 < n) (ap (λ (v : Pass). v.right.parts) (given c)) some));
      freed_is = c.pass.invariant.freed_is ∙ sym (ap (λ (p : PublisherValue). p.freed) c.deal_reader.ensures.dealt);
      identity_is = c.identity.ensures.is ∙ sym (ap (λ (v : Pass). v.identity) (given c));
      start_is = e ∙ sym (ap (λ (v : Pass). v.start) (given c));
    }
  where
    no : 0 < 0 → ⊥
    no lt = omega arith

pub returns-clause-dealing : goal.returns-clause-dealing
returns-clause-dealing c =
    let left = c.deal_reader.ensures.left in let pv : c.pass.inside.handle.pass ≡ c.args.pass.now = c.pass.view_is in
    dealing_on c.args.log.now c.args.number c.args.pass.now _ c.requires.dealing c.requires.inside (ap (λ (p : PublisherValue). p.of) left ∙ ap (λ (p : PublisherValue). p.of) pv)
    (ap (λ (p : PublisherValue). p.pass) left ∙ ap (λ (p : PublisherValue). record p.pass { reading = other_readings p.pass.reading }) pv) (ap (λ (p : PublisherValue). p.steps) left ∙ ap (λ (p : PublisherValue). p.steps) pv) (ap (λ (p : PublisherValue). p.sure) left ∙ ap (λ (p : PublisherValue). p.sure) pv ∙ c.requires.dealing.sure)
