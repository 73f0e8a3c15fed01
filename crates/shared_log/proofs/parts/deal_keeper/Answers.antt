use Rattle.std.proofs.Common.{◌≡◌, map, ap, refl, sym, subst, ◌∙◌, arith}
use Rattle.std.proofs.lemmas.List.{length-replicate}
use Rattle.log_rule.specs.Claims.Plays.{newcomer}
use Rattle.log_rule.specs.Table.{first_there as first_flags, whole_pass}
use Rattle.log_rule.specs.declared.rule.Key.{Key}
use Rattle.log_rule.proofs.Beginning.{first_is}
use Rattle.publication.specs.declared.pass.Pass.{Pass}
use Rattle.shared_log.specs.Steps.Handles.{LogId, LogValue, PublisherValue}
use Rattle.shared_log.specs.Keepers.{IsKeeping, KnowsWho, flag_of}
use Rattle.shared_log.proofs.parts.deal_keeper.Goals as goal

pub first_there-there-requires : goal.first_there-there-requires
first_there-there-requires c = let few = c.consumers.ensures.some.1 in let e = c.consumers.ensures.is in omega (arith, few, e)

pub invariant_of-result : goal.invariant_of-result
invariant_of-result c =
    let l : LogValue = c.args.log.now in let key : Key = record { identity = l.identity; start = l.start; consumers = l.consumers } in let pv : c.pass.inside.handle.pass ≡ c.args.pass.now = c.pass.view_is in
    let vi = ap (λ (p : PublisherValue). p.pass) pv ∙ c.requires.pass.pass in let d = c.deal_keeper.ensures.dealt in
    let is : c.deal_keeper.result.pass ≡ record (newcomer l.identity l.start 0 8) { keeping = (whole_pass key).keeping } = ap (λ (p : PublisherValue). p.pass) d ∙ ap (λ (p : Pass). record (newcomer p.identity p.start 0 8) { keeping = p.keeping }) vi in
    let flags : map flag_of c.first_there-there.result ≡ first_flags l.consumers = c.first_there-there.ensures.flags ∙ ap first_flags c.consumers.ensures.is in record {
      keeping = subst (λ (p : Pass). IsKeeping p c.start-start.result c.start-start.result) (sym is) record { some = omega arith; keeper = refl; limit_is = sym c.start-start.ensures.is; cleaned_is = sym c.start-start.ensures.is };
      knows = subst (λ (p : Pass). KnowsWho p c.first_there-there.result) (sym is) record { many = c.first_there-there.ensures.many; flags = sym flags; eight = length-replicate 8 l.start; one = 0; low = omega arith; any = first_is l.consumers 0 c.consumers.ensures.some.0 };
      home_is = c.requires.region ∙ sym (ap (λ (x : LogId). x.region) (ap (λ (p : PublisherValue). p.of) d ∙ ap (λ (p : PublisherValue). p.of) pv ∙ c.requires.pass.of.table));
      freed_is = c.pass.invariant.freed_is ∙ sym (ap (λ (p : PublisherValue). p.freed) d);
      identity_is = c.identity.ensures.is ∙ sym (ap (λ (p : Pass). p.identity) is);
      start_is = c.start-start.ensures.is ∙ sym (ap (λ (p : Pass). p.start) is);
    }
