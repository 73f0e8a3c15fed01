use Rattle.std.proofs.Common.{◌∙◌, subst, sym}
use Rattle.std.specs.Prelude.{None, slice_set}
use Rattle.one_hand.specs.Stream.{Commits, Stream}
use Rattle.one_hand.specs.Hands.{stream_in}
use Rattle.one_hand.proofs.Handing.{ends_on, shown, there}
use Rattle.one_hand.proofs.InHand.{held_at, may_end}
use Rattle.one_hand.proofs.log_hand.LogHandClaims.commit.Goals as goal

pub commit_as-end-requires-clause-may : goal.commit_as-end-requires-clause-may
commit_as-end-requires-clause-may c = may_end c.self.inside.log c.in-Some.all c.self.inside.held c.args.publisher c.in-Some-held.held c.requires.publisher (there c.self.inside c.in-Some.all c.self.invariant (sym c.take.ensures.value ∙ c.in-Some.is)).hand (held_at c.self.inside.held c.args.publisher c.in-Some-held.held c.in-Some-held.is)

pub invariant_of-self : goal.invariant_of-self
invariant_of-self c = let s = (there c.self.inside c.in-Some.all c.self.invariant (sym c.take.ensures.value ∙ c.in-Some.is)) in ends_on c.self.inside.log c.in-Some.all c.commit_as-end.new.all (slice_set c.self.inside.held c.args.publisher None) _ _ s.numbers (c.commit_as-end.ensures c.self.inside.held s.hand (held_at c.self.inside.held c.args.publisher c.in-Some-held.held c.in-Some-held.is))

pub returns : goal.returns
returns c = subst (λ (s : Stream). Commits s c.args.publisher c.args.payload.now c.commit_as-end.result (stream_in c.commit_as-end.new.all (slice_set c.self.inside.held c.args.publisher None))) (shown c.self.inside c.in-Some.all _ c.self.view_is (sym c.take.ensures.value ∙ c.in-Some.is))
    (c.commit_as-end.ensures c.self.inside.held (there c.self.inside c.in-Some.all c.self.invariant (sym c.take.ensures.value ∙ c.in-Some.is)).hand (held_at c.self.inside.held c.args.publisher c.in-Some-held.held c.in-Some-held.is)).ends
