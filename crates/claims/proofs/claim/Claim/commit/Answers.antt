use Rattle.std.proofs.Common.{ℕ, ◌+◌, List, subst, sym, ap, ◌∙◌}
use Rattle.std.specs.Prelude.{vec_len}
use Rattle.theory.specs.Placed.{Data}
use Rattle.publication.specs.Claims.{HasBlank}
use Rattle.shared_log.specs.Steps.Handles.{IsOf, LogValue}
use Rattle.claims.specs.Holdings.{ClaimValue}
use Rattle.claims.specs.Claimings.{EndsClaim}
use Rattle.claims.proofs.Rests.{filled, filled_rests, open_blank}
use Rattle.claims.proofs.Boxed.{claim_is, has_open}
use Rattle.claims.proofs.Halves.{ends}
use Rattle.claims.proofs.claim.Claim.commit.Goals as goal

pub commit-requires-clause-blank : goal.commit-requires-clause-blank
commit-requires-clause-blank c = subst (λ (n : ℕ). HasBlank c.as_mut.result.now.publisher.pass c.self.inside.start (32 + n)) (sym c.as_slice.ensures.len) (open_blank c.as_mut.result.now.publisher c.self.inside.start c.self.inside.end (vec_len c.as_mut.result.now.bytes) _ (has_open c.as_mut.ensures.value c.self.invariant))

pub invariant_of-result : goal.invariant_of-result
invariant_of-result c = filled_rests c.as_mut.result.now.publisher c.commit.new.pass _ c.self.inside.start c.self.inside.end (vec_len c.as_mut.result.now.bytes) (Data 192 c.as_slice.result.now) (ap (λ (n : ℕ). 32 + n) c.as_slice.ensures.len) (has_open c.as_mut.ensures.value c.self.invariant) c.commit.ensures.committed

pub returns-clause-committed : goal.returns-clause-committed
returns-clause-committed c =
    let l = c.args.log.now in let q = c.commit.new.pass in let part = c.commit.ensures.part in let p = c.as_mut.result.now.publisher in
    let claim : ClaimValue = record { publisher = p; start = c.self.inside.start; bytes = c.as_mut.result.now.bytes.items } in
    let whole = filled p.pass q.pass c.self.inside.start (vec_len c.as_mut.result.now.bytes) (Data 192 c.as_slice.result.now) (ap (λ (n : ℕ). 32 + n) c.as_slice.ensures.len) (has_open c.as_mut.ensures.value c.self.invariant).one c.commit.ensures.committed in
    subst (λ (x : ClaimValue). EndsClaim l x (Data 192 x.bytes) q) (claim_is c.as_mut.ensures.value c.self.view_is)
    (subst (λ (bytes : List ℕ). EndsClaim l claim (Data 192 bytes) q) c.as_slice.ensures.value
    (ends l claim (Data 192 c.as_slice.result.now) q part.took.noted (subst (λ (m : LogValue). IsOf m q) (part.moved.same ∙ c.new.ensures) part.moved.still) part.took.steps part.took.call whole))
