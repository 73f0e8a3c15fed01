use Rattle.std.proofs.Common.{◌≡◌, ℕ, ◌+◌, subst, sym, ap, ◌∙◌, arith}
use Rattle.std.specs.Prelude.{length, vec_len}
use Rattle.theory.specs.Bytes.{Identity}
use Rattle.theory.specs.Placed.{Pad}
use Rattle.theory.specs.Position.{IsGeometry}
use Rattle.publication.specs.Claims.{HasBlank}
use Rattle.publication.specs.Steps.{geometry_of}
use Rattle.shared_log.specs.Steps.Handles.{IsOf, LogValue}
use Rattle.claims.specs.Holdings.{ClaimValue}
use Rattle.claims.specs.Claimings.{EndsClaim}
use Rattle.claims.proofs.Rests.{filled, filled_rests, open_blank}
use Rattle.claims.proofs.Boxed.{claim_is, has_open}
use Rattle.claims.proofs.Halves.{ends}
use Rattle.claims.proofs.claim.Claim.abort.Goals as goal

pub overflow_cast-size : goal.overflow_cast-size
overflow_cast-size c =
    let is : geometry_of c.as_mut.result.now.publisher.pass ≡ c.geometry.result = ap (λ (x : ClaimValue). geometry_of x.publisher.pass) (claim_is c.as_mut.ensures.value c.self.view_is) ∙ ap (λ (i : Identity). i.geometry) (c.requires.identity ∙ sym c.identity.ensures.is) ∙ sym c.geometry.ensures.value in
    let legal : IsGeometry (geometry_of c.as_mut.result.now.publisher.pass) = subst IsGeometry (sym is) c.geometry.ensures.legal in
    let size = c.len-size.ensures in let short = (has_open c.as_mut.ensures.value c.self.invariant).short in record { fits = omega (arith, size, short, legal.mtu.greatest, legal.mtu.least) }

pub abort-requires-clause-blank : goal.abort-requires-clause-blank
abort-requires-clause-blank c = subst (λ (n : ℕ). HasBlank c.as_mut.result.now.publisher.pass c.self.inside.start (32 + n)) (sym c.len-size.ensures) (open_blank c.as_mut.result.now.publisher c.self.inside.start c.self.inside.end (vec_len c.as_mut.result.now.bytes) _ (has_open c.as_mut.ensures.value c.self.invariant))

pub invariant_of-result : goal.invariant_of-result
invariant_of-result c = filled_rests c.as_mut.result.now.publisher c.abort.new.pass _ c.self.inside.start c.self.inside.end (vec_len c.as_mut.result.now.bytes) (Pad (32 + c.len-size.result)) (ap (λ (n : ℕ). 32 + n) c.len-size.ensures) (has_open c.as_mut.ensures.value c.self.invariant) c.abort.ensures.aborted

pub returns-clause-aborted : goal.returns-clause-aborted
returns-clause-aborted c =
    let l = c.args.log.now in let q = c.abort.new.pass in let part = c.abort.ensures.part in let p = c.as_mut.result.now.publisher in
    let claim : ClaimValue = record { publisher = p; start = c.self.inside.start; bytes = c.as_mut.result.now.bytes.items } in
    let whole = filled p.pass q.pass c.self.inside.start (vec_len c.as_mut.result.now.bytes) (Pad (32 + c.len-size.result)) (ap (λ (n : ℕ). 32 + n) c.len-size.ensures) (has_open c.as_mut.ensures.value c.self.invariant).one c.abort.ensures.aborted in
    subst (λ (x : ClaimValue). EndsClaim l x (Pad (32 + length x.bytes)) q) (claim_is c.as_mut.ensures.value c.self.view_is)
    (subst (λ (n : ℕ). EndsClaim l claim (Pad (32 + n)) q) (c.len-size.ensures ∙ c.as_mut.result.now.bytes.ok.0)
    (ends l claim (Pad (32 + c.len-size.result)) q part.took.noted (subst (λ (m : LogValue). IsOf m q) (part.moved.same ∙ c.new.ensures) part.moved.still) part.took.steps part.took.call whole))
