use Rattle.std.proofs.Common.{ℕ, sym, subst}
use Rattle.std.proofs.lemmas.Result.{IfErr-weaker, IfOk-weaker}
use Rattle.shared_log.specs.Steps.Handles.{PublisherValue}
use Rattle.claims.specs.Claimings.{ArmsFor, DeniesMessage, OpensClaim}
use Rattle.claims.proofs.armed.try_claim.Goals as goal

pub add-requires : goal.add-requires
add-requires c = c.in-Ok.ensures.armed.call.of

pub returns-in-Ok-clause-accepted : goal.returns-in-Ok-clause-accepted
returns-in-Ok-clause-accepted c =
    let l = c.args.log.now in let p = c.args.claimant in let a = c.in-Ok.armed in
    let is = c.in-Ok.ensures.armed.size_is in
    let arms : ArmsFor l p a.size a = subst (λ (n : ℕ). ArmsFor l p n a) (sym is) c.in-Ok.ensures.armed in
    IfOk-weaker c.add.result (λ x. (q : PublisherValue) → ArmsFor l q a.size a → OpensClaim l q a.size x) (λ x. OpensClaim l p c.args.length x)
    (λ x opens. subst (λ (n : ℕ). OpensClaim l p n x) is (opens p arms)) c.add.ensures.accepted

pub returns-in-Ok-clause-denied : goal.returns-in-Ok-clause-denied
returns-in-Ok-clause-denied c =
    let l = c.args.log.now in let p = c.args.claimant in let a = c.in-Ok.armed in
    let is = c.in-Ok.ensures.armed.size_is in
    let arms : ArmsFor l p a.size a = subst (λ (n : ℕ). ArmsFor l p n a) (sym is) c.in-Ok.ensures.armed in
    IfErr-weaker c.add.result (λ d. (q : PublisherValue) → ArmsFor l q a.size a → DeniesMessage l q a.size d.refusal d.claimant) (λ d. DeniesMessage l p c.args.length d.refusal d.claimant)
    (λ d denies. subst (λ (n : ℕ). DeniesMessage l p n d.refusal d.claimant) is (denies p arms)) c.add.ensures.denied
