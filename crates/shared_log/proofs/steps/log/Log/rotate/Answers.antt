use Rattle.std.proofs.Common.{◌≡◌, ℕ, suc, ◌+◌, [], ◌∷◌, ap, ◌∙◌, subst, arith}
use Rattle.publication.specs.Controls.{Leads}
use Rattle.publication.specs.Steps.{tail_exchange}
use Rattle.log_rule.specs.Claims.Admits.{Same}
use Rattle.log_rule.specs.declared.claims.view.View.{View}
use Rattle.log_memory.specs.Steps.{Mine}
use Rattle.log_memory.specs.declared.view.Part.{Part}
use Rattle.shared_log.specs.Steps.Handles.{PublisherValue}
use Rattle.shared_log.proofs.Resting.{rests_on}
use Rattle.shared_log.proofs.Works.{rotates_drafts}
use Rattle.shared_log.proofs.steps.log.Log.rotate.Goals as goal

pub invariant_of-pass : goal.invariant_of-pass
invariant_of-pass c =
    let m : Mine = c.pass.inside.seat.me in let n : Mine = c.exchange_next.new.seat.me in let t = c.exchange_next.ensures.told in
    rests_on c.pass.inside.key.identity m n c.pass.invariant (ap (λ (x : Part). x.has) t.part ∙ c.pass.invariant.idle.0, t.parked ∙ c.pass.invariant.idle.1) t.carried t.room (rotates_drafts m.0.view.pass c.args.count c.args.from c.exchange_next.result n.0.view.pass t.told.4) t.told.2.identity

pub returns-clause-stepped : goal.returns-clause-stepped
returns-clause-stepped c =
    let told = c.exchange_next.ensures.told.told in let w : View = c.exchange_next.new.seat.me.0.view in let was = c.pass.view_is in let made = told.1 in let before = ap (λ (p : PublisherValue). p.steps) was in record {
      of = (λ j. record { table = c.exchange_next.ensures.seat.0 j; region = c.pass.inside.key.identity }) ∙ ap (λ (p : PublisherValue). p.of) was;
      seat = c.exchange_next.ensures.seat.1 ∙ ap (λ (p : PublisherValue). p.seat) was;
      steps = made ∙ one c.pass.inside.seat.me.0.view.steps ∙ ap (λ (n : ℕ). n + 1) before;
      same = subst (λ (p : PublisherValue). Same p.pass w.pass) was told.2;
      sure = told.3.sure ∙ ap (λ (p : PublisherValue). p.sure) was;
      leads = subst (λ (x : PublisherValue). x.sure ≡ 1 → Leads x.controls (tail_exchange x.pass c.args.count c.args.from c.exchange_next.result ∷ []) w.controls) was told.3.leads;
      freed = ap (λ r. r.freed) c.exchange_next.ensures.told.room ∙ ap (λ (p : PublisherValue). p.freed) was;
    }
  where
    one : (n : ℕ) → suc n ≡ n + 1
    one n = omega arith
