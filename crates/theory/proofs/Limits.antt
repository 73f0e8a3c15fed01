-- The flow limit is the greatest of what was allowed.
use Rattle.std.proofs.Common.{◌≡◌, ℕ, ◌<◌, ◌≤◌, ◌⊎◌, inl, inr, ⊎_elim, List, [], ◌∷◌, refl, ◌∙◌, arith}
use Rattle.std.specs.Prelude.{max, ◌+ℤ◌}
use Rattle.std.proofs.lemmas.Bool.{cases_lt}
use Rattle.theory.specs.Placed.{Among}
use Rattle.theory.specs.FlowLimit.{Said, clipped, flow_limit, IsFlowLimit}
use Rattle.theory.specs.SenderLaws.{LimitIsGreatest}
use Rattle.theory.proofs.Lists.{all_weaker}

abbrev reach : Said → ℕ
reach s = clipped (s.position +ℤ s.window)

abbrev Reached : ℕ → List Said → ℕ → Type 0
Reached start said limit = (limit ≡ start) ⊎ ((s : Said) × Among s said × (limit ≡ reach s))

later : (start : ℕ) (s : Said) (ss : List Said) (limit most : ℕ) → most ≡ limit → Reached start ss limit → Reached start (s ∷ ss) most
later start s ss limit most e (inl h) = inl (e ∙ h)
later start s ss limit most e (inr h) = inr (h.0, inr h.1, e ∙ h.2)

pub limit_is_greatest : LimitIsGreatest
limit_is_greatest start [] = record { from = omega arith; above = tt; reached = inl refl }
limit_is_greatest start (s ∷ ss) =
    let rest : IsFlowLimit start ss (flow_limit start ss) = limit_is_greatest start ss in
    record {
      from = omega (arith, rest.from);
      above = (omega arith, all_weaker (λ x. reach x ≤ flow_limit start ss) (λ x. reach x ≤ max (reach s) (flow_limit start ss)) (λ x h. omega arith) ss rest.above);
      reached = ⊎_elim
          (λ (l : flow_limit start ss < reach s). inr (s, inl refl, omega arith))
          (λ (l : reach s ≤ flow_limit start ss). later start s ss (flow_limit start ss) (max (reach s) (flow_limit start ss)) (omega arith) rest.reached)
          (cases_lt (flow_limit start ss) (reach s));
    }
