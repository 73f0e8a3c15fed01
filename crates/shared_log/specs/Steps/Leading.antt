-- Steps on the control words, one behind the other.
use Rattle.std.specs.Prelude.{◌≡◌, ℕ, ◌+◌, List, [], ◌∷◌, ◌++◌, length}
use Rattle.std.proofs.Common.{◌∙◌, add_assoc, add_comm, add-zero, ap, length-append, refl, subst, sym}
use Rattle.publication.specs.declared.pass.Controls.{Controls}
use Rattle.publication.specs.declared.step.WordStep.{WordStep}
use Rattle.publication.specs.Controls.{Leads, left}
use Rattle.shared_log.specs.Steps.Handles.{PublisherValue, Took}

pub leads_on : (c d e : Controls) (xs ys : List WordStep) → Leads c xs d → Leads d ys e → Leads c (xs ++ ys) e
leads_on c d e [] ys x y = subst (λ (z : Controls). Leads z ys e) x y
leads_on c d e (s ∷ xs) ys x y = (x.0, leads_on (left c s) d e xs ys x.1 y)

swapped : (k a l b : ℕ) → (k + a) + (l + b) ≡ (k + l) + (a + b)
swapped k a l b = add_assoc k a (l + b) ∙ ap (λ (z : ℕ). k + z) (sym (add_assoc a l b) ∙ ap (λ (z : ℕ). z + b) (add_comm a l) ∙ add_assoc l a b) ∙ sym (add_assoc k l (a + b))

-- no step was made
pub took_none : (p : PublisherValue) → Took p [] 0 p
took_none p = record { steps = sym (add-zero p.steps); sure = refl; leads = λ _. refl; freed = refl }

pub took_more : (p q r : PublisherValue) (xs ys : List WordStep) (a b : ℕ) → Took p xs a q → Took q ys b r → Took p (xs ++ ys) (a + b) r
took_more p q r xs ys a b x y = record {
  steps = y.steps ∙ ap (λ (z : ℕ). z + (length ys + b)) x.steps ∙ add_assoc p.steps (length xs + a) (length ys + b) ∙ ap (λ (z : ℕ). p.steps + z) (swapped (length xs) a (length ys) b ∙ ap (λ (z : ℕ). z + (a + b)) (sym (length-append xs ys)));
  sure = y.sure ∙ x.sure;
  leads = λ one. leads_on p.controls q.controls r.controls xs ys (x.leads one) (y.leads (x.sure ∙ one));
  freed = y.freed ∙ x.freed;
}
