-- One client's commands of a list, and what of them goes on.
use Rattle.std.proofs.Common.{◌≡◌, ◌≢◌, ℕ, List, [], ◌∷◌, ◌++◌, nat_eq, true, false, eq-eqb, ne_eqb, sym, refl, ap, ◌∙◌, ⊎_elim, append_assoc}
use Rattle.std.specs.List.{AllByRecursion}
use Rattle.std.proofs.lemmas.Bool.{cases_Bool, cond-true, cond-false}
use Rattle.conductor.specs.declared.command.Command.{Command}
use Rattle.conductor.specs.declared.command.Submitted.{Submitted}
use Rattle.conductor.specs.declared.hand.Report.{Report}
use Rattle.conductor.specs.Commands.{of, as_submitted, Begins}

pub of-append : (p : ℕ) (xs ys : List Submitted) → of p (xs ++ ys) ≡ of p xs ++ of p ys
of-append p [] ys = refl
of-append p (x ∷ xs) ys =
    ⊎_elim
    (λ (t : nat_eq x.client p ≡ true).
    cond-true (nat_eq x.client p) (x.command ∷ of p (xs ++ ys)) (of p (xs ++ ys)) t ∙ ap (λ l. x.command ∷ l) (of-append p xs ys)
    ∙ ap (λ l. l ++ of p ys) (sym (cond-true (nat_eq x.client p) (x.command ∷ of p xs) (of p xs) t)))
    (λ (f : nat_eq x.client p ≡ false).
    cond-false (nat_eq x.client p) (x.command ∷ of p (xs ++ ys)) (of p (xs ++ ys)) f ∙ of-append p xs ys
    ∙ ap (λ l. l ++ of p ys) (sym (cond-false (nat_eq x.client p) (x.command ∷ of p xs) (of p xs) f)))
    (cases_Bool (nat_eq x.client p))

-- the command of a client is its own, and nobody else's
pub of-same : (p : ℕ) (m : Submitted) (ms : List Submitted) → m.client ≡ p → of p (m ∷ ms) ≡ m.command ∷ of p ms
of-same p m ms e = cond-true (nat_eq m.client p) (m.command ∷ of p ms) (of p ms) (eq-eqb m.client p e)

pub of-not : (p : ℕ) (m : Submitted) (ms : List Submitted) → m.client ≢ p → of p (m ∷ ms) ≡ of p ms
of-not p m ms ne = cond-false (nat_eq m.client p) (m.command ∷ of p ms) (of p ms) (ne_eqb m.client p ne)

pub of-own : (p : ℕ) (cs : List Command) → of p (as_submitted p cs) ≡ cs
of-own p [] = refl
of-own p (c ∷ cs) = of-same p (record { client = p; command = c }) (as_submitted p cs) refl ∙ ap (λ l. c ∷ l) (of-own p cs)

pub of-other : (p q : ℕ) (cs : List Command) → p ≢ q → of q (as_submitted p cs) ≡ []
of-other p q [] ne = refl
of-other p q (c ∷ cs) ne = of-not q (record { client = p; command = c }) (as_submitted p cs) ne ∙ of-other p q cs ne

pub goes_on : (xs ys zs : List Command) → Begins xs ys → Begins xs (ys ++ zs)
goes_on xs ys zs b = (b.0 ++ zs, ap (λ l. l ++ zs) b.1 ∙ append_assoc xs b.0 zs)

pub all_reports : (sent sent' : ℕ → List Command) (heard : List Report) → ((p : ℕ) (xs : List Command) → Begins xs (sent p) → Begins xs (sent' p)) → AllByRecursion (λ (t : Report). Begins t.commands (sent t.client)) heard → AllByRecursion (λ (t : Report). Begins t.commands (sent' t.client)) heard
all_reports sent sent' [] on h = tt
all_reports sent sent' (t ∷ ts) on h = (on t.client t.commands h.0, all_reports sent sent' ts on h.1)
