-- The frames of a message hold all of its bytes.
use Rattle.std.proofs.Common.{◌≡◌, ℕ, zero, suc, ◌+◌, ◌-◌, ◌*◌, ◌/◌, ◌%◌, ⊎_elim, List, [], ◌∷◌, ◌++◌, true, false, cond, refl, sym, ap, ◌∙◌, arith}
use Rattle.std.specs.List.{sum_by}
use Rattle.std.specs.Prelude.{nat_le, nat_eq, replicate}
use Rattle.std.proofs.lemmas.Bool.{cases_Bool, eqb-true}
use Rattle.std.proofs.lemmas.List.Sums.{sum_by-cons}
use Rattle.std.proofs.lemmas.Nat.{div-add-mod'}
use Rattle.theory.specs.Position.{max_payload, rest_cut}
use Rattle.theory.specs.Laws.{HoldsBytes}

abbrev carried : List ℕ → ℕ
carried cuts = sum_by (λ cut. cut - 32) cuts

copies : (n cut : ℕ) (more : List ℕ) → carried (replicate n cut ++ more) ≡ n * (cut - 32) + carried more
copies zero cut more = omega arith
copies (suc n) cut more = omega (arith, sum_by-cons (λ cut. cut - 32) cut (replicate n cut ++ more), copies n cut more)

one : (n : ℕ) → carried ((n + 32) ∷ []) ≡ n
one n = let none : carried [] ≡ 0 = refl in omega (arith, sum_by-cons (λ cut. cut - 32) (n + 32) [], none)

rest : (n : ℕ) → carried (rest_cut n) ≡ n
rest n =
    ⊎_elim
    (λ (t : nat_eq n 0 ≡ true). ap (λ b. carried (cond b [] ((n + 32) ∷ []))) t ∙ sym (eqb-true n 0 t))
    (λ (f : nat_eq n 0 ≡ false). ap (λ b. carried (cond b [] ((n + 32) ∷ []))) f ∙ one n)
    (cases_Bool (nat_eq n 0))

pub holds_bytes : HoldsBytes
holds_bytes g m is =
    ⊎_elim
    (λ (t : nat_le m (max_payload g) ≡ true). ap (λ b. carried (cond b ((m + 32) ∷ []) (replicate (m / max_payload g) g.mtu ++ rest_cut (m % max_payload g)))) t ∙ one m)
    (λ (f : nat_le m (max_payload g) ≡ false).
    ap (λ b. carried (cond b ((m + 32) ∷ []) (replicate (m / max_payload g) g.mtu ++ rest_cut (m % max_payload g)))) f
    ∙ copies (m / max_payload g) g.mtu (rest_cut (m % max_payload g))
    ∙ ap (λ x. m / max_payload g * max_payload g + x) (rest (m % max_payload g))
    ∙ div-add-mod' m (max_payload g))
    (cases_Bool (nat_le m (max_payload g)))
