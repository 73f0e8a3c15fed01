-- The fields of a line, one word after another.
use Rattle.std.proofs.Common.{◌≡◌, ℕ, ℤ, true, List, [], ◌∷◌, Some, refl, ap, subst, ◌∙◌}
use Rattle.std.specs.Prelude.{bytes_eq}
use Rattle.std.proofs.lemmas.Slice.Eq.{bytes_eq-Decides}
use Rattle.text.specs.Decimals.{◌>>=◌, number_of, signed_of}
use Rattle.script.specs.Reading.{word_at, number_at, signed_at, end_of, whole}
use Rattle.script.specs.Language.{IsUpTo, IsSigned}
use Rattle.script.proofs.Options.{bind_some, some_bind}
use Rattle.script.proofs.Words.{number_found, number_only, signed_found, signed_only}

pub same_name : (a b : List ℕ) → bytes_eq a b ≡ true → a ≡ b
same_name a b e = (bytes_eq-Decides a b).0 e

pub word_found : (ws : List (List ℕ)) (x : List ℕ × List (List ℕ)) → word_at ws ≡ Some x → ws ≡ x.0 ∷ x.1
unfolding word_at
word_found [] x e = absurd (cc)
word_found (w ∷ ws) x e =
    let same : (w, ws) ≡ x = cc in
    ap (λ p. p.0 ∷ p.1) same

pub number_at_found : (most : ℕ) (ws : List (List ℕ)) (x : ℕ × List (List ℕ)) → number_at most ws ≡ Some x → (w : List ℕ) × (ws ≡ w ∷ x.1) × IsUpTo most w x.0
unfolding number_at
number_at_found most ws x e =
    let w = bind_some (word_at ws) (λ w. number_of most w.0 >>= λ n. Some (n, w.1)) x e in
    let n = bind_some (number_of most w.0.0) (λ n. Some (n, w.0.1)) x w.2 in
    let same : (n.0, w.0.1) ≡ x = cc in
    (w.0.0, word_found ws w.0 w.1 ∙ ap (λ rest. w.0.0 ∷ rest) (ap (λ p. p.1) same), subst (IsUpTo most w.0.0) (ap (λ p. p.0) same) (number_found most w.0.0 n.0 n.1))

pub number_at_only : (most : ℕ) (w : List ℕ) (rest : List (List ℕ)) (n : ℕ) → IsUpTo most w n → number_at most (w ∷ rest) ≡ Some (n, rest)
unfolding number_at word_at
number_at_only most w rest n is = some_bind (number_of most w) (λ n. Some (n, rest)) n (number_only most w n is)

pub signed_at_found : (ws : List (List ℕ)) (x : ℤ × List (List ℕ)) → signed_at ws ≡ Some x → (w : List ℕ) × (ws ≡ w ∷ x.1) × IsSigned w x.0
unfolding signed_at
signed_at_found ws x e =
    let w = bind_some (word_at ws) (λ w. signed_of w.0 >>= λ n. Some (n, w.1)) x e in
    let n = bind_some (signed_of w.0.0) (λ n. Some (n, w.0.1)) x w.2 in
    let same : (n.0, w.0.1) ≡ x = cc in
    (w.0.0, word_found ws w.0 w.1 ∙ ap (λ rest. w.0.0 ∷ rest) (ap (λ p. p.1) same), subst (IsSigned w.0.0) (ap (λ p. p.0) same) (signed_found w.0.0 n.0 n.1))

pub signed_at_only : (w : List ℕ) (rest : List (List ℕ)) (z : ℤ) → IsSigned w z → signed_at (w ∷ rest) ≡ Some (z, rest)
unfolding signed_at word_at
signed_at_only w rest z is = some_bind (signed_of w) (λ n. Some (n, rest)) z (signed_only w z is)

pub whole_found : {A : Type 0} (y : A) (ws : List (List ℕ)) (x : A) → whole y ws ≡ Some x → (ws ≡ []) × (y ≡ x)
unfolding end_of
whole_found y [] x e = (refl, cc)
whole_found y (w ∷ ws) x e = absurd (cc)

pub whole_only : {A : Type 0} (y : A) → whole y [] ≡ Some y
unfolding end_of
whole_only y = refl
