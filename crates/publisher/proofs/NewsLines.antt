-- Lines one behind the other.
use Rattle.std.proofs.Common.{◌≡◌, ◌∙◌, ◌++◌, ℕ, List, [], Option, None, Some, append-nil, append_assoc, ap, sym}
use Rattle.std.specs.Io.KnownBytes.{Appends}

pub none : (a b : Option (List ℕ)) → b ≡ a → Appends a b []
none None b same = tt
none (Some xs) None same = absurd (cc)
none (Some xs) (Some ys) same = some_is ys xs same ∙ sym (append-nil xs)
  where
    some_is : (ys xs : List ℕ) → ◌≡◌ {A = Option (List ℕ)} (Some ys) (Some xs) → ys ≡ xs
    some_is ys xs e = cc

pub both : (a b c : Option (List ℕ)) (first second : List ℕ) → Appends a b first → Appends b c second → Appends a c (first ++ second)
both None b c first second p q = tt
both (Some xs) None c first second p q = absurd p
both (Some xs) (Some ys) None first second p q = absurd q
both (Some xs) (Some ys) (Some zs) first second p q = q ∙ ap (λ (l : List ℕ). l ++ second) p ∙ append_assoc xs first second
