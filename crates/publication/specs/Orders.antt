-- Claims in the order of the stream.
use Rattle.std.specs.Prelude.{ℕ, ◌+◌, ◌≤◌, ⊤, List, [], ◌∷◌}
use Rattle.std.specs.List.{AllByRecursion}
use Rattle.theory.specs.Position.{span}
use Rattle.publication.specs.declared.pass.ClaimRange.{ClaimRange}

-- the position behind a claim
abbrev pub claim_end : ClaimRange → ℕ
claim_end c = c.start + span c.cuts

-- each of them ends at a position, or below it
abbrev pub EndBelow : ℕ → List ClaimRange → Type 0
EndBelow p cs = AllByRecursion (λ c. claim_end c ≤ p) cs

-- each ends where any behind it in the list begins, or below that
abbrev pub AreInOrder : List ClaimRange → Type 0
AreInOrder [] = ⊤
AreInOrder (c ∷ cs) = AllByRecursion (λ d. claim_end c ≤ d.start) cs × AreInOrder cs
