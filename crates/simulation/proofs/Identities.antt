-- An identity by its parts.
use Rattle.std.proofs.Common.{◌≡◌, ◌∙◌, sym, ap}
use Rattle.std.specs.Prelude.{ℤ}
use Rattle.theory.specs.Position.{Geometry}
use Rattle.theory.specs.Bytes.{Identity}

pub same_identity : (i : Identity) (g : Geometry) (s t : ℤ) → g ≡ i.geometry → s ≡ i.session → t ≡ i.stream → i ≡ record { geometry = g; session = s; stream = t }
same_identity i g s t eg es et =
    ap (λ (x : Geometry). record { geometry = x; session = i.session; stream = i.stream }) (sym eg)
    ∙ ap (λ (x : ℤ). record { geometry = g; session = x; stream = i.stream }) (sym es)
    ∙ ap (λ (x : ℤ). record { geometry = g; session = s; stream = x }) (sym et)
